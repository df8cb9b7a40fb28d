use Rattle.std.proofs.Common.{◌≡◌, IfSome, List, ℕ, false, rules, tests}
use Rattle.std.proofs.lemmas.Iterator.{cases_from_all}
use Rattle.std.proofs.lemmas.Iterator.Consumers.{YieldsList-from_rest}
use Rattle.line_core.specs.declared.message.Message.{Message}
use Rattle.broker_state.specs.Lists.{is_none}
use Rattle.broker_state.specs.Names.{Name}
use Rattle.broker_state.specs.Operations.{topic_of}
use Rattle.broker_state.specs.Sound.{AreTo}
use Rattle.broker_state.proofs.Alls.{all_tells}
use Rattle.broker_state.proofs.part_checks.are_of_names.Goals as goal

abbrev IsKept : List (Name × List ℕ) → Name × List Message → Type 0
IsKept durables line = (is_none line.1 ≡ false) × IfSome (topic_of line.0 durables) (λ topic. AreTo topic line.1)

pub returns : goal.returns
returns c =
    let P = IsKept c.args.parts.now.durables.entries in
    all_tells P c.args.parts.now.names.entries c.all.result (cases_from_all _ _ _ P (λ e. ¬ (P e)) c.all.ensures.ran (YieldsList-from_rest c.args.parts.now.names.entries c.iter.ensures.rest) (λ x q k. search (rules, tests)) (λ x q k. search (rules, tests)))
