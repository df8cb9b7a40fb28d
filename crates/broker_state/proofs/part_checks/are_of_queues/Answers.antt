use Rattle.std.proofs.Common.{◌≡◌, List, ℕ, false, rules, tests, true}
use Rattle.std.proofs.lemmas.Iterator.{cases_from_all}
use Rattle.std.proofs.lemmas.Iterator.Consumers.{YieldsList-from_rest}
use Rattle.command_core.specs.Destinations.{is_queue}
use Rattle.line_core.specs.declared.message.Message.{Message}
use Rattle.broker_state.specs.Lists.{is_none}
use Rattle.broker_state.specs.Sound.{AreTo}
use Rattle.broker_state.proofs.Alls.{all_tells}
use Rattle.broker_state.proofs.part_checks.are_of_queues.Goals as goal

abbrev IsKept : List ℕ × List Message → Type 0
IsKept line = (is_queue line.0 ≡ true) × (is_none line.1 ≡ false) × AreTo line.0 line.1

pub returns : goal.returns
returns c =
    all_tells IsKept c.args.queues.now.entries c.all.result (cases_from_all _ _ _ IsKept (λ e. ¬ (IsKept e)) c.all.ensures.ran (YieldsList-from_rest c.args.queues.now.entries c.iter.ensures.rest) (λ x q k. search (rules, tests)) (λ x q k. search (rules, tests)))
