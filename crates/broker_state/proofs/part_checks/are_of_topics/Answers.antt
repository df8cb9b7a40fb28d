use Rattle.std.proofs.Common.{◌≡◌, false, rules, tests}
use Rattle.std.proofs.lemmas.Iterator.{cases_from_all}
use Rattle.std.proofs.lemmas.Iterator.Consumers.{YieldsList-from_rest}
use Rattle.command_core.specs.Destinations.{is_queue}
use Rattle.broker_state.proofs.Alls.{all_tells}
use Rattle.broker_state.proofs.part_checks.are_of_topics.Goals as goal

pub returns : goal.returns
returns c =
    all_tells (λ e. is_queue e.1 ≡ false) c.args.durables.now.entries c.all.result (cases_from_all _ _ _ (λ e. is_queue e.1 ≡ false) (λ e. ¬ (is_queue e.1 ≡ false)) c.all.ensures.ran (YieldsList-from_rest c.args.durables.now.entries c.iter.ensures.rest) (λ x q k. search (rules, tests)) (λ x q k. search (rules, tests)))
