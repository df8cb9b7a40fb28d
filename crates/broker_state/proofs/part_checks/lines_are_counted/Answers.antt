use Rattle.std.proofs.Common.{◌<◌, rules, tests}
use Rattle.std.proofs.lemmas.Iterator.{cases_from_all}
use Rattle.std.proofs.lemmas.Iterator.Consumers.{YieldsList-from_rest}
use Rattle.std.specs.List.{AllByRecursion}
use Rattle.broker_state.proofs.Alls.{all_tells}
use Rattle.broker_state.proofs.part_checks.lines_are_counted.Goals as goal

pub returns : goal.returns
returns g c =
    all_tells (λ e. AllByRecursion (λ m. m.number.command < c.args.count) e.1) c.args.lines.now.entries c.all.result (cases_from_all _ _ _ (λ e. AllByRecursion (λ m. m.number.command < c.args.count) e.1) (λ e. ¬ (AllByRecursion (λ m. m.number.command < c.args.count) e.1)) c.all.ensures.ran (YieldsList-from_rest c.args.lines.now.entries c.iter.ensures.rest) (λ x q k. search (rules, tests)) (λ x q k. search (rules, tests)))
