use Rattle.std.proofs.Common.{◌<◌, rules, tests}
use Rattle.std.proofs.lemmas.Iterator.{YieldsList-from_slice, cases_from_all}
use Rattle.broker_state.proofs.Alls.{all_tells}
use Rattle.broker_state.proofs.part_checks.is_over.Goals as goal

pub returns : goal.returns
returns c =
    let deliveries = c.args.deliveries.now in
    all_tells (λ d. d.0 < c.args.next_delivery) deliveries c.all.result (cases_from_all _ _ _ (λ d. d.0 < c.args.next_delivery) (λ d. ¬ (d.0 < c.args.next_delivery)) c.all.ensures.ran (YieldsList-from_slice deliveries cc) (λ x q k. search (rules, tests)) (λ x q k. search (rules, tests)))
