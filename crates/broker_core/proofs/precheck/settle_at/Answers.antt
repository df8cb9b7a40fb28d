use Rattle.std.proofs.Common.{◌≡◌, Some, ap, arith, slice_get}
use Rattle.std.proofs.lemmas.Grind.{common_steps}
use Rattle.std.proofs.lemmas.Option.{gets}
use Rattle.broker_core.specs.Prechecks.{left_by}
use Rattle.broker_tables.proofs.Waiters.{set_changed}
use Rattle.broker_core.proofs.precheck.settle_at.Goals as goal

pub returns-in-Ok-clause-left : goal.returns-in-Ok-clause-left
returns-in-Ok-clause-left c =
    let flight = c.index_mut-flight.result.now in
    let found : slice_get c.args.flights.now.items c.args.at ≡ Some flight = grind (arith, common_steps, gets) in
    set_changed (left_by c.args.delivery) c.args.flights.now.items c.args.at flight (record flight { deliveries = c.settle.new.self }) found (ap (λ l. record flight { deliveries = l }) c.in-Ok.ensures.unsettled)
