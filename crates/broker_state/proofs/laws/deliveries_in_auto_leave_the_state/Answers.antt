use Rattle.std.proofs.Common.{◌∙◌, ap}
use Rattle.broker_state.specs.HandOut.{handed_from, handed_to}
use Rattle.broker_state.proofs.Deliveries.{handed_weight}
use Rattle.broker_state.proofs.laws.deliveries_in_auto_leave_the_state.Goals as goal

pub returns : goal.returns
returns c = λ weight s sub others m rest order is line.
    (ap (handed_to s) is ∙ ap (handed_from s sub others) line, handed_weight weight s sub others m rest (record { names = order.names; queues = order.queues }) is line)
