use Rattle.std.proofs.Common.{◌∙◌, ap}
use Rattle.area_core.specs.Areas.{commands}
use Rattle.broker_core.specs.States.{BrokerValue}
use Rattle.world_core.proofs.Answered.{begins_with}
use Rattle.world_core.proofs.world.first_parts.Goals as goal

pub returns : goal.returns
returns c =
    begins_with c.args.size c.of-opening.result.value.state (commands c.new.result.items) c.new-2.result.items c.args.seats.items c.new-3.result.items c.new-4.result.items c.args.content.items c.args.held.items
    (ap (λ (b : BrokerValue). b.state) (c.of-opening.ensures ∙ c.new-broker.ensures)) (ap (λ es. commands es) c.new.ensures.items) c.new-2.ensures.items c.new-3.ensures.items c.new-4.ensures.items
