use Rattle.std.proofs.Common.{[], ℕ, List, replicate, ◌∙◌, ap}
use Rattle.claim_core.specs.declared.limits.TheConstants.{SEATS}
use Rattle.world_core.specs.declared.seat.Seat.{Seat}
use Rattle.world_core.specs.Schedules.{crashed}
use Rattle.world_core.proofs.world.seated.Goals as goal

pub returns-in-Ok : goal.returns-in-Ok
returns-in-Ok c =
    let seats = c.in-Ok.ensures ∙ ap (λ (n : ℕ). replicate SEATS (record { own = []; seen = n })) c.count.ensures in
    c.crashed_parts.ensures
    ∙ ap (λ (all : List Seat). record (crashed c.args.size c.args.broker.now.state c.args.content.items) { seats = all; disk = record { size = c.args.size; content = c.args.content.items; held = c.args.held.items } }) seats
