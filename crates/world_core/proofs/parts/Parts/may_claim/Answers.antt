use Rattle.std.proofs.Common.{length, refl}
use Rattle.std.proofs.lemmas.Option.{slice_get_read}
use Rattle.world_core.specs.Parts.{value_of}
use Rattle.world_core.proofs.Telling.{may_not, may_where}
use Rattle.world_core.proofs.parts.Parts.may_claim.Goals as goal

pub returns-then-has_room : goal.returns-then-has_room
returns-then-has_room c =
    let w = value_of c.args.self.now in
    let seat = c.index-seat.result.now in
    may_where w c.args.j seat c.has_room.result c.is_last_ready.result (slice_get_read w.seats (length w.seats) c.args.j seat refl c.requires c.index-seat.ensures) c.has_room.ensures c.if-has_room.true c.is_last_ready.ensures

pub returns-else-has_room : goal.returns-else-has_room
returns-else-has_room c =
    let w = value_of c.args.self.now in
    let seat = c.index-seat.result.now in
    may_not w c.args.j seat c.has_room.result (slice_get_read w.seats (length w.seats) c.args.j seat refl c.requires c.index-seat.ensures) c.has_room.ensures c.if-has_room.false
