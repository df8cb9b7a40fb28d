use Rattle.std.proofs.Common.{◌<◌, length, refl, arith}
use Rattle.world_core.specs.Events.{AreThere, looks}
use Rattle.world_core.specs.Parts.{value_of}
use Rattle.world_core.proofs.Telling.{fails_where, holds_where, seat_changes}
use Rattle.world_core.proofs.parts.Parts.look.Goals.{then-not-are_there-via-then-not-are_there, then-not-are_there-via-else-not-are_there+then-j-len}
use Rattle.world_core.proofs.parts.Parts.look.Goals as goal

pub returns-then-not-are_there : goal.returns-then-not-are_there
returns-then-not-are_there c r x = (
  λ may. elim c.then-not-are_there.branch [
    | then-not-are_there-via-then-not-are_there w ↦ fails_where c.are_there.result (AreThere c.args.self.now.phase) c.are_there.ensures w.if-not-are_there.true may.0
    | then-not-are_there-via-else-not-are_there+then-j-len w ↦ absurd (omega (arith, may.1, w.if-j-len.true, w.len.ensures))
  ],
  refl,
)

pub returns : goal.returns
returns c r x =
    let old = c.args.self.now in
    let low : c.args.j < length old.seats.items = omega (arith, c.if-j-len.false, c.len.ensures) in
    let seats = seat_changes (looks old.mark) old.seats.items c.args.j c.index_mut.result.now low c.index_mut.ensures.value in
    ((holds_where c.are_there.result (AreThere old.phase) c.are_there.ensures c.if-not-are_there.false, low), λ i. record (value_of old) { seats = seats i })
