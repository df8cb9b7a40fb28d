use Rattle.std.proofs.Common.{arith}
use Rattle.std.proofs.lemmas.Bool.{ltb-true, lt-ltb}
use Rattle.world_core.proofs.world.has_room.Goals as goal

pub returns-then-seat-lt-FAR : goal.returns-then-seat-lt-FAR
returns-then-seat-lt-FAR c = (
  λ yes. (c.if-seat-lt-FAR.true, omega (arith, ltb-true _ _ yes, c.open.ensures)),
  λ both. lt-ltb _ _ (omega (arith, both.1, c.open.ensures)),
)

pub returns-else-seat-lt-FAR : goal.returns-else-seat-lt-FAR
returns-else-seat-lt-FAR c = (
  λ yes. absurd (omega (arith, ltb-true _ _ yes, c.if-seat-lt-FAR.false)),
  λ both. absurd (omega (arith, both.0, c.if-seat-lt-FAR.false)),
)
