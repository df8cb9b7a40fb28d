use Rattle.std.proofs.Common.{◌≡◌, refl, arith}
use Rattle.world_core.specs.declared.parts.Period.TheVariants.{Running}
use Rattle.world_core.proofs.Telling.{fails_where, holds_where}
use Rattle.world_core.proofs.parts.Parts.raise.Goals.{then-not-is_running-via-then-not-is_running, then-not-is_running-via-else-not-is_running+then-n-self, then-not-is_running-via-else-not-is_running+else-n-self+then-self-n}
use Rattle.world_core.proofs.parts.Parts.raise.Goals as goal

pub returns-then-not-is_running : goal.returns-then-not-is_running
returns-then-not-is_running c r x = (
  λ may. elim c.then-not-is_running.branch [
    | then-not-is_running-via-then-not-is_running w ↦ fails_where c.is_running.result (c.args.self.now.phase ≡ Running) c.is_running.ensures w.if-not-is_running.true may.0
    | then-not-is_running-via-else-not-is_running+then-n-self w ↦ absurd (omega (arith, may.1, w.if-n-self.true))
    | then-not-is_running-via-else-not-is_running+else-n-self+then-self-n w ↦ absurd (omega (arith, may.2, w.if-self-n.true))
  ],
  refl,
)

pub returns : goal.returns
returns c r x =
    ((holds_where c.is_running.result (c.args.self.now.phase ≡ Running) c.is_running.ensures c.if-not-is_running.false, c.if-n-self.false, c.if-self-n.false), refl)
