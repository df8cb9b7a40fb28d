use Rattle.std.proofs.Common.{◌≡◌, ℕ, List, IfOk, subst}
use Rattle.world_core.specs.Readings.{IsRead, Reading}
use Rattle.world_core.proofs.recovering.gate_in.Goals as goal

pub returns : goal.returns
returns c =
    subst (λ (l : List ℕ). IfOk c.gate_on-gate.result (λ gate. (size : ℕ) (r : Reading) → IsRead size l r → gate ≡ r.gate)) c.in_ok-disk.ensures c.gate_on-gate.ensures
