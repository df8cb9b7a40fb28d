-- What a `FuseDisk` shows.
use Rattle.std.specs.Prelude.{◌≡◌, ◌<◌, ℕ, ◌+◌, Result, IsErr}
use Rattle.disk_core.specs.declared.fuse.FuseDisk.{FuseDisk}
use Rattle.disk_core.specs.Faults.{HasCause}

-- the disk that it passes calls on to
abbrev pub fused : {D : Type 0} → FuseDisk D → D
fused f = f.disk

-- how many more calls it passes on
abbrev pub calls_left : {D : Type 0} → FuseDisk D → ℕ
calls_left f = f.left

-- the calls that failed by it, and those of its disk that failed
abbrev pub all_failures : {D : Type 0} → (D → ℕ) → FuseDisk D → ℕ
all_failures failures f = failures f.disk + f.failed

-- If calls are left, this one is passed on, and one fewer is left. If none is, it fails.
pub record Burns {D T E : Type 0} (failures : D → ℕ) (old new : FuseDisk D) (result : Result T E) : Type 0 where
  pub passed : 0 < calls_left old → HasCause (failures (fused old)) (failures (fused new)) result
  pub left : 0 < calls_left old → calls_left new + 1 ≡ calls_left old
  pub blown : calls_left old ≡ 0 → IsErr result × (calls_left new ≡ 0)
