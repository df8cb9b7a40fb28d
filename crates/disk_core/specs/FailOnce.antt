-- What a `FailOnce` shows.
use Rattle.std.specs.Prelude.{◌≡◌, ◌≢◌, ℕ, ◌+◌, None, Option, Result, Some, IsErr}
use Rattle.disk_core.specs.declared.fuse.FailOnce.{FailOnce}
use Rattle.disk_core.specs.Faults.{HasCause, IsOneMore}

-- the disk that it passes calls on to
abbrev pub below : {D : Type 0} → FailOnce D → D
below f = f.disk

-- the number of the call that fails, counted from 0; none once it has failed
abbrev pub due : {D : Type 0} → FailOnce D → Option ℕ
due f = f.due

-- how many calls were made, up to the end of a `u64`
abbrev pub calls_made : {D : Type 0} → FailOnce D → ℕ
calls_made f = f.made

-- the call that failed by it, and those of its disk that failed
abbrev pub all_failures : {D : Type 0} → (D → ℕ) → FailOnce D → ℕ
all_failures failures f = failures f.disk + f.failed

-- If the call is due, it fails, and none is due any more. Any other call is passed on. Each is
-- counted.
pub record FailsDue {D T E : Type 0} (failures : D → ℕ) (old new : FailOnce D) (result : Result T E) : Type 0 where
  pub fails : due old ≡ Some (calls_made old) → IsErr result × (due new ≡ None)
  pub passed : due old ≢ Some (calls_made old) → HasCause (failures (below old)) (failures (below new)) result × (due new ≡ due old)
  pub counted : IsOneMore (calls_made old) (calls_made new)
