-- What one call of an open file leaves.
use Rattle.std.specs.Prelude.{◌≡◌, ◌++◌, ◌∷◌, [], ℕ, List, Result, IfOk, OnErr}
use Rattle.disk_core.specs.declared.synced_file.FileEvent.{FileEvent}
use Rattle.disk_core.specs.Faults.{HasCause}

-- A call adds its event if it succeeds, and one to the failures if it fails.
pub record IsAsked {F T E : Type 0} (events : F → List FileEvent) (failures : F → ℕ) (is_honest : F → Type 0) (old new : F) (result : Result T E) (event : T → FileEvent) : Type 0 where
  pub honest : is_honest new
  pub ok : IfOk result (λ answer. events new ≡ events old ++ event answer ∷ [])
  pub err : OnErr result (events new ≡ events old)
  pub cause : HasCause (failures old) (failures new) result
