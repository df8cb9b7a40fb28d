-- What stops at the moments of a run might have left.
use Rattle.std.specs.Prelude.{ℕ, ◌≤◌, ◌⊎◌, List}

-- Time goes on: a stop since a moment might have left what it might have left before, or what it may leave now.
pub record Elapses (before now : ℕ) (past since : ℕ → List ℕ → Type 0) (images : List ℕ → Type 0) : Type 0 where
  pub later : before ≤ now
  pub nothing_else : (t : ℕ) (c : List ℕ) → t ≤ before → since t c → past t c ⊎ images c
  pub keeps : (t : ℕ) (c : List ℕ) → t ≤ before → past t c → since t c

-- Time goes on in a call.
abbrev pub Passes : {D : Type 0} → (D → ℕ) → (D → ℕ → List ℕ → Type 0) → (D → List ℕ → Type 0) → D → D → Type 0
Passes moment images_since images old new = Elapses (moment old) (moment new) (images_since old) (images_since new) (images new)

-- A stop at any moment since old leaves bytes that have P.
pub record LeavesOnly {D : Type 0} (moment : D → ℕ) (images_since : D → ℕ → List ℕ → Type 0) (old new : D) (P : List ℕ → Type 0) : Type 0 where
  pub later : moment old ≤ moment new
  pub each : (c : List ℕ) → images_since new (moment old) c → P c
  -- for a run that began earlier
  pub before : (t : ℕ) (c : List ℕ) → t ≤ moment old → images_since new t c → images_since old t c ⊎ P c
