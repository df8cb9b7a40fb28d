-- How failures are counted.
use Rattle.std.specs.Prelude.{◌≡◌, ℕ, ◌+◌, ◌^◌, ◌≤◌, ◌⊎◌, Result, OnOk, OnErr}

-- one more, or the same if the count is at the end of a `u64`
abbrev pub IsOneMore : ℕ → ℕ → Type 0
IsOneMore before now = (now ≡ before + 1) ⊎ ((now ≡ before) × (2 ^ 64 ≤ now + 1))

-- a call that fails adds one to the failures, and one that succeeds adds none
pub record HasCause {T E : Type 0} (before now : ℕ) (result : Result T E) : Type 0 where
  pub ok : OnOk result (now ≡ before)
  pub err : OnErr result (IsOneMore before now)
