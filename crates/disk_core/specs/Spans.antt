-- Ranges of a disk, and which of its bytes lie in them.
use Rattle.std.specs.Prelude.{◌≡◌, ◌<◌, ◌≤◌, ◌+◌, ℕ, List, length, slice_get, slice_index_or, All, Option, Some, None}
use Rattle.disk_core.specs.declared.span.Span.{Span}

-- all of n bytes
abbrev pub whole : ℕ → Span
whole n = record { at = 0; len = n }

-- the byte at i is in the range
pub record Has (span : Span) (i : ℕ) : Type 0 where
  pub from : span.at ≤ i
  pub to : i < span.at + span.len

-- the byte at i is in one of the ranges from the kth on
pub record AmongFrom (k : ℕ) (spans : List Span) (i : ℕ) : Type 0 where
  pub place : ℕ
  pub span : Span
  pub later : k ≤ place
  pub is : slice_get spans place ≡ Some span
  pub has : Has span i

-- the range ends within n bytes
abbrev pub EndsIn : ℕ → Span → Type 0
EndsIn n span = span.at + span.len ≤ n

-- each byte that is held lies in one of the ranges from the kth on
abbrev pub IsHeldIn : ℕ → List Span → List (Option ℕ) → Type 0
IsHeldIn k spans held = (i b : ℕ) → slice_index_or held i None ≡ Some b → AmongFrom k spans i

-- the ranges lie within the disk, and each byte that is held lies in one of them
pub record IsCover (spans : List Span) (held : List (Option ℕ)) : Type 0 where
  pub within : All (EndsIn (length held)) spans
  pub each : IsHeldIn 0 spans held
