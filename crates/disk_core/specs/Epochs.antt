-- What was held when a sync came, from the ranges that it was held in.
use Rattle.std.specs.Prelude.{ℕ, ◌+◌, List, [], ◌∷◌, take, drop, Option}
use Rattle.std.specs.List.{between}
use Rattle.disk_core.specs.declared.span.Span.{Span}
use Rattle.disk_core.specs.Images.{patched}

-- what is held in a range
abbrev pub held_at : List (Option ℕ) → Span → List (Option ℕ)
held_at held span = between span.at (span.at + span.len) held

-- the ranges' parts, one after another, each put in its place
abbrev pub placed : List Span → List (Option ℕ) → List (Option ℕ) → List (Option ℕ)
placed [] parts base = base
placed (span ∷ spans) parts base = patched span.at (take span.len parts) (placed spans (drop span.len parts) base)
