-- What a list of clients holds once one of them has changed.
use Rattle.std.proofs.Common.{◌≡◌, ◌≢◌, ◌∙◌, ℕ, ◌<◌, List, Option, Some, None, get_or, inl, inr, length, set}
use Rattle.std.proofs.lemmas.List.{get_or-set_other, get_or-set_same, get_or_past}
use Rattle.std.proofs.lemmas.Bool.{cases_lt}
use Rattle.slab.specs.Slab.{Slab, Updates, get, with_value}

within : {T : Type 0} (slots : List (Option T)) (n : ℕ) (x : T) → Some x ≡ get_or slots n None → n < length slots
within slots n x is = elim (cases_lt n (length slots)) [
  | inl h ↦ h
  | inr h ↦ let none : Some x ≡ None = is ∙ get_or_past slots n None h in absurd (cc none)
]

-- one that is there and has changed is there as it is now
pub changed : {T : Type 0} (slots : List (Option T)) (n : ℕ) (x y : T) → Some x ≡ get_or slots n None → get_or (set slots n (Some y)) n None ≡ Some y
changed slots n x y is = get_or-set_same slots n (Some y) None (within slots n x is)

-- and the others are there as they were
pub updated : {T : Type 0} (s : Slab T) (n : ℕ) (x y : T) → Some x ≡ get s n → Updates s (with_value s n y) n (Some y)
updated s n x y is = record { changed = changed s.slots n x y is; others = λ other apart. get_or-set_other s.slots n other (Some y) None apart }
