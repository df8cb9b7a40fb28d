-- The first words of a command line.
use Rattle.std.proofs.Common.{◌≡◌, ◌<◌, ◌≤◌, ◌-◌, List, [], ◌∷◌, ℕ, ap, arith, drop, false, length, map, refl, slice_index_or, sym, take}
use Rattle.std.proofs.lemmas.List.{take_all}
use Rattle.command_line.specs.Calls.{names_call}

module _ {A : Type 0} (text : A → List ℕ) where
  -- a program's name, and a word
  pub pair : (words : List A) (a : A) → 2 ≤ length words → length words ≤ 2 → a ≡ slice_index_or words 1 a → (program : List ℕ) × (map text words ≡ program ∷ text a ∷ [])
  pair [] a some few second = absurd (omega (arith, some))
  pair (x ∷ []) a some few second = absurd (omega (arith, some))
  pair (x ∷ y ∷ []) a some few second = (text x, ap (λ z. text x ∷ text z ∷ []) (sym second))
  pair (x ∷ y ∷ z ∷ words) a some few second = absurd (omega (arith, few))

  -- a program's name, a word, and others
  pub named : (words : List A) (a : A) → 2 ≤ length words → a ≡ slice_index_or words 1 a → (program : List ℕ) × (map text words ≡ program ∷ text a ∷ map text (take (length words - 2) (drop 2 words)))
  named [] a some second = absurd (omega (arith, some))
  named (x ∷ []) a some second = absurd (omega (arith, some))
  named (x ∷ y ∷ words) a some second = (text x, λ i. text x ∷ text (sym second i) ∷ map text (sym (take_all (length (x ∷ y ∷ words) - 2) words (omega arith)) i))

  -- fewer name no call
  pub no_call : (words : List A) → length words < 2 → false ≡ names_call (map text words)
  no_call [] few = refl
  no_call (x ∷ []) few = refl
  no_call (x ∷ y ∷ words) few = absurd (omega (arith, few))
