use Rattle.std.proofs.Common.{◌≡◌, ◌≤◌, ◌+◌, List, ℕ, Bool, true, false, Some, ap, arith, cond, count_by, length, not, refl, slice_get, sym, take, ◌∙◌}
use Rattle.std.proofs.lemmas.List.{take_all}
use Rattle.std.proofs.lemmas.List.Sums.{sum_by-take-le}
use Rattle.broker_state.proofs.Places.{count_more, count_same}

module _ {X : Type 0} (p : X → Bool) (xs : List X) where
  -- what passes up to the end passes in the whole list
  pub count_all : (at : ℕ) → length xs ≤ at → count_by p (take at xs) ≡ count_by p xs
  count_all at past = ap (λ ys. count_by p ys) (take_all at xs past)

  -- what passes up to an item that passes too is one less than what passes in the whole list
  pub count_under : (at : ℕ) (x : X) → slice_get xs at ≡ Some x → p x ≡ true → count_by p (take at xs) + 1 ≤ count_by p xs
  count_under at x is passes =
      omega (arith, count_more p xs at x is passes, sum_by-take-le (λ y. cond (p y) 1 0) xs (at + 1))

-- where every key that has an item was noted, each item has another one, and the next item's key is noted too, this holds
-- for one item more
module _ {X Q : Type 0} (has : Q → X → Bool) (k : Q) (same : Q → Bool) (xs : List X) (at : ℕ) (x : X) (is : slice_get xs at ≡ Some x) where
  pub noted_more : (old new : Q → Bool) → ((q : Q) → has q x ≡ same q) → ((q : Q) → same q ≡ true → count_by (has q) (take at xs) ≡ count_by (has k) (take at xs)) → old k ≡ false → ((q : Q) → new q ≡ cond (same q) true (old q)) → ((q : Q) → count_by (has q) (take at xs) ≡ cond (old q) 1 0) → (q : Q) → count_by (has q) (take (at + 1) xs) ≡ cond (new q) 1 0
  noted_more old new tells alike fresh more noted q = by_case (same q) refl
    where
      by_case : (b : Bool) → same q ≡ b → count_by (has q) (take (at + 1) xs) ≡ cond (new q) 1 0
      by_case true is_same =
          count_more (has q) xs at x is (tells q ∙ is_same) ∙ ap (λ n. n + 1) (alike q is_same ∙ noted k ∙ ap (λ b. cond b 1 0) fresh) ∙ sym (ap (λ b. cond b 1 0) (more q ∙ ap (λ b. cond b true (old q)) is_same))
      by_case false is_other =
          count_same (has q) xs at x is (tells q ∙ is_other) ∙ noted q ∙ sym (ap (λ b. cond b 1 0) (more q ∙ ap (λ b. cond b true (old q)) is_other))

-- one where it holds, and else none
pub bit_small : (b : Bool) → cond b 1 0 ≤ 1
bit_small true = omega arith
bit_small false = omega arith

pub unless_true : (b : Bool) → not b ≡ false → b ≡ true
unless_true true is = refl
unless_true false is = absurd cc

pub unless_false : (b : Bool) → not b ≡ true → b ≡ false
unless_false true is = absurd cc
unless_false false is = refl
