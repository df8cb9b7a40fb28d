use Rattle.std.proofs.Common.{◌≡◌, ◌<◌, ◌≤◌, ◌||◌, ◌++◌, List, [], ◌∷◌, ℕ, Bool, true, false, Some, cond, count_by, map, refl, ap, arith, if◌then◌else◌}
use Rattle.std.specs.List.{list_any, sum_by}
use Rattle.std.proofs.lemmas.List.Sums.{sum_by-cons, sum_by_push}
use Rattle.broker_state.specs.Lists.{picked, with_first}
use Rattle.broker_state.specs.Parts.{NonePass}
use Rattle.broker_state.proofs.Deliveries.{sum_picked}

module _ {X : Type 0} (f : X → ℕ) (g : X → X) (same : (x : X) → f (g x) ≡ f x) where
  -- a sum stays where a change of an item leaves its part
  pub sum_mapped : (xs : List X) → sum_by f (map g xs) ≡ sum_by f xs
  sum_mapped [] = refl
  sum_mapped (x ∷ xs) =
      omega (arith, sum_mapped xs, same x, sum_by-cons f x xs, sum_by-cons f (g x) (map g xs))

  pub sum_with_first : (p : X → Bool) (xs : List X) → sum_by f (with_first p g xs) ≡ sum_by f xs
  sum_with_first p [] = refl
  sum_with_first p (x ∷ xs) =
      let rest = sum_with_first p xs in
      elim (p x) as (λ b. sum_by f (if b then g x ∷ xs else x ∷ with_first p g xs) ≡ sum_by f (x ∷ xs)) [
        | true ↦ omega (arith, same x, sum_by-cons f x xs, sum_by-cons f (g x) xs)
        | false ↦ omega (arith, rest, sum_by-cons f x xs, sum_by-cons f x (with_first p g xs))
      ]

-- a sum is no more where the change of one item makes its part no more
pub sum_first_less : {X : Type 0} (f : X → ℕ) (g : X → X) (p : X → Bool) → ((x : X) → f (g x) ≤ f x) → (xs : List X) → sum_by f (with_first p g xs) ≤ sum_by f xs
sum_first_less f g p less [] = omega arith
sum_first_less f g p less (x ∷ xs) =
    let rest = sum_first_less f g p less xs in
    elim (p x) as (λ b. sum_by f (if b then g x ∷ xs else x ∷ with_first p g xs) ≤ sum_by f (x ∷ xs)) [
      | true ↦ omega (arith, less x, sum_by-cons f x xs, sum_by-cons f (g x) xs)
      | false ↦ omega (arith, rest, sum_by-cons f x xs, sum_by-cons f x (with_first p g xs))
    ]

-- where there is none that passes, each fails
pub none_passes : {X : Type 0} (p : X → Bool) (xs : List X) → list_any p xs ≡ false → NonePass p xs
none_passes p [] none = tt
none_passes {X} p (x ∷ xs) none = by (p x) refl none (none_passes p xs)
  where
    by : (b : Bool) → p x ≡ b → (b || list_any p xs) ≡ false → (list_any p xs ≡ false → NonePass p xs) → NonePass p (x ∷ xs)
    by true is none rest = absurd cc
    by false is none rest = (is, rest none)

-- where none passes, none is counted
pub count_none : {X : Type 0} (p : X → Bool) (xs : List X) → list_any p xs ≡ false → count_by p xs ≡ 0
count_none p [] none = refl
count_none {X} p (x ∷ xs) none = by (p x) refl none (count_none p xs)
  where
    by : (b : Bool) → p x ≡ b → (b || list_any p xs) ≡ false → (list_any p xs ≡ false → count_by p xs ≡ 0) → count_by p (x ∷ xs) ≡ 0
    by true is none rest = absurd cc
    by false is none rest =
        omega (arith, rest none, sum_by-cons (λ (y : X). cond (p y) 1 0) x xs, ap {B = ℕ} (λ b. cond b 1 0) is)

module _ {X : Type 0} (q : X → Bool) where
  -- each that passes counts for one
  abbrev pub counted : X → ℕ
  counted x = cond (q x) 1 0

  -- no more than so many pass with one more, where that one doesn't, or so many do not pass yet
  pub count_added : (xs : List X) (x : X) (most : ℕ) → count_by q xs ≤ most → (q x ≡ true → count_by q xs < most) → count_by q (xs ++ x ∷ []) ≤ most
  count_added xs x most few fewer = by (q x) refl fewer
    where
      by : (b : Bool) → q x ≡ b → (b ≡ true → count_by q xs < most) → count_by q (xs ++ x ∷ []) ≤ most
      by true is fewer = omega (arith, sum_by_push counted xs x, ap {B = ℕ} (λ b. cond b 1 0) is, fewer refl)
      by false is fewer = omega (arith, sum_by_push counted xs x, ap {B = ℕ} (λ b. cond b 1 0) is, few)

  module _ (p : X → Bool) (xs : List X) (x : X) (ys : List X) (is : picked p xs ≡ Some (x, ys)) where
    -- without the one that is picked no more pass, and as many where another one takes its place behind all
    pub count_left : count_by q ys ≤ count_by q xs
    count_left = omega (arith, sum_picked p counted xs x ys is)

    pub count_behind : (y : X) → q y ≡ q x → count_by q (ys ++ y ∷ []) ≡ count_by q xs
    count_behind y same =
        omega (arith, sum_picked p counted xs x ys is, sum_by_push counted ys y, ap {B = ℕ} (λ b. cond b 1 0) same)
