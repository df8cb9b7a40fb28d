use Rattle.std.proofs.Common.{◌≡◌, ◌<◌, ◌≤◌, ◌+◌, ◌||◌, ◌++◌, List, [], ◌∷◌, ℕ, suc, zero, Bool, true, false, Option, Some, None, length, take, refl, sym, ap, subst, ◌∙◌, arith, slice_get, remove, if◌then◌else◌}
use Rattle.std.specs.List.{list_any, sum_by}
use Rattle.std.specs.Option.{option_map}
use Rattle.std.proofs.lemmas.List.Sums.{sum_by-cons}
use Rattle.std.proofs.lemmas.Option.{slice_get_within}
use Rattle.broker_state.specs.Lists.{changed, picked, with_first}
use Rattle.broker_state.specs.Parts.{IsFirst, NonePass}

pub same_some : {X : Type 0} (x y : X) → Some x ≡ Some y → x ≡ y
same_some x y same = cc

module _ {X : Type 0} (p : X → Bool) where
  -- the first that passes is picked
  pub picked_first : (xs : List X) (at : ℕ) (x : X) → IsFirst p xs at → slice_get xs at ≡ Some x → picked p xs ≡ Some (x, remove xs at)
  picked_first [] at x first is = absurd (omega (arith, first.within))
  picked_first (y ∷ ys) zero x first is = ap (λ b. if b then Some (y, ys) else option_map (λ q. (q.0, y ∷ q.1)) (picked p ys)) (first.passing y refl) ∙ ap (λ z. Some (z, ys)) (same_some y x is)
  picked_first (y ∷ ys) (suc at) x first is =
      ap (λ b. if b then Some (y, ys) else option_map (λ q. (q.0, y ∷ q.1)) (picked p ys)) first.before.0
      ∙ ap (option_map (λ (q : X × List X). (q.0, y ∷ q.1))) (picked_first ys at x (record { within = omega (arith, first.within); passing = first.passing; before = first.before.1 }) is)

  -- it is changed
  pub changed_first : (f : X → X) (xs : List X) (at : ℕ) → IsFirst p xs at → with_first p f xs ≡ changed at f xs
  changed_first f [] at first = absurd (omega (arith, first.within))
  changed_first f (y ∷ ys) zero first = ap (λ b. if b then f y ∷ ys else y ∷ with_first p f ys) (first.passing y refl)
  changed_first f (y ∷ ys) (suc at) first =
      ap (λ b. if b then f y ∷ ys else y ∷ with_first p f ys) first.before.0
      ∙ ap (λ zs. y ∷ zs) (changed_first f ys at (record { within = omega (arith, first.within); passing = first.passing; before = first.before.1 }))

  -- and there is one
  pub any_first : (xs : List X) (at : ℕ) → IsFirst p xs at → list_any p xs ≡ true
  any_first [] at first = absurd (omega (arith, first.within))
  any_first (y ∷ ys) zero first = rw (first.passing y refl) refl
  any_first (y ∷ ys) (suc at) first =
      rw (first.before.0) (any_first ys at (record { within = omega (arith, first.within); passing = first.passing; before = first.before.1 }))

  -- where none passes, none is picked, and there is none
  pub picked_none : (xs : List X) → NonePass p xs → picked p xs ≡ None
  picked_none [] none = refl
  picked_none (y ∷ ys) none =
      ap (λ b. if b then Some (y, ys) else option_map (λ q. (q.0, y ∷ q.1)) (picked p ys)) none.0
      ∙ ap (option_map (λ (q : X × List X). (q.0, y ∷ q.1))) (picked_none ys none.1)

  pub any_none : (xs : List X) → NonePass p xs → list_any p xs ≡ false
  any_none [] none = refl
  any_none (y ∷ ys) none = rw none.0 (any_none ys none.1)

-- where there is one that passes, one is picked
pub picked_some : {X : Type 0} (p : X → Bool) (xs : List X) → list_any p xs ≡ true → (x : X) × (ys : List X) × (picked p xs ≡ Some (x, ys))
picked_some p [] some = absurd cc
picked_some {X} p (z ∷ zs) some = by (p z) refl some (λ rest. picked_some p zs rest)
  where
    by : (b : Bool) → p z ≡ b → (b || list_any p zs) ≡ true → (list_any p zs ≡ true → (x : X) × (ys : List X) × (picked p zs ≡ Some (x, ys))) → (x : X) × (ys : List X) × (picked p (z ∷ zs) ≡ Some (x, ys))
    by true is some tails = (z, zs, ap (λ b. if b then Some (z, zs) else option_map {U = X × List X} (λ (q : X × List X). (q.0, z ∷ q.1)) (picked p zs)) is)
    by false is some tails =
        let t = tails some in
        (t.0, z ∷ t.1, ap (λ b. if b then Some (z, zs) else option_map {U = X × List X} (λ (q : X × List X). (q.0, z ∷ q.1)) (picked p zs)) is ∙ ap (option_map {U = X × List X} (λ (q : X × List X). (q.0, z ∷ q.1))) t.2)

-- a sum once the one that is picked is changed
pub sum_first : {X : Type 0} (p : X → Bool) (g : X → X) (f : X → ℕ) (xs : List X) (x : X) (ys : List X) → picked p xs ≡ Some (x, ys) → sum_by f (with_first p g xs) + f x ≡ sum_by f xs + f (g x)
sum_first p g f [] x ys is = absurd cc
sum_first {X} p g f (z ∷ zs) x ys is = by (p z) is (λ y qs rest. sum_first p g f zs y qs rest)
  where
    behind_one : ((y : X) (qs : List X) → picked p zs ≡ Some (y, qs) → sum_by f (with_first p g zs) + f y ≡ sum_by f zs + f (g y)) → (o : Option (X × List X)) → picked p zs ≡ o → option_map {U = X × List X} (λ (q : X × List X). (q.0, z ∷ q.1)) o ≡ Some (x, ys) → sum_by f (z ∷ with_first p g zs) + f x ≡ sum_by f (z ∷ zs) + f (g x)
    behind_one tails None rest made = absurd cc
    behind_one tails (Some q) rest made =
        let same = ap (λ (r : X × List X). r.0) (same_some _ _ made) in
        omega (arith, tails q.0 q.1 rest, ap f same, ap (λ y. f (g y)) same, sum_by-cons f z zs, sum_by-cons f z (with_first p g zs))

    by : (b : Bool) → (if b then Some (z, zs) else option_map {U = X × List X} (λ (q : X × List X). (q.0, z ∷ q.1)) (picked p zs)) ≡ Some (x, ys) → ((y : X) (qs : List X) → picked p zs ≡ Some (y, qs) → sum_by f (with_first p g zs) + f y ≡ sum_by f zs + f (g y)) → sum_by f (if b then g z ∷ zs else z ∷ with_first p g zs) + f x ≡ sum_by f (z ∷ zs) + f (g x)
    by true made tails =
        let same = ap (λ (r : X × List X). r.0) (same_some _ _ made) in
        omega (arith, ap f same, ap (λ y. f (g y)) same, sum_by-cons f z zs, sum_by-cons f (g z) zs)
    by false made tails = behind_one tails (picked p zs) refl made

-- what stands before a place stands there too once the item in it was taken out
pub take_removed : {X : Type 0} (xs : List X) (at : ℕ) (ys : List X) → at < length xs → take at (remove xs at ++ ys) ≡ take at xs
take_removed [] at ys within = absurd (omega (arith, within))
take_removed (x ∷ xs) zero ys within = refl
take_removed (x ∷ xs) (suc at) ys within = ap (λ zs. x ∷ zs) (take_removed xs at ys (omega (arith, within)))

-- one more does not pass
pub one_more_passed : {X : Type 0} (p : X → Bool) (xs : List X) (at : ℕ) (x : X) → slice_get xs at ≡ Some x → p x ≡ false → NonePass p (take at xs) → NonePass p (take (suc at) xs)
one_more_passed p [] at x there not passed = absurd (omega (arith, slice_get_within [] at x there))
one_more_passed p (y ∷ ys) zero x there not passed = (subst (λ z. p z ≡ false) (same_some x y (sym there)) not, tt)
one_more_passed p (y ∷ ys) (suc at) x there not passed = (passed.0, one_more_passed p ys at x there not passed.1)

-- where none passes up to a place behind the end, none passes
pub none_to_end : {X : Type 0} (p : X → Bool) (xs : List X) (at : ℕ) → length xs ≤ at → NonePass p (take at xs) → NonePass p xs
none_to_end p [] at end none = tt
none_to_end p (x ∷ xs) zero end none = absurd (omega (arith, end))
none_to_end p (x ∷ xs) (suc at) end none = (none.0, none_to_end p xs at (omega (arith, end)) none.1)

-- within a list there is an item
pub found : {X : Type 0} (xs : List X) (at : ℕ) → at < length xs → (x : X) × (slice_get xs at ≡ Some x)
found [] at within = absurd (omega (arith, within))
found (x ∷ xs) zero within = (x, refl)
found (x ∷ xs) (suc at) within = found xs at (omega (arith, within))
