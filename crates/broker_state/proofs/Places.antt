use Rattle.std.proofs.Common.{◌≡◌, ◌<◌, ◌+◌, ◌≤◌, ◌||◌, ◌++◌, length, List, [], ◌∷◌, ℕ, suc, zero, Bool, true, false, Some, count_by, drop, refl, remove, sym, ap, ◌∙◌, subst, arith, slice_get, take}
use Rattle.std.specs.List.{list_any, sum_by}
use Rattle.std.proofs.lemmas.List.{take_all, take_more}
use Rattle.std.proofs.lemmas.List.Sums.{count_by_more_no, count_by_more_yes, sum_by-cons}
use Rattle.std.proofs.lemmas.Option.{get_or_from_slice_get, none-some, same_Some, slice_get_within}
use Rattle.frame_core.proofs.Lists.{all_push}
use Rattle.line_core.specs.declared.message.Message.{Message}
use Rattle.line_core.specs.Lines.{first_of}
use Rattle.broker_state.specs.Parts.{IsFirst, NonePass}

module _ {X : Type 0} (p : X → Bool) (xs : List X) (at : ℕ) (x : X) (is : slice_get xs at ≡ Some x) where
  -- where none before passes, and the item in the next place doesn't, none up to it passes
  pub none_more : p x ≡ false → NonePass p (take at xs) → NonePass p (take (at + 1) xs)
  none_more fails none =
      rw (take_more xs at x (slice_get_within xs at x is), get_or_from_slice_get xs at x x is) (all_push (λ y. p y ≡ false) (take at xs) x none fails)

  -- where it does, it is the first
  pub first_here : p x ≡ true → NonePass p (take at xs) → IsFirst p xs at
  first_here passes none = record {
    within = slice_get_within xs at x is;
    passing = λ y same. subst (λ z. p z ≡ true) (same_Some x y (sym is ∙ same)) passes;
    before = none;
  }

  -- and it counts for one
  pub count_more : p x ≡ true → count_by p (take (at + 1) xs) ≡ count_by p (take at xs) + 1
  count_more passes =
      count_by_more_yes p xs at x (slice_get_within xs at x is) (ap p (get_or_from_slice_get xs at x x is) ∙ passes)

  pub count_same : p x ≡ false → count_by p (take (at + 1) xs) ≡ count_by p (take at xs)
  count_same fails =
      count_by_more_no p xs at x (slice_get_within xs at x is) (ap p (get_or_from_slice_get xs at x x is) ∙ fails)

-- where none before a place passes, and the list ends there, none passes
pub none_all : {X : Type 0} (p : X → Bool) (xs : List X) (at : ℕ) → length xs ≤ at → NonePass p (take at xs) → NonePass p xs
none_all p xs at past none = subst (NonePass p) (take_all at xs past) none

-- the first message of a line and the others weigh what the line weighs
pub sum_by-first : (f : Message → ℕ) (line rest : List Message) (m : Message) → Some m ≡ first_of line → rest ≡ drop 1 line → sum_by f line ≡ f m + sum_by f rest
sum_by-first f [] rest m is same = absurd (none-some m (sym is))
sum_by-first f (x ∷ line) rest m is same =
    omega (arith, sum_by-cons f x line, ap f (same_Some m x is), ap (sum_by f) same)

-- Of the items from a place on and before another: none, as the places meet; one more; and one that passes is among them.
pub none_yet : {X : Type 0} (p : X → Bool) (xs : List X) (from : ℕ) → NonePass p (drop from (take from xs))
none_yet p xs zero = tt
none_yet p [] (suc from) = tt
none_yet p (x ∷ xs) (suc from) = none_yet p xs from

next : (n : ℕ) → suc n ≡ n + 1
next n = omega arith

module _ {X : Type 0} (p : X → Bool) where
  one_more_from : (xs : List X) (from at : ℕ) (x : X) → from ≤ at → slice_get xs at ≡ Some x → p x ≡ false → NonePass p (drop from (take at xs)) → NonePass p (drop from (take (suc at) xs))
  one_more_from xs zero at x within is fails none =
      subst (λ n. NonePass p (take n xs)) (sym (next at)) (none_more p xs at x is fails none)
  one_more_from [] (suc from) at x within is fails none = absurd (none-some x is)
  one_more_from (y ∷ xs) (suc from) zero x within is fails none = absurd (omega (arith, within))
  one_more_from (y ∷ xs) (suc from) (suc at) x within is fails none =
      one_more_from xs from at x (omega (arith, within)) is fails none

  pub none_more_from : (xs : List X) (from at : ℕ) (x : X) → from ≤ at → slice_get xs at ≡ Some x → p x ≡ false → NonePass p (drop from (take at xs)) → NonePass p (drop from (take (at + 1) xs))
  none_more_from xs from at x within is fails none =
      subst (λ n. NonePass p (drop from (take n xs))) (next at) (one_more_from xs from at x within is fails none)

  pub any_in : (xs : List X) (from at to : ℕ) (x : X) → from ≤ at → at < to → slice_get xs at ≡ Some x → p x ≡ true → list_any p (drop from (take to xs)) ≡ true
  any_in [] from at to x after before is passes = absurd (none-some x is)
  any_in (y ∷ xs) from at zero x after before is passes = absurd (omega (arith, before))
  any_in (y ∷ xs) zero zero (suc to) x after before is passes =
      rw (ap p (same_Some y x is) ∙ passes) refl
  any_in (y ∷ xs) zero (suc at) (suc to) x after before is passes =
      later (p y) (any_in xs zero at to x (omega arith) (omega (arith, before)) is passes)
    where
      later : (b : Bool) → list_any p (take to xs) ≡ true → (b || list_any p (take to xs)) ≡ true
      later true rest = refl
      later false rest = rest
  any_in (y ∷ xs) (suc from) zero (suc to) x after before is passes = absurd (omega (arith, after))
  any_in (y ∷ xs) (suc from) (suc at) (suc to) x after before is passes =
      any_in xs from at to x (omega (arith, after)) (omega (arith, before)) is passes

  pub any_parts : (xs ys : List X) → list_any p (xs ++ ys) ≡ (list_any p xs || list_any p ys)
  any_parts [] ys = refl
  any_parts (x ∷ xs) ys =
      elim (p x) as (λ b. (b || list_any p (xs ++ ys)) ≡ ((b || list_any p xs) || list_any p ys)) [ true ↦ refl | false ↦ any_parts xs ys ]

-- the places before the end are all, and without a place there are those before it and those behind it
module _ {X : Type 0} (p : X → Bool) (xs : List X) where
  pub any_to_end : (from to : ℕ) → length xs ≤ to → list_any p (drop from (take to xs)) ≡ list_any p (drop from xs)
  any_to_end from to past = ap (λ l. list_any p (drop from l)) (take_all to xs past)

  pub any_but : (at : ℕ) → list_any p (remove xs at) ≡ (list_any p (take at xs) || list_any p (drop (at + 1) xs))
  any_but at =
      any_parts p (take at xs) (drop (suc at) xs) ∙ ap (λ n. list_any p (take at xs) || list_any p (drop n xs)) (next at)
