use Rattle.std.proofs.Common.{◌≡◌, ◌<◌, ◌+◌, ◌↔◌, Bool, IsTrue, List, Some, ℕ, [], ◌∷◌, length, map, slice_get, take}
use Rattle.std.proofs.lemmas.List.{take_more}
use Rattle.std.proofs.lemmas.Option.{get_or_from_slice_get, slice_get_within}
use Rattle.std.proofs.lemmas.Bool.{MatchBool-at_true}
use Rattle.std.proofs.lemmas.Iterator.Search.{true_from_All}
use Rattle.std.proofs.lemmas.List.Elements.{All-from_all_within, All-from_recursion, recursion_from_All}
use Rattle.std.specs.Bool.{MatchBool}
use Rattle.std.specs.List.{AllByRecursion, AllWithin, HoldsAt, flat_map}
use Rattle.frame_core.proofs.Lists.{all_append, all_left, all_push, all_right}

module _ {X Y : Type 0} (P : Y → Type 0) where
  -- where all items of the parts are such, so are all of the parts joined, and the other way round
  pub all_flat : (f : X → List Y) (xs : List X) → AllByRecursion (λ x. AllByRecursion P (f x)) xs → AllByRecursion P (flat_map f xs)
  all_flat f [] all = tt
  all_flat f (x ∷ xs) all = all_append P (f x) (flat_map f xs) all.0 (all_flat f xs all.1)

  pub each_flat : (f : X → List Y) (xs : List X) → AllByRecursion P (flat_map f xs) → AllByRecursion (λ x. AllByRecursion P (f x)) xs
  each_flat f [] all = tt
  each_flat f (x ∷ xs) all = (all_left P (f x) (flat_map f xs) all, each_flat f xs (all_right P (f x) (flat_map f xs) all))

  -- the same of what items give
  pub all_given : (f : X → Y) (xs : List X) → AllByRecursion (λ x. P (f x)) xs → AllByRecursion P (map f xs)
  all_given f [] all = tt
  all_given f (x ∷ xs) all = (all.0, all_given f xs all.1)

  pub each_given : (f : X → Y) (xs : List X) → AllByRecursion P (map f xs) → AllByRecursion (λ x. P (f x)) xs
  each_given f [] all = tt
  each_given f (x ∷ xs) all = (all.0, each_given f xs all.1)

-- what a walk over a list answers, where it stops at an item that is not such
pub all_tells : {X : Type 0} (P : X → Type 0) (xs : List X) (r : Bool) → MatchBool r (AllWithin P xs 0 (length xs)) ((k : ℕ) × (k < length xs) × HoldsAt (λ x. ¬ (P x)) xs k) → IsTrue r ↔ AllByRecursion P xs
all_tells P xs r walked =
    (λ yes. recursion_from_All P xs (All-from_all_within P xs (MatchBool-at_true _ _ yes walked)), λ all. true_from_All P (λ x. ¬ (P x)) r xs (λ x p q. q p) walked (All-from_recursion P xs all))

-- what holds of the items so far and of the next one holds of these together
pub all_more : {X : Type 0} (P : X → Type 0) (xs : List X) (at : ℕ) (x : X) → slice_get xs at ≡ Some x → AllByRecursion P (take at xs) → P x → AllByRecursion P (take (at + 1) xs)
all_more P xs at x is all new =
    rw (take_more xs at x (slice_get_within xs at x is), get_or_from_slice_get xs at x x is) (all_push P (take at xs) x all new)
