-- Lists of which each item goes with those after it: rising keys, and rising messages.
use Rattle.std.proofs.Common.{◌≡◌, ◌+◌, ◌-◌, ◌<◌, ℕ, zero, suc, Bool, true, false, List, [], ◌∷◌, length, get_or, not, refl, ap, arith}
use Rattle.std.specs.Cmp.{IsTotalOrder}
use Rattle.std.specs.List.{AllAdjacentBelow, AllByRecursion, list_all}
use Rattle.std.specs.List.Sorted.{IsStrictlySortedBy}
use Rattle.std.specs.Map.{keys_of}
use Rattle.std.specs.Ordering.{is_lt}
use Rattle.std.specs.declared.cmp.Ordering.{Ordering}
use Rattle.std.specs.declared.cmp.Ordering.TheVariants.{Less, Equal, Greater}
use Rattle.std.proofs.lemmas.Bool.{and_parts, both_ways, false_from_ne_true, false≢true, not-true}
use Rattle.std.proofs.lemmas.List.{get_or-map, get_or_default}
use Rattle.std.proofs.lemmas.List.Elements.{All-from_get_or, recursion_from_All}
use Rattle.std.proofs.lemmas.List.Sorted.{sorted_far}
use Rattle.std.proofs.lemmas.Map.Entries.{length-keys_of}
use Rattle.std.proofs.lemmas.Map.Keys.{Less-from_sorted, sorted_from_all_adjacent}
use Rattle.line_core.specs.declared.message.Message.{Message}
use Rattle.line_core.specs.Lines.{IsRising, by_number}
use Rattle.line_core.proofs.RisingLines.{ranks}
use Rattle.snapshot_core.specs.Reading.{is_rising, rises}

-- a test that each item passes
module _ {X : Type 0} (P : X → Type 0) (p : X → Bool) where
  all_from : ((x : X) → p x ≡ true → P x) → (xs : List X) → list_all p xs ≡ true → AllByRecursion P xs
  all_from tells [] e = tt
  all_from tells (x ∷ xs) e = let a = and_parts (p x) (list_all p xs) e in (tells x a.0, all_from tells xs a.1)

  from_all : ((x : X) → P x → p x ≡ true) → (xs : List X) → AllByRecursion P xs → list_all p xs ≡ true
  from_all told [] all = refl
  from_all told (x ∷ xs) all = rw (told x all.0, from_all told xs all.1) refl

less : (o : Ordering) → is_lt o ≡ true → o ≡ Less
less Less is = refl
less Equal is = absurd (false≢true is)
less Greater is = absurd (false≢true is)

-- Keys, each under those after it.
module _ {K : Type 0} (cmp : K → K → Ordering) where
  pub sorted_from : (keys : List K) → rises cmp keys ≡ true → IsStrictlySortedBy cmp keys
  unfolding rises IsStrictlySortedBy
  sorted_from [] is = tt
  sorted_from (key ∷ keys) is =
      let p = and_parts (list_all (λ other. is_lt (cmp key other)) keys) (rises cmp keys) is in
      (all_from (λ other. cmp key other ≡ Less) (λ other. is_lt (cmp key other)) (λ other under. less (cmp key other) under) keys p.0, sorted_from keys p.1)

  pub rises_from : (keys : List K) → IsStrictlySortedBy cmp keys → rises cmp keys ≡ true
  unfolding rises IsStrictlySortedBy
  rises_from [] sorted = refl
  rises_from (key ∷ keys) sorted =
      rw (from_all (λ other. cmp key other ≡ Less) (λ other. is_lt (cmp key other)) (λ other under. ap is_lt under) keys sorted.0, rises_from keys sorted.1) refl

  -- as neighbours tell
  module _ {X : Type 0} where
    -- an entry is under the next one
    abbrev pub IsUnder : K × X → K × X → Type 0
    IsUnder a b = is_lt (cmp a.0 b.0) ≡ true

    pub sorted_near : IsTotalOrder cmp → (items : List (K × X)) → AllAdjacentBelow IsUnder items (length items) → IsStrictlySortedBy cmp (keys_of items)
    unfolding IsStrictlySortedBy
    sorted_near total [] near = tt
    sorted_near total (e ∷ es) near =
        let count = length-keys_of (e ∷ es) in
        sorted_from_all_adjacent total (keys_of (e ∷ es)) e.0 (λ k within. rw (get_or-map (λ (x : K × X). x.0) (e ∷ es) k e e.0 (omega (arith, within, count)), get_or-map (λ (x : K × X). x.0) (e ∷ es) (k + 1) e e.0 (omega (arith, within, count))) (less _ (near k e (omega (arith, within, count)))))

    pub entries_fall : (items : List (K × X)) (place : ℕ) (d e : K × X) → 0 < place → place < length items → is_lt (cmp (get_or items (place - 1) d).0 (get_or items place e).0) ≡ false → rises cmp (keys_of items) ≡ false
    entries_fall items place d e some within over =
        false_from_ne_true (rises cmp (keys_of items)) (λ is.
        let under = Less-from_sorted cmp (keys_of items) (place - 1) place d.0 (sorted_from (keys_of items) is) (omega (arith, some)) (omega (arith, within, length-keys_of items)) in
        let first = get_or-map (λ (x : K × X). x.0) items (place - 1) d d.0 (omega (arith, within)) in
        let second = get_or-map (λ (x : K × X). x.0) items place e d.0 within in
        both_ways (is_lt (cmp (get_or items (place - 1) d).0 (get_or items place e).0)) over (ap is_lt (rw (first, second) at under)))

-- Messages, none with a number under that of one before it.

-- a message is not over the next one
abbrev pub IsUpTo : Message → Message → Type 0
IsUpTo a b = is_lt (by_number b.number a.number) ≡ false

pub rising_from : (messages : List Message) → is_rising messages ≡ true → IsRising messages
unfolding is_rising
rising_from [] is = tt
rising_from (m ∷ messages) is =
    let p = and_parts (list_all (λ (other : Message). not (is_lt (by_number other.number m.number))) messages) (is_rising messages) is in
    (all_from (IsUpTo m) (λ other. not (is_lt (by_number other.number m.number))) (λ other up. not-true (is_lt (by_number other.number m.number)) up) messages p.0, rising_from messages p.1)

pub from_rising : (messages : List Message) → IsRising messages → is_rising messages ≡ true
unfolding is_rising
from_rising [] rising = refl
from_rising (m ∷ messages) rising =
    rw (from_all (IsUpTo m) (λ other. not (is_lt (by_number other.number m.number))) (λ other up. ap not up) messages rising.0, from_rising messages rising.1) refl

-- as neighbours tell
pub rising_near : (messages : List Message) → AllAdjacentBelow IsUpTo messages (length messages) → IsRising messages
rising_near [] near = tt
rising_near (m ∷ messages) near =
    let far = λ (i : ℕ) (within : i < length messages). sorted_far (λ (x y : Message). is_lt (by_number x.number y.number)) ranks (m ∷ messages) (λ k d _ inside. near k d inside) 0 (suc i) m (omega arith) (omega (arith, within)) in
    (recursion_from_All (IsUpTo m) messages (All-from_get_or (IsUpTo m) messages m far), rising_near messages (λ k d inside. let next : suc k + 1 ≡ suc (k + 1) = omega arith in rw next at (near (suc k) d (omega (arith, inside)))))

near_rising : (messages : List Message) → IsRising messages → AllAdjacentBelow IsUpTo messages (length messages)
near_rising [] rising k d inside = absurd (omega (arith, inside))
near_rising (m ∷ []) rising k d inside = absurd (omega (arith, inside))
near_rising (m ∷ other ∷ messages) rising zero d inside = rising.0.0
near_rising (m ∷ other ∷ messages) rising (suc k) d inside =
    let next : suc k + 1 ≡ suc (k + 1) = omega arith in rw next (near_rising (other ∷ messages) rising.1 k d (omega (arith, inside)))

pub messages_fall : (messages : List Message) (place : ℕ) (d e : Message) → 0 < place → place < length messages → is_lt (by_number (get_or messages place e).number (get_or messages (place - 1) d).number) ≡ true → is_rising messages ≡ false
messages_fall messages place d e some within under =
    false_from_ne_true (is_rising messages) (λ is.
    let next : place - 1 + 1 ≡ place = omega (arith, some) in
    let up = near_rising messages (rising_from messages is) (place - 1) d (omega (arith, some, within)) in
    both_ways _ (rw (next, get_or_default messages place d e within) at up) under)
