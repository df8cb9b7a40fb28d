use Rattle.std.proofs.Common.{◌≡◌, ◌<◌, ◌+◌, ◌^◌, ◌&&◌, List, [], ◌∷◌, ℕ, Bool, false, true, Some, cond, length, map, not, suc, zero, refl, ap, arith, length-append, slice_get}
use Rattle.std.specs.Int.{w32, to_be_bytes}
use Rattle.std.specs.List.{AllByRecursion, flat_map, sum_by}
use Rattle.std.proofs.lemmas.List.Sums.{sum_by-cons}
use Rattle.std.proofs.lemmas.Option.{none-some, same_Some}
use Rattle.broker_state.specs.declared.subscription.Subscription.{Subscription}
use Rattle.broker_state.specs.Lists.{is_none}
use Rattle.broker_state.specs.Sound.{IsSound}
use Rattle.broker_state.specs.States.{State}
use Rattle.broker_state.specs.Waiting.{is_own}
use Rattle.waiting_order.proofs.Rising.{all_places}
use Rattle.snapshot_core.specs.Lengths.{counted_in_eight}
use Rattle.snapshot_core.specs.Snapshots.{listed}
use Rattle.snapshot_core.proofs.Counted.{holds_few, waits_in_own}

-- four bytes count what a subscription has, and its line is empty unless it is its own
pub record Fits (sub : Subscription) : Type 0 where
  pub short : length sub.line < 2 ^ 32
  pub few : length sub.unacknowledged < 2 ^ 32
  pub own : is_own sub ≡ false → sub.line ≡ []

pub all_fit : (s : State) → IsSound s → AllByRecursion Fits s.subscriptions
all_fit s sound =
    all_places Fits s.subscriptions (λ i x is. record { short = (holds_few s sound i x is).0; few = (holds_few s sound i x is).1; own = waits_in_own s sound i x is })

-- how many subscriptions have something in a line that isn't theirs: one or none
abbrev strays_in : {X : Type 0} → Bool → List X → ℕ
strays_in own line = cond (not own && not (is_none line)) 1 0

abbrev pub strays : Subscription → ℕ
strays sub = strays_in (is_own sub) sub.line

one_fits : (sub : Subscription) → (is_own sub ≡ false → sub.line ≡ []) → strays sub ≡ 0
one_fits sub own = by (is_own sub) refl
  where
    by : (b : Bool) → is_own sub ≡ b → strays_in b sub.line ≡ 0
    by true is = refl
    by false is = ap (strays_in false) (own is)

pub none_strays : (xs : List Subscription) → AllByRecursion Fits xs → sum_by strays xs ≡ 0
none_strays [] all = refl
none_strays (x ∷ xs) all = omega (arith, sum_by-cons strays x xs, one_fits x all.0.own, none_strays xs all.1)

line_none : {X : Type 0} (own : Bool) (line : List X) → strays_in own line ≡ 0 → own ≡ false → line ≡ []
line_none true line is other = absurd cc
line_none false [] is other = refl
line_none false (x ∷ line) is other = absurd cc

pub no_stray : (sub : Subscription) → strays sub ≡ 0 → is_own sub ≡ false → sub.line ≡ []
no_stray sub none = line_none (is_own sub) sub.line none

-- what a list's items are spelled in, in any order
pub length_spelled : {X : Type 0} (f : X → List ℕ) (xs : List X) → length (flat_map f xs) ≡ sum_by (λ x. length (f x)) xs
length_spelled f [] = refl
length_spelled {X} f (x ∷ xs) = omega (arith, length-append (f x) (flat_map f xs), sum_by-cons (λ (y : X). length (f y)) x xs, length_spelled f xs)

-- a list counts as one does whose items are spelled in as many bytes
pub listed_alike : {X : Type 0} (f : X → List ℕ) (xs ys : List X) (t : ℕ) → length (flat_map f xs) ≡ length (flat_map f ys) → t ≡ counted_in_eight (4 + length (flat_map f xs)) → t ≡ counted_in_eight (length (listed f ys))
listed_alike f xs ys t long is =
    omega (arith, is, long, length-append (to_be_bytes w32 (length ys)) (flat_map f ys))

-- what stands in a place of a list of what items are
pub mapped_at : {X Y : Type 0} (f : X → Y) (xs : List X) (at : ℕ) (x : X) → slice_get xs at ≡ Some x → slice_get (map f xs) at ≡ Some (f x)
mapped_at f [] at x is = absurd (none-some x is)
mapped_at f (y ∷ xs) zero x is = ap (λ z. Some (f z)) (same_Some y x is)
mapped_at f (y ∷ xs) (suc at) x is = mapped_at f xs at x is

pub length_mapped : {X Y : Type 0} (f : X → Y) (xs : List X) → length (map f xs) ≡ length xs
length_mapped f [] = refl
length_mapped f (x ∷ xs) = ap suc (length_mapped f xs)
