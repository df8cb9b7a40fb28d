use Rattle.std.proofs.Common.{◌≡◌, ◌<◌, ◌≤◌, ◌+◌, ◌-◌, ◌++◌, ◌&&◌, ◌^◌, List, [], ◌∷◌, ℕ, suc, zero, Bool, true, false, Some, length, drop, refl, sym, ap, subst, arith, length-append, nat_lt, not, remove, slice_get, if◌then◌else◌}
use Rattle.std.specs.List.{AllByRecursion, sum_by}
use Rattle.std.proofs.lemmas.Bool.{and_parts, ltb-true}
use Rattle.command_core.specs.Outs.{OutValue}
use Rattle.broker_state.specs.Lists.{is_none}
use Rattle.broker_state.proofs.Firsts.{same_some}
use Rattle.std.proofs.lemmas.List.Edits.{length-remove}
use Rattle.std.proofs.lemmas.List.Sums.{sum_by-cons, sum_by-remove, sum_by_push}
use Rattle.std.proofs.lemmas.Option.{get_or_from_slice_get}
use Rattle.line_core.specs.declared.message.Message.{Message}
use Rattle.line_core.specs.Flights.{IsOver}
use Rattle.line_core.specs.Lines.{first_of}
use Rattle.broker_state.specs.declared.subscription.Subscription.{Subscription}
use Rattle.broker_state.specs.HandOut.{can_take, delivered, handed_from, has_room, is_auto, message_out}
use Rattle.broker_state.specs.States.{State, one, weight_of_subscription}
use Rattle.broker_state.specs.Waiting.{Shared, left_line, left_shared, line_for, weight_of_shared}

-- what stands first in a line, and what behind it
pub first_and_rest : (line : List Message) (m : Message) → first_of line ≡ Some m → line ≡ m ∷ drop 1 line
first_and_rest [] m is = absurd cc
first_and_rest (x ∷ line) m is = cc

-- what one delivery adds to the unacknowledged ones
pub flight_more : (weight : Message → ℕ) (auto : Bool) (flight : List (ℕ × Message)) (d : ℕ) (m : Message) → sum_by (λ (x : ℕ × Message). weight x.1) (if auto then flight else flight ++ (d, m) ∷ []) + (if auto then weight m else 0) ≡ sum_by (λ (x : ℕ × Message). weight x.1) flight + weight m
flight_more weight true flight d m = refl
flight_more weight false flight d m = omega (arith, sum_by_push (λ (x : ℕ × Message). weight x.1) flight (d, m))

module _ (xs : List Subscription) (at : ℕ) (sub : Subscription) (within : at < length xs) (there : slice_get xs at ≡ Some sub) where
  -- a sum over all is that over the others and of the one
  pub sum_others : (f : Subscription → ℕ) → sum_by f (remove xs at) + f sub ≡ sum_by f xs
  sum_others f = rw (get_or_from_slice_get xs at sub sub there) at (sum_by-remove f xs at sub within)

  pub count_others : (x : Subscription) → length (remove xs at ++ x ∷ []) ≡ length xs
  count_others x = omega (arith, length-append (remove xs at) (x ∷ []), length-remove xs at within)

  module _ (q p : Shared) (left : Subscription) (m : Message) (rest : List Message)
      (weigh : (weight : Message → ℕ) → weight_of_shared weight p + sum_by weight left.line + sum_by weight (m ∷ rest) ≡ weight_of_shared weight q + sum_by weight sub.line + sum_by weight rest) where
    lighter : (weight : Message → ℕ) → weight_of_shared weight p + sum_by weight left.line + weight m ≡ weight_of_shared weight q + sum_by weight sub.line
    lighter weight = omega (arith, weigh weight, sum_by-cons weight m rest)

    -- the message was among what is held
    pub was_held : (weight : Message → ℕ) → weight m ≤ weight_of_shared weight q + sum_by (weight_of_subscription weight) xs
    was_held weight = omega (arith, lighter weight, sum_others (weight_of_subscription weight))

    -- one message waits less
    pub waits_less : (d : ℕ) → weight_of_shared one p + sum_by (λ (x : Subscription). sum_by one x.line) (remove xs at ++ delivered left d m ∷ []) + 1 ≡ weight_of_shared one q + sum_by (λ (x : Subscription). sum_by one x.line) xs
    waits_less d =
        omega (arith, lighter one, sum_others (λ (x : Subscription). sum_by one x.line), sum_by_push (λ (x : Subscription). sum_by one x.line) (remove xs at) (delivered left d m))

    -- it is still held unless its mode is `auto`
    pub held_after : (weight : Message → ℕ) (d : ℕ) → left.unacknowledged ≡ sub.unacknowledged → weight_of_shared weight p + sum_by (weight_of_subscription weight) (remove xs at ++ delivered left d m ∷ []) + (if is_auto left.mode then weight m else 0) ≡ weight_of_shared weight q + sum_by (weight_of_subscription weight) xs
    held_after weight d same =
        let flights = ap (λ (f : List (ℕ × Message)). sum_by (λ (x : ℕ × Message). weight x.1) f) same in
        omega (arith, flights, lighter weight, sum_others (weight_of_subscription weight), sum_by_push (weight_of_subscription weight) (remove xs at) (delivered left d m), flight_more weight (is_auto left.mode) left.unacknowledged d m)

-- a number that is over all deliveries has a next one that is over them and over itself
pub over_next : (d : ℕ) (flight : List (ℕ × Message)) → IsOver d flight → IsOver (d + 1) flight
over_next d [] over = tt
over_next d (x ∷ flight) over = (omega (arith, over.0), over_next d flight over.1)

over_pushed : (d : ℕ) (m : Message) (flight : List (ℕ × Message)) → IsOver d flight → IsOver (d + 1) (flight ++ (d, m) ∷ [])
over_pushed d m [] over = (omega arith, tt)
over_pushed d m (x ∷ flight) over = (omega (arith, over.0), over_pushed d m flight over.1)

pub over_delivered : (auto : Bool) (d : ℕ) (m : Message) (flight : List (ℕ × Message)) → IsOver d flight → IsOver (d + 1) (if auto then flight else flight ++ (d, m) ∷ [])
over_delivered true d m flight over = over_next d flight over
over_delivered false d m flight over = over_pushed d m flight over

all_over_next : (d : ℕ) (xs : List Subscription) → AllByRecursion (λ x. IsOver d x.unacknowledged) xs → AllByRecursion (λ x. IsOver (d + 1) x.unacknowledged) xs
all_over_next d [] all = tt
all_over_next d (x ∷ xs) all = (over_next d x.unacknowledged all.0, all_over_next d xs all.1)

pushed_over : (d : ℕ) (xs : List Subscription) (x : Subscription) → AllByRecursion (λ y. IsOver (d + 1) y.unacknowledged) xs → IsOver (d + 1) x.unacknowledged → AllByRecursion (λ y. IsOver (d + 1) y.unacknowledged) (xs ++ x ∷ [])
pushed_over d [] x all over = (over, tt)
pushed_over d (y ∷ ys) x all over = (all.0, pushed_over d ys x all.1 over)

-- what holds of all holds of the others, and of the one
pub all_others : (P : Subscription → Type 0) (xs : List Subscription) (at : ℕ) → AllByRecursion P xs → AllByRecursion P (remove xs at)
all_others P [] zero all = tt
all_others P [] (suc at) all = tt
all_others P (x ∷ xs) zero all = all.1
all_others P (x ∷ xs) (suc at) all = (all.0, all_others P xs at all.1)

pub one_of_all : (P : Subscription → Type 0) (xs : List Subscription) (at : ℕ) (x : Subscription) → slice_get xs at ≡ Some x → AllByRecursion P xs → P x
one_of_all P [] at x there all = absurd cc
one_of_all P (y ∷ ys) zero x there all = subst P (same_some y x there) all.0
one_of_all P (y ∷ ys) (suc at) x there all = one_of_all P ys at x there all.1

-- the next delivery is over all, once one is served
pub next_after : (d : ℕ) (m : Message) (xs : List Subscription) (at : ℕ) (sub left : Subscription) → slice_get xs at ≡ Some sub → left.unacknowledged ≡ sub.unacknowledged → AllByRecursion (λ x. IsOver d x.unacknowledged) xs → AllByRecursion (λ x. IsOver (d + 1) x.unacknowledged) (remove xs at ++ delivered left d m ∷ [])
next_after d m xs at sub left there same all =
    pushed_over d (remove xs at) (delivered left d m) (all_over_next d (remove xs at) (all_others (λ x. IsOver d x.unacknowledged) xs at all))
    (over_delivered (is_auto left.mode) d m left.unacknowledged (subst (IsOver d) (sym same) (one_of_all (λ x. IsOver d x.unacknowledged) xs at sub there all)))

-- a delivery as it is made
pub handed_made : (s : State) (sub left : Subscription) (others : List Subscription) (line : List Message) (m : Message) (shared : Shared) (subs : List Subscription) (out : OutValue)
    → first_of line ≡ Some m → shared ≡ left_shared s.shared sub (drop 1 line) → left ≡ left_line sub (drop 1 line) → subs ≡ others ++ delivered left s.next_delivery m ∷ [] → out ≡ message_out s.count left s.next_delivery m
    → handed_from s sub others line ≡ Some (record { state = record s { next_delivery = s.next_delivery + 1; shared = shared; subscriptions = subs }; out = out })
handed_made s sub left others line m shared subs out first qs ls ss os =
    rw (os, ss, qs, ls) (ap (handed_from s sub others) (first_and_rest line m first))

-- what is counted after a delivery is what is held
pub counted_after : (auto : Bool) (held now x old new : ℕ) → held ≡ old → now ≡ (if auto then held - x else held) → new + (if auto then x else 0) ≡ old → now ≡ new
counted_after true held now x old new was is less = omega (arith, was, is, less)
counted_after false held now x old new was is less = omega (arith, was, is, less)

-- who can be served gets a number under 2^63
pub number_of_ready : (s : State) (sub : Subscription) → can_take s sub ≡ true → s.next_delivery < 2 ^ 63
number_of_ready s sub ready =
    let p = and_parts (nat_lt s.next_delivery (2 ^ 63) && has_room sub) (not (is_none (line_for s.shared sub))) ready in
    ltb-true s.next_delivery (2 ^ 63) (and_parts (nat_lt s.next_delivery (2 ^ 63)) (has_room sub) p.0).0

-- a delivery adds nothing to what is held
pub no_more_after : (auto : Bool) (held now x : ℕ) → now ≡ (if auto then held - x else held) → now ≤ held
no_more_after true held now x is = omega (arith, is)
no_more_after false held now x is = omega (arith, is)
