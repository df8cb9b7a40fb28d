use Rattle.std.proofs.Common.{◌≡◌, ◌&&◌, List, [], ◌∷◌, ℕ, suc, zero, Bool, true, false, Err, Ok, Result, Some, length, map, refl, remove, sym, ap, subst, ◌∙◌, arith, slice_get, slice_set}
use Rattle.std.specs.List.{AllByRecursion}
use Rattle.std.specs.Result.{OnOk}
use Rattle.std.specs.Str.{bytes_eq}
use Rattle.std.proofs.lemmas.Option.{none-some, same_Some, slice_get_within}
use Rattle.line_core.specs.declared.message.Message.{Message}
use Rattle.command_core.specs.Destinations.{is_queue}
use Rattle.broker_state.specs.declared.subscription.Subscription.{Subscription}
use Rattle.broker_state.specs.Lists.{changed}
use Rattle.broker_state.specs.Operations.{copied}
use Rattle.broker_state.specs.Parts.{IsFirst, NonePass}
use Rattle.broker_state.specs.Waiting.{is_own}
use Rattle.broker_state.proofs.Sendings.{copied_other, copied_own}
use Rattle.waiting_order.specs.declared.waiters.Key.{Key}
use Rattle.waiting_order.specs.declared.groups.Place.{Place}
use Rattle.waiting_order.specs.declared.waiters.Waiter.{Waiter}
use Rattle.waiting_order.specs.Directories.{IsFirstFrom, NoneFrom, is_plain_at}
use Rattle.waiting_order.specs.Keeping.{put_where, with_sub}
use Rattle.waiting_order.specs.Waiting.{subs_of}
use Rattle.broker_tables.specs.Places.{IsFirstAt}
use Rattle.broker_tables.proofs.Nexts.{none_taken, plain_listens}

abbrev pub W : Type 0
W = Key × Waiter

-- The subscriptions of waiters, place by place.
pub sub_at : (ws : List W) (at : ℕ) (w : W) → slice_get ws at ≡ Some w → slice_get (subs_of ws) at ≡ Some w.1.sub
sub_at [] at w is = absurd (none-some w is)
sub_at (x ∷ ws) zero w is = ap (λ (y : W). Some y.1.sub) (same_Some x w is)
sub_at (x ∷ ws) (suc at) w is = sub_at ws at w is

pub waiter_of : (ws : List W) (at : ℕ) (sub : Subscription) → slice_get (subs_of ws) at ≡ Some sub → (w : W) × (slice_get ws at ≡ Some w) × (w.1.sub ≡ sub)
waiter_of [] at sub is = absurd (none-some sub is)
waiter_of (x ∷ ws) zero sub is = (x, refl, same_Some x.1.sub sub is)
waiter_of (x ∷ ws) (suc at) sub is = waiter_of ws at sub is

pub subs_changed : (f : Subscription → Subscription) (ws : List W) (at : ℕ) → subs_of (changed at (with_sub f) ws) ≡ changed at f (subs_of ws)
subs_changed f [] at = refl
subs_changed f (w ∷ ws) zero = refl
subs_changed f (w ∷ ws) (suc at) = ap (λ l. w.1.sub ∷ l) (subs_changed f ws at)

pub subs_removed : (ws : List W) (at : ℕ) → subs_of (remove ws at) ≡ remove (subs_of ws) at
subs_removed [] zero = refl
subs_removed [] (suc at) = refl
subs_removed (w ∷ ws) zero = refl
subs_removed (w ∷ ws) (suc at) = ap (λ l. w.1.sub ∷ l) (subs_removed ws at)

pub length_subs : (ws : List W) → length (subs_of ws) ≡ length ws
length_subs [] = refl
length_subs (w ∷ ws) = omega (arith, length_subs ws)

-- What holds of each waiter's subscription holds of each subscription.
module _ (P : Subscription → Type 0) where
  abbrev Of : W → Type 0
  Of w = P w.1.sub

  pub all_subs : (ws : List W) → AllByRecursion Of ws → AllByRecursion P (subs_of ws)
  all_subs [] all = tt
  all_subs (w ∷ ws) all = (all.0, all_subs ws all.1)

  pub all_waiters : (ws : List W) → AllByRecursion P (subs_of ws) → AllByRecursion Of ws
  all_waiters [] all = tt
  all_waiters (w ∷ ws) all = (all.0, all_waiters ws all.1)

-- each listener's line gets a copy
pub subs_put : (m : Message) → is_queue m.sending.destination ≡ false → (ws : List W) → subs_of (map (put_where (is_plain_at m.sending.destination) m) ws) ≡ map (copied m) (subs_of ws)
subs_put m topic [] = refl
subs_put m topic (w ∷ ws) =
    ap (λ (x : Subscription). x ∷ subs_of (map (put_where (is_plain_at m.sending.destination) m) ws)) (by (is_plain_at m.sending.destination w.1.sub) refl)
    ∙ ap (λ l. copied m w.1.sub ∷ l) (subs_put m topic ws)
  where
    listens : is_plain_at m.sending.destination w.1.sub ≡ (is_own w.1.sub && bytes_eq w.1.sub.destination m.sending.destination)
    listens = plain_listens m.sending.destination topic w.1.sub

    by : (b : Bool) → is_plain_at m.sending.destination w.1.sub ≡ b → (put_where (is_plain_at m.sending.destination) m w).1.sub ≡ copied m w.1.sub
    by true is = rw is (copied_own m w.1.sub (sym listens ∙ is))
    by false is = rw is (copied_other m w.1.sub (sym listens ∙ is))

-- The next one from the first ticket on is the first of all.
module _ (p : Subscription → Bool) (ws : List W) where
  abbrev passes : Waiter → Bool
  passes s = p s.sub

  pub none_first : NoneFrom passes ws 0 → NonePass p (subs_of ws)
  none_first none = all_subs (λ x. p x ≡ false) ws (go ws (λ i w is. none i w is (omega arith)))
    where
      go : (vs : List W) → ((i : ℕ) (w : W) → slice_get vs i ≡ Some w → p w.1.sub ≡ false) → AllByRecursion (λ (w : W). p w.1.sub ≡ false) vs
      go [] each = tt
      go (v ∷ vs) each = (each 0 v refl, go vs (λ i w is. each (suc i) w is))

  pub first_from : (place : Place) (next : IsFirstFrom passes ws 0 place) → IsFirst p (subs_of ws) next.at
  first_from place next = record {
    within = omega (arith, slice_get_within ws next.at (place.key, next.waiter) next.there, length_subs ws);
    passing = λ x is. subst (λ (y : Subscription). p y ≡ true) (same_Some next.waiter.sub x (sym (sub_at ws next.at (place.key, next.waiter) next.there) ∙ is)) next.passing;
    before = none_taken p (subs_of ws) next.at (λ i x is less.
        let w = waiter_of ws i x is in
        subst (λ (y : Subscription). p y ≡ false) w.2 (next.before i w.0 w.1 (omega arith) less));
  }

  pub first_at : (place : Place) → IsFirstFrom passes ws 0 place → IsFirstAt p ws place.key
  first_at place next = record { at = next.at; waiter = next.waiter; there = next.there; first = first_from place next }

-- another item in a place
pub set_changed : {X : Type 0} (f : X → X) (xs : List X) (at : ℕ) (x y : X) → slice_get xs at ≡ Some x → y ≡ f x → slice_set xs at y ≡ changed at f xs
set_changed f [] at x y is same = absurd (none-some x is)
set_changed f (z ∷ xs) zero x y is same =
    ap (λ w. w ∷ xs) (same ∙ sym (ap f (same_Some z x is)))
set_changed f (z ∷ xs) (suc at) x y is same = ap (λ ws. z ∷ ws) (set_changed f xs at x y is same)

-- One item is changed, in its place.
module _ {X : Type 0} (f : X → X) where
  pub changed_there : (xs : List X) (at : ℕ) (x : X) → slice_get xs at ≡ Some x → slice_get (changed at f xs) at ≡ Some (f x)
  changed_there [] at x is = absurd (none-some x is)
  changed_there (y ∷ xs) zero x is = ap (λ z. Some (f z)) (same_Some y x is)
  changed_there (y ∷ xs) (suc at) x is = changed_there xs at x is

  pub changed_alike : (g : X → X) (xs : List X) (at : ℕ) (x : X) → slice_get xs at ≡ Some x → f x ≡ g x → changed at f xs ≡ changed at g xs
  changed_alike g [] at x is same = refl
  changed_alike g (y ∷ xs) zero x is same =
      let here : y ≡ x = same_Some y x is in
      ap (λ z. z ∷ xs) (ap f here ∙ same ∙ sym (ap g here))
  changed_alike g (y ∷ xs) (suc at) x is same = ap (λ l. y ∷ l) (changed_alike g xs at x is same)

  pub changed_none : (xs : List X) (at : ℕ) (x : X) → slice_get xs at ≡ Some x → f x ≡ x → xs ≡ changed at f xs
  changed_none [] at x is same = refl
  changed_none (y ∷ xs) zero x is same =
      let here : y ≡ x = same_Some y x is in
      ap (λ z. z ∷ xs) (here ∙ sym (ap f here ∙ same))
  changed_none (y ∷ xs) (suc at) x is same = ap (λ l. y ∷ l) (changed_none xs at x is same)

  pub changed_removed : (xs : List X) (at : ℕ) → remove (changed at f xs) at ≡ remove xs at
  changed_removed [] zero = refl
  changed_removed [] (suc at) = refl
  changed_removed (y ∷ xs) zero = refl
  changed_removed (y ∷ xs) (suc at) = ap (λ l. y ∷ l) (changed_removed xs at)

pub on_ok : {X E : Type 0} (r : Result X E) (A : Type 0) → A → OnOk r A
on_ok (Ok x) A a = a
on_ok (Err e) A a = tt

pub both_ok : {X E : Type 0} (r : Result X E) (A B C : Type 0) → (A → B → C) → OnOk r A → OnOk r B → OnOk r C
both_ok (Ok x) A B C so a b = so a b
both_ok (Err e) A B C so a b = tt
