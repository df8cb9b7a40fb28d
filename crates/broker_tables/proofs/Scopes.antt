use Rattle.std.proofs.Common.{◌≡◌, ◌+◌, ◌&&◌, ◌||◌, ◌⊎◌, ◌++◌, List, [], ◌∷◌, ℕ, suc, zero, Bool, true, false, Option, None, Some, cond, count_by, inl, inr, is_some, nat_le, not, refl, slice_get, sym, take, ap, ◌∙◌, arith}
use Rattle.std.specs.List.{list_any}
use Rattle.std.proofs.lemmas.Bool.Decides.{nat_tests}
use Rattle.std.proofs.lemmas.List.Sums.{sum_by-cons}
use Rattle.std.proofs.lemmas.Option.{none-some, same_Some}
use Rattle.command_core.specs.Destinations.{is_queue}
use Rattle.broker_state.specs.declared.subscription.Subscription.{Subscription}
use Rattle.broker_state.specs.Lists.{is_none}
use Rattle.broker_state.specs.Names.{Name, text_cmp}
use Rattle.broker_state.specs.Waiting.{Shared, is_own, line_at, line_for, line_from}
use Rattle.waiting_order.specs.declared.groups.Place.{Place}
use Rattle.waiting_order.specs.declared.waiters.Waiter.{Waiter}
use Rattle.waiting_order.specs.Directories.{AreAlike, IsFirstFrom, IsNext, NoneFrom, behind_in, is_behind, is_in}
use Rattle.waiting_order.specs.Waiting.{IsOrdered, Waiting}
use Rattle.waiting_order.proofs.Rising.{rising_before}
use Rattle.broker_tables.specs.declared.cursors.Cursor.{Cursor}
use Rattle.broker_tables.specs.declared.due.Due.{Due}
use Rattle.broker_tables.specs.declared.due.Scope.{Scope}
use Rattle.broker_tables.specs.Cursors.{AwaitAllDue, is_ahead, is_awaited}
use Rattle.broker_tables.specs.Dues.{is_under}
use Rattle.broker_tables.specs.Scopes.{IdleUntil, IsScope, is_within}
use Rattle.broker_tables.proofs.Dues.{clash, or_left, or_right}
use Rattle.broker_tables.proofs.Waiters.{W}

-- Where nobody of a scope is left, nothing waits for any of them.
pub idle_to_end : (scope : Scope) (shared : Shared) (ws : List W) (from : ℕ) → NoneFrom (is_within scope) ws from → (until : ℕ) → IdleUntil scope shared ws from until
idle_to_end scope shared ws from none until i w is after before within = absurd (clash (is_within scope w.1) within (none i w is after))

-- and so it is before the next of them
pub idle_before : (scope : Scope) (shared : Shared) (o : Waiting) (from : ℕ) (place : Place) → IsOrdered o → (next : IsFirstFrom (is_within scope) o.all from place) → IdleUntil scope shared o.all from place.ticket
idle_before scope shared o from place ordered next i w is after before within =
    let first = rising_before (λ (v : W). v.1.ticket) o.all i next.at w (place.key, next.waiter) ordered.rising is next.there (omega (arith, before, next.ticket)) in
    absurd (clash (is_within scope w.1) within (next.before i w is after first))

-- Who passes one test passes another: the next of them is the same.
pub next_alike : (p q : Waiter → Bool) → ((s : Waiter) → p s ≡ q s) → (ws : List W) (from : ℕ) (next : Option Place) → IsNext p ws from next → IsNext q ws from next
next_alike p q same ws from None none = λ i w is after. sym (same w.1) ∙ none i w is after
next_alike p q same ws from (Some place) next = record {
  at = next.at;
  waiter = next.waiter;
  there = next.there;
  ticket = next.ticket;
  after = next.after;
  passing = sym (same next.waiter) ∙ next.passing;
  before = λ i w is after less. sym (same w.1) ∙ next.before i w is after less;
}

pub and_true : (b : Bool) → (b && true) ≡ b
and_true true = refl
and_true false = refl

-- Those who are alike are served from the same line, or each from its own.
module _ (a b : Subscription) where
  own_from : (o : Option Name) → not (is_some o || is_queue a.destination) ≡ true → (o ≡ None → a.destination ≡ b.destination) → not (is_some o || is_queue b.destination) ≡ true
  own_from (Some name) own same = absurd cc
  own_from None own same = ap (λ (to : List ℕ). not (is_queue to)) (sym (same refl)) ∙ own

  pub same_own : AreAlike a b → is_own a ≡ true → is_own b ≡ true
  same_own same own =
      ap (λ (o : Option Name). not (is_some o || is_queue b.destination)) (sym same.durable) ∙ own_from a.durable own same.destination

module _ (shared : Shared) (a b : Subscription) where
  same_from : (o : Option Name) → not (is_some o || is_queue a.destination) ≡ false → (o ≡ None → a.destination ≡ b.destination) → line_from shared b o ≡ line_from shared a o
  same_from (Some name) other same = refl
  same_from None other same = by (is_queue a.destination) refl other
    where
      by : (q : Bool) → is_queue a.destination ≡ q → not q ≡ false → line_from shared b None ≡ line_from shared a None
      by true is so =
          ap (λ (to : List ℕ). cond (is_queue to) (line_at text_cmp to shared.queues) b.line) (sym (same refl))
          ∙ ap (λ q. cond q (line_at text_cmp a.destination shared.queues) b.line) is
          ∙ sym (ap (λ q. cond q (line_at text_cmp a.destination shared.queues) a.line) is)
      by false is so = absurd cc

  pub same_line : AreAlike a b → is_own a ≡ false → line_for shared b ≡ line_for shared a
  same_line same other =
      ap (line_from shared b) (sym same.durable) ∙ same_from a.durable other same.destination

pub none_waits : (r b : Bool) → r ≡ not b → not r ≡ true → b ≡ true
none_waits true true is idle = refl
none_waits true false is idle = absurd cc
none_waits false true is idle = refl
none_waits false false is idle = absurd cc

-- two of one group are of the same group
pub same_group : (group : ℕ) (a b : Waiter) → is_in group a ≡ true → is_in group b ≡ true → a.group ≡ b.group
same_group group a b first second = grind (arith, nat_tests)

abbrev one : Bool → ℕ
one b = cond b 1 0

abbrev waits_in : ℕ → W → Bool
waits_in group v = is_in group v.1 && is_behind v.1.sub

-- where nobody of a group is behind, each of it has nothing in its own line
pub none_behind : (group : ℕ) (ws : List W) → behind_in group ws ≡ 0 → (i : ℕ) (w : W) → slice_get ws i ≡ Some w → is_in group w.1 ≡ true → is_none w.1.sub.line ≡ true
none_behind group [] none i w is within = absurd (none-some w is)
none_behind group (x ∷ ws) none zero w is within =
    let same : x ≡ w = same_Some x w is in
    let whole : one (waits_in group x) + count_by (waits_in group) ws ≡ 0 = sym (sum_by-cons (λ (v : W). one (waits_in group v)) x ws) ∙ none in
    ap (λ (v : W). is_none v.1.sub.line) (sym same) ∙ first (is_in group x.1) (is_none x.1.sub.line) (count_by (waits_in group) ws) (ap (λ (v : W). is_in group v.1) same ∙ within) whole
  where
    first : (a b : Bool) → (rest : ℕ) → a ≡ true → one (a && not b) + rest ≡ 0 → b ≡ true
    first a true rest is so = refl
    first true false rest is so = absurd (omega (arith, so))
    first false false rest is so = absurd cc
none_behind group (x ∷ ws) none (suc i) w is within =
    let whole : one (waits_in group x) + count_by (waits_in group) ws ≡ 0 = sym (sum_by-cons (λ (v : W). one (waits_in group v)) x ws) ∙ none in
    none_behind group ws (omega (arith, whole)) i w is within

-- a test that one of the first items passes is passed by one before the last of them, or by that
any_upto : {X : Type 0} (p : X → Bool) (xs : List X) (k : ℕ) (x : X) → slice_get xs k ≡ Some x → list_any p (take (suc k) xs) ≡ true → (list_any p (take k xs) ≡ true) ⊎ (p x ≡ true)
any_upto p [] k x there is = absurd (none-some x there)
any_upto {X} p (y ∷ xs) zero x there is = by (p y) refl is
  where
    by : (b : Bool) → p y ≡ b → (b || list_any p (take 0 xs)) ≡ true → (list_any p (take 0 (y ∷ xs)) ≡ true) ⊎ (p x ≡ true)
    by true passes is = inr (sym (ap p (same_Some y x there)) ∙ passes)
    by false fails is = none xs is
      where
        none : (ys : List X) → list_any p (take 0 ys) ≡ true → (list_any p (take 0 (y ∷ xs)) ≡ true) ⊎ (p x ≡ true)
        none [] is = absurd cc
        none (z ∷ ys) is = absurd cc
any_upto p (y ∷ xs) (suc k) x there is = by (p y) is (λ rest. any_upto p xs k x there rest)
  where
    by : (b : Bool) → (b || list_any p (take (suc k) xs)) ≡ true → (list_any p (take (suc k) xs) ≡ true → (list_any p (take k xs) ≡ true) ⊎ (p x ≡ true)) → ((b || list_any p (take k xs)) ≡ true) ⊎ (p x ≡ true)
    by true is rest = inl refl
    by false is rest = rest is

-- a cursor more awaits whom the others do
abbrev start : Scope → Cursor
start scope = record { from = 0; scope = scope }

module _ (marks : List Due) (k : ℕ) (due : Due) (there : slice_get marks k ≡ Some due) (cursors : List Cursor) where
  -- nobody is there who is due by that mark
  pub await_none : (ws : List W) → IsScope due ws None → AwaitAllDue cursors (take k marks) ws → AwaitAllDue cursors (take (suc k) marks) ws
  await_none [] none all = tt
  await_none (w ∷ ws) none all = (
    λ is. elim (any_upto (λ (mark : Due). is_under mark w.1.sub) marks k due there is) [
      | inl before ↦ all.0 before
      | inr under ↦ absurd (clash (is_under due w.1.sub) under none.0)
    ],
    await_none ws none.1 all.1,
  )

  -- or they are those of a scope
  pub await_some : (scope : Scope) (ws : List W) → IsScope due ws (Some scope) → AwaitAllDue cursors (take k marks) ws → AwaitAllDue (start scope ∷ cursors) (take (suc k) marks) ws
  await_some scope [] same all = tt
  await_some scope (w ∷ ws) same all = (
    λ is. elim (any_upto (λ (mark : Due). is_under mark w.1.sub) marks k due there is) [
      | inl before ↦ or_right (is_ahead w.1 (start scope)) (is_awaited cursors w.1) (all.0 before)
      | inr under ↦ or_left (is_ahead w.1 (start scope)) (is_awaited cursors w.1) (begins (sym same.0 ∙ under))
    ],
    await_some scope ws same.1 all.1,
  )
    where
      begins : is_within scope w.1 ≡ true → is_ahead w.1 (start scope) ≡ true
      begins within =
          let first : nat_le 0 w.1.ticket ≡ true = grind (arith, nat_tests) in
          rw (first, within) refl
