use Rattle.std.proofs.Common.{◌≡◌, ◌<◌, ◌≤◌, ◌+◌, ◌||◌, ◌⊎◌, List, [], ◌∷◌, ℕ, Bool, true, false, Some, cond, count_by, inl, inr, nat_lt, refl, remove, sym, ap, ◌∙◌, arith}
use Rattle.std.specs.List.{list_any}
use Rattle.std.proofs.lemmas.Bool.{cases_lt}
use Rattle.std.proofs.lemmas.Bool.Decides.{nat_tests}
use Rattle.std.proofs.lemmas.List.Sums.{sum_by-cons}
use Rattle.broker_state.specs.declared.subscription.Subscription.{Subscription}
use Rattle.broker_state.specs.Lists.{picked}
use Rattle.broker_state.specs.Names.{Name}
use Rattle.broker_state.specs.Operations.{ended_one, is_named, or_same, uses, without_named}
use Rattle.broker_state.specs.Parts.{NonePass}
use Rattle.broker_state.specs.States.{State}
use Rattle.broker_state.proofs.Firsts.{picked_first, picked_none}
use Rattle.broker_state.proofs.Weights.{sum_by-removed}
use Rattle.waiting_order.specs.declared.waiters.Key.{Key}
use Rattle.waiting_order.specs.Waiting.{subs_of}
use Rattle.broker_tables.specs.Places.{IsFirstAt}
use Rattle.broker_tables.proofs.Waiters.{W, sub_at}

abbrev one : Bool → ℕ
one b = cond b 1 0

-- one passes where some are counted
pub any_counted : {X : Type 0} (p : X → Bool) (xs : List X) → nat_lt 0 (count_by p xs) ≡ list_any p xs
any_counted p [] = refl
any_counted {X} p (x ∷ xs) = by (p x) refl (any_counted p xs)
  where
    by : (b : Bool) → p x ≡ b → nat_lt 0 (count_by p xs) ≡ list_any p xs → nat_lt 0 (count_by p (x ∷ xs)) ≡ list_any p (x ∷ xs)
    by true is rest =
        let more : 0 < count_by p (x ∷ xs) = omega (arith, sum_by-cons (λ (y : X). one (p y)) x xs, ap one is) in
        let yes : nat_lt 0 (count_by p (x ∷ xs)) ≡ true = grind (arith, nat_tests) in
        yes ∙ sym (ap (λ b. b || list_any p xs) is)
    by false is rest =
        let same : count_by p (x ∷ xs) ≡ count_by p xs = omega (arith, sum_by-cons (λ (y : X). one (p y)) x xs, ap one is) in
        ap (nat_lt 0) same ∙ rest ∙ sym (ap (λ b. b || list_any p xs) is)

one_less : (m n : ℕ) → m ≡ n + 1 → nat_lt 1 m ≡ nat_lt 0 n
one_less m n is = by (cases_lt 0 n)
  where
    by : (0 < n) ⊎ (n ≤ 0) → nat_lt 1 m ≡ nat_lt 0 n
    by (inl some) =
        let yes : nat_lt 0 n ≡ true = grind (arith, nat_tests) in
        let more : 1 < m = omega (arith, is, some) in
        let so : nat_lt 1 m ≡ true = grind (arith, nat_tests) in
        so ∙ sym yes
    by (inr none) =
        let no : nat_lt 0 n ≡ false = grind (arith, nat_tests) in
        let few : m ≤ 1 = omega (arith, is, none) in
        let so : nat_lt 1 m ≡ false = grind (arith, nat_tests) in
        so ∙ sym no

module _ (name : Name) (s : State) (session : ℕ) (id : List ℕ) (ws : List W) (same : s.subscriptions ≡ subs_of ws) where
  -- where the session has none of that id, all are left
  pub all_left : NonePass (is_named session id) (subs_of ws) → (without_named s session (Some id)).subscriptions ≡ subs_of ws
  all_left none =
      ap (λ (l : List Subscription). (or_same s (ended_one s (picked (is_named session id) l))).subscriptions) same
      ∙ ap (λ o. (or_same s (ended_one s o)).subscriptions) (picked_none (is_named session id) (subs_of ws) none) ∙ same

  module _ (key : Key) (first : IsFirstAt (is_named session id) ws key) where
    others_left : (without_named s session (Some id)).subscriptions ≡ remove (subs_of ws) first.at
    others_left =
        ap (λ (l : List Subscription). (or_same s (ended_one s (picked (is_named session id) l))).subscriptions) same
        ∙ ap (λ o. (or_same s (ended_one s o)).subscriptions) (picked_first (is_named session id) (subs_of ws) first.at first.waiter.sub first.first (sub_at ws first.at (key, first.waiter) first.there))

    counted : count_by (uses name) (remove (subs_of ws) first.at) + one (uses name first.waiter.sub) ≡ count_by (uses name) (subs_of ws)
    counted = sum_by-removed (λ (x : Subscription). one (uses name x)) (subs_of ws) first.at first.waiter.sub (sub_at ws first.at (key, first.waiter) first.there)

    pub beside_user : (users : ℕ) → users ≡ count_by (uses name) (subs_of ws) → uses name first.waiter.sub ≡ true → nat_lt 1 users ≡ list_any (uses name) (without_named s session (Some id)).subscriptions
    beside_user users is own =
        one_less users (count_by (uses name) (remove (subs_of ws) first.at)) (omega (arith, is, counted, ap one own))
        ∙ any_counted (uses name) (remove (subs_of ws) first.at) ∙ sym (ap (list_any (uses name)) others_left)

    pub beside_other : (users : ℕ) → users ≡ count_by (uses name) (subs_of ws) → uses name first.waiter.sub ≡ false → nat_lt 0 users ≡ list_any (uses name) (without_named s session (Some id)).subscriptions
    beside_other users is own =
        let all : users ≡ count_by (uses name) (remove (subs_of ws) first.at) = omega (arith, is, counted, ap one own) in
        ap (nat_lt 0) all ∙ any_counted (uses name) (remove (subs_of ws) first.at) ∙ sym (ap (list_any (uses name)) others_left)
