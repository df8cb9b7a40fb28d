use Rattle.std.proofs.Common.{◌≡◌, ◌<◌, ◌≤◌, ◌+◌, ◌&&◌, ◌⊎◌, List, [], ◌∷◌, ℕ, suc, zero, Bool, true, false, Some, cond, filter, inl, inr, map, nat_le, refl, sym, ap, subst, ◌∙◌, arith, slice_get, if◌then◌else◌}
use Rattle.std.specs.List.{AllByRecursion}
use Rattle.std.proofs.lemmas.Bool.{cases_lt}
use Rattle.std.proofs.lemmas.Bool.Decides.{nat_tests}
use Rattle.std.proofs.lemmas.Option.{none-some, same_Some}
use Rattle.broker_state.specs.Operations.{is_of}
use Rattle.broker_state.proofs.Weights.{all_at}
use Rattle.waiting_order.specs.declared.waiters.Key.{Key}
use Rattle.waiting_order.specs.declared.waiters.Waiter.{Waiter}
use Rattle.waiting_order.specs.Tickets.{IsRising}
use Rattle.waiting_order.specs.Waiting.{subs_of}
use Rattle.broker_core.specs.declared.precheck.PrecheckFlight.{PrecheckFlight}
use Rattle.broker_core.specs.Prechecks.{flight_of, flights_of}

abbrev pub W : Type 0
W = Key × Waiter

abbrev ticket : W → ℕ
ticket w = w.1.ticket

-- the flights of the session's subscriptions from a ticket on
abbrev pub flights_from : ℕ → ℕ → List W → List PrecheckFlight
flights_from session from [] = []
flights_from session from (w ∷ ws) =
    if nat_le from w.1.ticket && is_of session w.1.sub then flight_of w.1.sub ∷ flights_from session from ws else flights_from session from ws

module _ (session : ℕ) where
  -- from the first ticket on these are all
  pub from_first : (ws : List W) → flights_from session 0 ws ≡ flights_of session (subs_of ws)
  from_first [] = refl
  from_first (w ∷ ws) =
      let yes : nat_le 0 w.1.ticket ≡ true = grind (arith, nat_tests) in
      ap (λ b. cond (b && is_of session w.1.sub) (flight_of w.1.sub ∷ flights_from session 0 ws) (flights_from session 0 ws)) yes ∙ by (is_of session w.1.sub) (from_first ws)
    where
      by : (b : Bool) → flights_from session 0 ws ≡ flights_of session (subs_of ws) → cond b (flight_of w.1.sub ∷ flights_from session 0 ws) (flights_from session 0 ws) ≡ map flight_of (cond b (w.1.sub ∷ filter (is_of session) (subs_of ws)) (filter (is_of session) (subs_of ws)))
      by true rest = ap (λ l. flight_of w.1.sub ∷ l) rest
      by false rest = rest

  -- and none where no such subscription stands there
  pub none_from : (from : ℕ) (ws : List W) → ((i : ℕ) (w : W) → slice_get ws i ≡ Some w → from ≤ w.1.ticket → is_of session w.1.sub ≡ false) → flights_from session from ws ≡ []
  none_from from [] none = refl
  none_from from (w ∷ ws) none = by (cases_lt w.1.ticket from) (none_from from ws (λ i v is. none (suc i) v is))
    where
      by : (w.1.ticket < from) ⊎ (from ≤ w.1.ticket) → flights_from session from ws ≡ [] → flights_from session from (w ∷ ws) ≡ []
      by (inl less) rest =
          let no : nat_le from w.1.ticket ≡ false = grind (arith, nat_tests) in
          rw no rest
      by (inr after) rest =
          let yes : nat_le from w.1.ticket ≡ true = grind (arith, nat_tests) in
          rw (yes, none 0 w refl after) rest

  -- where all are behind a ticket, they are the same from any one up to that
  later : (from to : ℕ) (ws : List W) → from ≤ to → AllByRecursion (λ (w : W). to ≤ w.1.ticket) ws → flights_from session from ws ≡ flights_from session to ws
  later from to [] le all = refl
  later from to (w ∷ ws) le all =
      let after : to ≤ w.1.ticket = all.0 in
      let one : nat_le from w.1.ticket ≡ true = grind (arith, nat_tests) in
      let other : nat_le to w.1.ticket ≡ true = grind (arith, nat_tests) in
      let rest = later from to ws le all.1 in
      rw (one, other) (ap (λ l. cond (is_of session w.1.sub) (flight_of w.1.sub ∷ l) l) rest)

  behind : (n : ℕ) (ws : List W) → AllByRecursion (λ (v : W). n < v.1.ticket) ws → AllByRecursion (λ (v : W). n + 1 ≤ v.1.ticket) ws
  behind n [] all = tt
  behind n (w ∷ ws) all = (omega (arith, all.0), behind n ws all.1)

  -- the first one from a ticket on, and then those from the next ticket on
  pub first_from : (from : ℕ) (ws : List W) (at : ℕ) (w : W) → IsRising ticket ws → slice_get ws at ≡ Some w → from ≤ w.1.ticket → is_of session w.1.sub ≡ true
      → ((i : ℕ) (v : W) → slice_get ws i ≡ Some v → from ≤ v.1.ticket → i < at → is_of session v.1.sub ≡ false)
      → flights_from session from ws ≡ flight_of w.1.sub ∷ flights_from session (w.1.ticket + 1) ws
  first_from from [] at w rising is after mine before = absurd (none-some w is)
  first_from from (v ∷ ws) zero w rising is after mine before =
      let same : v ≡ w = same_Some v w is in
      let here : from ≤ v.1.ticket = subst (λ (x : W). from ≤ x.1.ticket) (sym same) after in
      let yes : nat_le from v.1.ticket ≡ true = grind (arith, nat_tests) in
      let own : is_of session v.1.sub ≡ true = ap (λ (x : W). is_of session x.1.sub) same ∙ mine in
      let none : nat_le (w.1.ticket + 1) v.1.ticket ≡ false =
      let equal : v.1.ticket ≡ w.1.ticket = ap ticket same in
      grind (arith, nat_tests) in
      let rest : flights_from session from ws ≡ flights_from session (w.1.ticket + 1) ws =
      subst (λ (x : W). flights_from session from ws ≡ flights_from session (x.1.ticket + 1) ws) same (later from (v.1.ticket + 1) ws (omega (arith, here)) (behind v.1.ticket ws rising.0)) in
      rw (yes, own, none) (ap (λ l. flight_of v.1.sub ∷ l) rest ∙ ap (λ (x : W). flight_of x.1.sub ∷ flights_from session (w.1.ticket + 1) ws) same)
  first_from from (v ∷ ws) (suc at) w rising is after mine before = by (cases_lt v.1.ticket from) (first_from from ws at w rising.1 is after mine (λ i x there here less. before (suc i) x there here (omega (arith, less))))
    where
      earlier : v.1.ticket < w.1.ticket
      earlier = all_at (λ (x : W). v.1.ticket < x.1.ticket) ws at w is rising.0

      gone : nat_le (w.1.ticket + 1) v.1.ticket ≡ false
      gone = let less : v.1.ticket < w.1.ticket = earlier in grind (arith, nat_tests)

      by : (v.1.ticket < from) ⊎ (from ≤ v.1.ticket) → flights_from session from ws ≡ flight_of w.1.sub ∷ flights_from session (w.1.ticket + 1) ws → flights_from session from (v ∷ ws) ≡ flight_of w.1.sub ∷ flights_from session (w.1.ticket + 1) (v ∷ ws)
      by (inl less) rest =
          let no : nat_le from v.1.ticket ≡ false = grind (arith, nat_tests) in
          rw (no, gone) rest
      by (inr here) rest =
          let yes : nat_le from v.1.ticket ≡ true = grind (arith, nat_tests) in
          rw (yes, before 0 v refl here (omega arith), gone) rest
