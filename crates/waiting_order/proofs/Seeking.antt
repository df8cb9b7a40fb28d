use Rattle.std.proofs.Common.{◌≡◌, ◌==◌, ◌<◌, ◌≤◌, ◌+◌, ◌&&◌, ◌⊎◌, List, [], ◌∷◌, ℕ, suc, zero, Bool, true, false, cond, count_by, Option, Some, None, inl, inr, nat_le, refl, sym, ap, subst, ◌∙◌, arith, slice_get}
use Rattle.std.specs.List.{AllByRecursion}
use Rattle.std.proofs.lemmas.Bool.{and_parts, cases_lt, leb-true}
use Rattle.std.proofs.lemmas.Bool.Decides.{nat_tests}
use Rattle.std.proofs.lemmas.List.Sums.{sum_by-cons}
use Rattle.std.proofs.lemmas.Option.{none-some, same_Some}
use Rattle.broker_state.proofs.Weights.{all_at}
use Rattle.broker_state.specs.declared.subscription.Subscription.{Subscription}
use Rattle.broker_state.specs.Operations.{is_of}
use Rattle.waiting_order.specs.declared.waiters.Key.{Key}
use Rattle.waiting_order.specs.declared.groups.Place.{Place}
use Rattle.waiting_order.specs.declared.finding.Sought.{Sought}
use Rattle.waiting_order.specs.declared.waiters.Waiter.{Waiter}
use Rattle.waiting_order.specs.Directories.{IsNext, IsSlotted}
use Rattle.waiting_order.specs.Keys.{key_eq, key_of}
use Rattle.waiting_order.specs.Soughts.{IsSeen, IsSeenAt, is_sought, is_sought_of, sooner}
use Rattle.waiting_order.specs.Waiting.{IsFree, IsOrdered, Waiting, subs_of}
use Rattle.waiting_order.proofs.Rising.{rising_at}
use Rattle.waiting_order.proofs.Timed.{W, clash, key_itself, key_same, ticket_of}

abbrev pub one : Bool → ℕ
one b = cond b 1 0

abbrev at_slot : ℕ → ℕ → W → Bool
at_slot session slot w = key_eq (key_of session slot) w.0

-- how many stand at the slots of a session under that one
abbrev pub total : ℕ → ℕ → List W → ℕ
total session zero ws = 0
total session (suc k) ws = total session k ws + count_by (at_slot session k) ws

-- how often a waiter counts
abbrev ones : ℕ → ℕ → W → ℕ
ones session zero w = 0
ones session (suc k) w = ones session k w + one (at_slot session k w)

total_cons : (session k : ℕ) (w : W) (ws : List W) → total session k (w ∷ ws) ≡ ones session k w + total session k ws
total_cons session zero w ws = refl
total_cons session (suc k) w ws =
    omega (arith, total_cons session k w ws, sum_by-cons (λ (y : W). one (at_slot session k y)) w ws)

test : (a b : ℕ) → a ≡ b → (a == b) ≡ true
test a b is = grind (arith, nat_tests)

no_test : (a b : ℕ) → (a ≡ b → ⊥) → (a == b) ≡ false
no_test a b not = by (a == b) refl
  where
    equal : (a b : ℕ) → (a == b) ≡ true → a ≡ b
    equal a b is = grind (arith, nat_tests)

    by : (c : Bool) → (a == b) ≡ c → (a == b) ≡ false
    by true is = absurd (not (equal a b is))
    by false is = is

-- it counts once, at its own slot
ones_under : (session k : ℕ) (w : W) → k ≤ w.0.slot → ones session k w ≡ 0
ones_under session zero w le = refl
ones_under session (suc k) w le =
    let rest = ones_under session k w (omega (arith, le)) in
    let other : (k == w.0.slot) ≡ false = no_test k w.0.slot (λ e. omega (arith, e, le)) in
    omega (arith, rest, ap one (and_false (session == w.0.session) (k == w.0.slot) other))
  where
    and_false : (a b : Bool) → b ≡ false → (a && b) ≡ false
    and_false true b is = is
    and_false false b is = refl

ones_other : (session k : ℕ) (w : W) → (session == w.0.session) ≡ false → ones session k w ≡ 0
ones_other session zero w other = refl
ones_other session (suc k) w other =
    omega (arith, ones_other session k w other, ap (λ a. one (a && k == w.0.slot)) other)

ones_over : (session k : ℕ) (w : W) → (session == w.0.session) ≡ true → w.0.slot < k → ones session k w ≡ 1
ones_over session zero w mine less = absurd (omega (arith, less))
ones_over session (suc k) w mine less = by (λ low. ones_over session k w mine low) (cases_lt w.0.slot k)
  where
    by : (w.0.slot < k → ones session k w ≡ 1) → (w.0.slot < k) ⊎ (k ≤ w.0.slot) → ones session (suc k) w ≡ 1
    by rest (inl low) =
        let other : (k == w.0.slot) ≡ false = no_test k w.0.slot (λ e. omega (arith, e, low)) in
        omega (arith, rest low, ap (λ a. one (a && k == w.0.slot)) mine, ap one other)
    by rest (inr high) =
        let here : (k == w.0.slot) ≡ true = test k w.0.slot (omega (arith, high, less)) in
        omega (arith, ones_under session k w high, ap (λ a. one (a && k == w.0.slot)) mine, ap one here)

ones_all : (session k : ℕ) (w : W) → IsSlotted w → (w.0.session ≡ session → w.0.slot < k) → ones session k w ≡ one (is_of session w.1.sub)
ones_all session k w slotted under =
    by (session == w.0.session) refl ∙ ap (λ n. one (session == n)) slotted.0
  where
    equal : (a b : ℕ) → (a == b) ≡ true → b ≡ a
    equal a b is = grind (arith, nat_tests)

    by : (b : Bool) → (session == w.0.session) ≡ b → ones session k w ≡ one (session == w.0.session)
    by true is = ones_over session k w is (under (equal session w.0.session is)) ∙ sym (ap one is)
    by false is = ones_other session k w is ∙ sym (ap one is)

-- those of a session are all counted, if its slots are under that one
pub total_under : (session k : ℕ) (ws : List W) → AllByRecursion IsSlotted ws → ((i : ℕ) (w : W) → slice_get ws i ≡ Some w → w.0.session ≡ session → w.0.slot < k) → total session k ws ≡ count_by (is_of session) (subs_of ws)
total_under session k [] all under = none k
  where
    none : (n : ℕ) → total session n [] ≡ 0
    none zero = refl
    none (suc n) = omega (arith, none n)
total_under session k (w ∷ ws) all under =
    omega (arith, total_cons session k w ws, ones_all session k w all.0 (under 0 w refl), total_under session k ws all.1 (λ i v is. under (suc i) v is), sum_by-cons (λ (y : Subscription). one (is_of session y)) w.1.sub (subs_of ws))

pub total_all : (session : ℕ) (ws : List W) → AllByRecursion IsSlotted ws → total session 16 ws ≡ count_by (is_of session) (subs_of ws)
total_all session ws all = total_under session 16 ws all (λ i w is mine. (all_at IsSlotted ws i w is all).1)

-- one or none stands at a key
pub none_at : (key : Key) (ws : List W) → IsFree ws key → count_by (λ (w : W). key_eq key w.0) ws ≡ 0
none_at key [] free = refl
none_at key (w ∷ ws) free =
    omega (arith, none_at key ws (λ i v is. free (suc i) v is), ap one (free 0 w refl), sum_by-cons (λ (y : W). one (key_eq key y.0)) w ws)

pub one_at : (key : Key) (ws : List W) (at : ℕ) (w : W) → slice_get ws at ≡ Some w → key_eq key w.0 ≡ true → ((j : ℕ) (v : W) → slice_get ws j ≡ Some v → key_eq key v.0 ≡ true → j ≡ at) → count_by (λ (v : W). key_eq key v.0) ws ≡ 1
one_at key [] at w is here only = absurd (none-some w is)
one_at key (v ∷ ws) zero w is here only =
    let free = none_at key ws (λ i u there. unless (key_eq key u.0) (λ same. omega (arith, only (suc i) u there same))) in
    omega (arith, free, ap one (ap (λ (x : W). key_eq key x.0) (same_Some v w is) ∙ here), sum_by-cons (λ (y : W). one (key_eq key y.0)) v ws)
  where
    unless : (b : Bool) → (b ≡ true → ⊥) → b ≡ false
    unless true not = absurd (not refl)
    unless false not = refl
one_at key (v ∷ ws) (suc at) w is here only =
    let rest = one_at key ws at w is here (λ j u there same. less j at (only (suc j) u there same)) in
    omega (arith, rest, ap one (unless (key_eq key v.0) (λ same. omega (arith, only 0 v refl same))), sum_by-cons (λ (y : W). one (key_eq key y.0)) v ws)
  where
    unless : (b : Bool) → (b ≡ true → ⊥) → b ≡ false
    unless true not = absurd (not refl)
    unless false not = refl

    less : (i j : ℕ) → suc i ≡ suc j → i ≡ j
    less i j e = omega (arith, e)

-- The place of the first one of the session that is sought, from a ticket on, among those at slots under that one.
pub record Soonest (ws : List W) (session from : ℕ) (sought : Sought) (k : ℕ) (first : Option Place) : Type 0 where
  pub seen : (p : Place) → first ≡ Some p → IsSeenAt sought ws p.key from p
  pub own : (p : Place) → first ≡ Some p → p.key.session ≡ session
  pub least : (i : ℕ) (w : W) → slice_get ws i ≡ Some w → w.0.session ≡ session → w.0.slot < k → from ≤ w.1.ticket → is_sought sought w.1.sub ≡ true → (p : Place) × (first ≡ Some p) × (p.ticket ≤ w.1.ticket)

pub total_more : (session k : ℕ) (ws : List W) → total session (k + 1) ws ≡ total session k ws + count_by (at_slot session k) ws
total_more session k ws =
    let more : k + 1 ≡ suc k = omega arith in
    ap (λ n. total session n ws) more

pub most_one : (key : Key) (ws : List W) → ((i j : ℕ) (w v : W) → slice_get ws i ≡ Some w → slice_get ws j ≡ Some v → key_eq key w.0 ≡ true → key_eq key v.0 ≡ true → i ≡ j) → count_by (λ (v : W). key_eq key v.0) ws ≤ 1
most_one key [] only = omega arith
most_one key (v ∷ ws) only = by (key_eq key v.0) refl (most_one key ws (λ i j w u at_i at_j a b. less i j (only (suc i) (suc j) w u at_i at_j a b)))
  where
    less : (i j : ℕ) → suc i ≡ suc j → i ≡ j
    less i j e = omega (arith, e)

    by : (b : Bool) → key_eq key v.0 ≡ b → count_by (λ (u : W). key_eq key u.0) ws ≤ 1 → count_by (λ (u : W). key_eq key u.0) (v ∷ ws) ≤ 1
    by true here rest =
        omega (arith, ap one here, one_at key (v ∷ ws) 0 v refl here (λ j u there same. only j 0 u v there refl same here))
    by false other rest =
        omega (arith, rest, ap one other, sum_by-cons (λ (y : W). one (key_eq key y.0)) v ws)

module _ (o : Waiting) (order : IsOrdered o) where
  -- a session has at most 16
  total_few : (session k : ℕ) → total session k o.all ≤ k
  total_few session zero = omega arith
  total_few session (suc k) =
      omega (arith, total_few session k, most_one (key_of session k) o.all (λ i j w v at_i at_j a b. order.apart i j w v at_i at_j (ap (λ (x : Key). key_eq w.0 x) (sym (key_same (key_of session k) v.0 b) ∙ key_same (key_of session k) w.0 a) ∙ key_itself w.0)))

  pub few_of : AllByRecursion IsSlotted o.all → (session : ℕ) → count_by (is_of session) (subs_of o.all) ≤ 16
  few_of slots session = omega (arith, total_few session 16, total_all session o.all slots)

  pub one_there : (key : Key) (at : ℕ) (s : Waiter) → slice_get o.all at ≡ Some (key, s) → count_by (λ (v : W). key_eq key v.0) o.all ≡ 1
  one_there key at s is =
      one_at key o.all at (key, s) is (key_itself key) (λ j v there same. sym (order.apart at j (key, s) v is there same))

  -- at a key stands one
  pub same_there : (key : Key) (i j : ℕ) (s t : Waiter) → slice_get o.all i ≡ Some (key, s) → slice_get o.all j ≡ Some (key, t) → s ≡ t
  same_there key i j s t at_i at_j =
      let place = order.apart i j (key, s) (key, t) at_i at_j (key_itself key) in
      ap (λ (w : W). w.1) (same_Some (key, s) (key, t) (sym at_i ∙ ap (slice_get o.all) place ∙ at_j))

  -- what is seen at one key more
  module _ (session from : ℕ) (sought : Sought) where
    at_own_key : (key : Key) (p : Place) → IsSeenAt sought o.all key from p → IsSeenAt sought o.all p.key from p
    at_own_key key p seen = subst (λ k. IsSeenAt sought o.all k from p) (sym (ap (λ (q : Place). q.key) seen.is)) seen

    sooner_is : (a b : Option Place) (p : Place) → sooner a b ≡ Some p → (a ≡ Some p) ⊎ (b ≡ Some p)
    sooner_is None b p is = inr is
    sooner_is (Some x) None p is = inl is
    sooner_is (Some x) (Some y) p is = by (nat_le x.ticket y.ticket) is
      where
        by : (c : Bool) → cond c (Some x) (Some y) ≡ Some p → (Some x ≡ Some p) ⊎ (Some y ≡ Some p)
        by true is = inl is
        by false is = inr is

    le_test : (a b : ℕ) (c : Bool) → nat_le a b ≡ c → (a ≤ b) ⊎ (b ≤ a)
    le_test a b true is = inl (leb-true a b is)
    le_test a b false is = elim (cases_lt b a) [ inl less ↦ inr (omega (arith, less)) | inr le ↦ inl le ]

    sooner_left : (a b : Option Place) (p : Place) → a ≡ Some p → (q : Place) × (sooner a b ≡ Some q) × (q.ticket ≤ p.ticket)
    sooner_left None b p is = absurd (none-some p is)
    sooner_left (Some x) None p is = (p, is, omega arith)
    sooner_left (Some x) (Some y) p is = by (nat_le x.ticket y.ticket) refl
      where
        same : x ≡ p
        same = same_Some x p is

        over : (a b : ℕ) → nat_le a b ≡ false → b ≤ a
        over a b not = grind (arith, nat_tests)

        by : (c : Bool) → nat_le x.ticket y.ticket ≡ c → (q : Place) × (cond c (Some x) (Some y) ≡ Some q) × (q.ticket ≤ p.ticket)
        by true is_le = (x, refl, omega (arith, ap (λ (r : Place). r.ticket) same))
        by false not = (y, refl, omega (arith, over x.ticket y.ticket not, ap (λ (r : Place). r.ticket) same))

    sooner_right : (a b : Option Place) (p : Place) → b ≡ Some p → (q : Place) × (sooner a b ≡ Some q) × (q.ticket ≤ p.ticket)
    sooner_right None b p is = (p, is, omega arith)
    sooner_right (Some x) None p is = absurd (none-some p is)
    sooner_right (Some x) (Some y) p is = by (nat_le x.ticket y.ticket) refl
      where
        same : y ≡ p
        same = same_Some y p is

        by : (c : Bool) → nat_le x.ticket y.ticket ≡ c → (q : Place) × (cond c (Some x) (Some y) ≡ Some q) × (q.ticket ≤ p.ticket)
        by true le = (x, refl, omega (arith, leb-true x.ticket y.ticket le, ap (λ (r : Place). r.ticket) same))
        by false not = (y, refl, omega (arith, ap (λ (r : Place). r.ticket) same))

    pub soonest_begin : Soonest o.all session from sought 0 None
    soonest_begin = record {
      seen = λ p is. absurd (none-some p is);
      own = λ p is. absurd (none-some p is);
      least = λ i w is mine less after passes. absurd (omega (arith, less));
    }

    pub soonest_more : (k : ℕ) (first seen : Option Place) → Soonest o.all session from sought k first → IsSeen sought o.all (key_of session k) from seen → Soonest o.all session from sought (k + 1) (sooner first seen)
    soonest_more k first seen soonest here = record {
      seen = λ p is. elim (sooner_is first seen p is) [ inl old ↦ soonest.seen p old | inr new ↦ at_own_key (key_of session k) p (its seen here p new) ];
      own = λ p is. elim (sooner_is first seen p is) [ inl old ↦ soonest.own p old | inr new ↦ ap (λ (q : Place). q.key.session) (its seen here p new).is ];
      least = λ i w is mine less after passes. by i w is mine after passes (cases_lt w.0.slot k) less;
    }
      where
        its : (seen : Option Place) → IsSeen sought o.all (key_of session k) from seen → (p : Place) → seen ≡ Some p → IsSeenAt sought o.all (key_of session k) from p
        its None here p is = absurd (none-some p is)
        its (Some q) here p is = subst (IsSeenAt sought o.all (key_of session k) from) (same_Some q p is) here

        at_it : (i : ℕ) (w : W) → slice_get o.all i ≡ Some w → key_of session k ≡ w.0 → from ≤ w.1.ticket → is_sought sought w.1.sub ≡ true → (seen : Option Place) → IsSeen sought o.all (key_of session k) from seen → (p : Place) × (seen ≡ Some p) × (p.ticket ≤ w.1.ticket)
        at_it i w is key after passes None none =
            absurd (clash (is_sought sought w.1.sub) passes (none i w.1 (is ∙ ap (λ (x : Key). Some (x, w.1)) (sym key)) after))
        at_it i w is key after passes (Some p) there =
            let place = order.apart i there.at w (key_of session k, there.waiter) is there.there (ap (λ (x : Key). key_eq w.0 x) key ∙ key_itself w.0) in
            let same : w ≡ (key_of session k, there.waiter) = same_Some w (key_of session k, there.waiter) (sym is ∙ ap (slice_get o.all) place ∙ there.there) in
            (p, refl, omega (arith, ap (λ (q : Place). q.ticket) there.is, ap ticket_of same))

        by : (i : ℕ) (w : W) → slice_get o.all i ≡ Some w → w.0.session ≡ session → from ≤ w.1.ticket → is_sought sought w.1.sub ≡ true → (w.0.slot < k) ⊎ (k ≤ w.0.slot) → w.0.slot < k + 1 → (p : Place) × (sooner first seen ≡ Some p) × (p.ticket ≤ w.1.ticket)
        by i w is mine after passes (inl low) less =
            let old = soonest.least i w is mine low after passes in
            let best = sooner_left first seen old.0 old.1 in
            (best.0, best.1, omega (arith, best.2, old.2))
        by i w is mine after passes (inr high) less =
            let slot : w.0.slot ≡ k = omega (arith, high, less) in
            let key : key_of session k ≡ w.0 = sym (ap (λ n. record w.0 { session = n }) mine ∙ ap (λ n. key_of session n) slot) in
            let new = at_it i w is key after passes seen here in
            let best = sooner_right first seen new.0 new.1 in
            (best.0, best.1, omega (arith, best.2, new.2))

    pub soonest_end : AllByRecursion IsSlotted o.all → (k : ℕ) → ((i : ℕ) (w : W) → slice_get o.all i ≡ Some w → w.0.session ≡ session → w.0.slot < k) → (first : Option Place) → Soonest o.all session from sought k first → IsNext (λ (s : Waiter). is_sought_of session sought s.sub) o.all from first
    soonest_end slots k under None soonest = λ i w is after. unless (is_sought_of session sought w.1.sub) (λ passes.
        let both = and_parts (is_of session w.1.sub) (is_sought sought w.1.sub) passes in
        let slot = all_at IsSlotted o.all i w is slots in
        let mine = slot.0 ∙ sym (equal session w.1.sub.session both.0) in
        let p = soonest.least i w is mine (under i w is mine) after both.1 in
        none-some p.0 p.1)
      where
        unless : (b : Bool) → (b ≡ true → ⊥) → b ≡ false
        unless true not = absurd (not refl)
        unless false not = refl

        equal : (a b : ℕ) → (a == b) ≡ true → a ≡ b
        equal a b is = grind (arith, nat_tests)
    soonest_end slots k under (Some p) soonest =
        let s = soonest.seen p refl in
        let ticket : s.waiter.ticket ≡ p.ticket = sym (ap (λ (q : Place). q.ticket) s.is) in
        let slot = all_at IsSlotted o.all s.at (p.key, s.waiter) s.there slots in
        let mine : (session == s.waiter.sub.session) ≡ true = test session s.waiter.sub.session (sym (soonest.own p refl) ∙ slot.0) in
        record {
          at = s.at;
          waiter = s.waiter;
          there = s.there;
          ticket = ticket;
          after = subst (λ t. from ≤ t) ticket s.after;
          passing = ap (λ b. b && is_sought sought s.waiter.sub) mine ∙ s.passing;
          before = λ i w is after less. unless (is_sought_of session sought w.1.sub) (λ passes.
              let both = and_parts (is_of session w.1.sub) (is_sought sought w.1.sub) passes in
              let its = all_at IsSlotted o.all i w is slots in
              let own = its.0 ∙ sym (equal session w.1.sub.session both.0) in
              let q = soonest.least i w is own (under i w is own) after both.1 in
              let low : ticket_of w < s.waiter.ticket = rising_at ticket_of o.all i s.at w (p.key, s.waiter) order.rising is s.there less in
              omega (arith, low, ticket, q.2, ap (λ (x : Place). x.ticket) (same_Some p q.0 q.1)));
        }
      where
        unless : (b : Bool) → (b ≡ true → ⊥) → b ≡ false
        unless true not = absurd (not refl)
        unless false not = refl

        equal : (a b : ℕ) → (a == b) ≡ true → a ≡ b
        equal a b is = grind (arith, nat_tests)

-- a subscription is one of its own session
pub of_itself : (sub : Subscription) → is_of sub.session sub ≡ true
of_itself sub = test sub.session sub.session refl
