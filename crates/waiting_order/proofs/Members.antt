use Rattle.std.proofs.Common.{◌≡◌, ◌==◌, ◌<◌, ◌≤◌, ◌+◌, ◌++◌, List, [], ◌∷◌, ℕ, suc, zero, Bool, true, false, cond, count_by, not, Option, Some, None, inl, inr, length, refl, sym, ap, subst, ◌∙◌, arith, remove, slice_get, if◌then◌else◌}
use Rattle.std.specs.List.{AllByRecursion}
use Rattle.std.proofs.lemmas.Bool.{cases_lt}
use Rattle.std.proofs.lemmas.Bool.Decides.{nat_tests}
use Rattle.std.proofs.lemmas.List.Sums.{sum_by-cons}
use Rattle.std.proofs.lemmas.Option.{none-some, same_Some}
use Rattle.broker_state.proofs.Weights.{all_at}
use Rattle.broker_state.specs.declared.subscription.Subscription.{Subscription}
use Rattle.broker_state.specs.Lists.{changed}
use Rattle.waiting_order.specs.declared.groups.Place.{Place}
use Rattle.waiting_order.specs.declared.waiters.Waiter.{Waiter}
use Rattle.waiting_order.specs.Directories.{IsNext, NoneFrom, members, place_of}
use Rattle.waiting_order.specs.Tickets.{IsIndexOf, IsRising, without}
use Rattle.waiting_order.specs.Waiting.{subs_of}
use Rattle.waiting_order.proofs.Rising.{rising_at, rising_from, ticket, without_behind, without_first}
use Rattle.waiting_order.proofs.Timed.{W, ticket_of}

-- there are as many members as subscriptions that pass
pub count_members : (p : Subscription → Bool) (ws : List W) → length (members (λ (s : Waiter). p s.sub) ws) ≡ count_by p (subs_of ws)
count_members p [] = refl
count_members p (w ∷ ws) =
    let rest = count_members p ws in
    let counted = sum_by-cons (λ (y : Subscription). cond (p y) 1 0) w.1.sub (subs_of ws) in
    let left = members (λ (s : Waiter). p s.sub) ws in
    (elim (p w.1.sub) as (λ b. length (cond b (place_of w ∷ left) left) ≡ cond b 1 0 + count_by p (subs_of ws)) [ true ↦ omega (arith, rest) | false ↦ omega (arith, rest) ]) ∙ sym counted

-- those who pass are the same for both
pub members_alike : (p q : Waiter → Bool) (ws : List W) → AllByRecursion (λ w. p w.1 ≡ q w.1) ws → members p ws ≡ members q ws
members_alike p q [] all = refl
members_alike p q (w ∷ ws) all =
    ap (λ b. cond b (place_of w ∷ members p ws) (members p ws)) all.0 ∙ ap (λ l. cond (q w.1) (place_of w ∷ l) l) (members_alike p q ws all.1)

-- nobody passes
pub members_none : (p : Waiter → Bool) (ws : List W) → AllByRecursion (λ w. p w.1 ≡ false) ws → members p ws ≡ []
members_none p [] all = refl
members_none p (w ∷ ws) all = ap (λ b. cond b (place_of w ∷ members p ws) (members p ws)) all.0 ∙ members_none p ws all.1

pub none_members : (p : Waiter → Bool) (ws : List W) → members p ws ≡ [] → AllByRecursion (λ w. p w.1 ≡ false) ws
none_members p [] none = tt
none_members p (w ∷ ws) none = by (p w.1) refl none (λ rest. none_members p ws rest)
  where
    by : (b : Bool) → p w.1 ≡ b → cond b (place_of w ∷ members p ws) (members p ws) ≡ [] → (members p ws ≡ [] → AllByRecursion (λ v. p v.1 ≡ false) ws) → AllByRecursion (λ v. p v.1 ≡ false) (w ∷ ws)
    by true is some rest = absurd cc
    by false is none rest = (is, rest none)

-- a waiter that passes is at that place
pub record IsMember (p : Waiter → Bool) (ws : List W) (place : Place) : Type 0 where
  pub at : ℕ
  pub entry : W
  pub there : slice_get ws at ≡ Some entry
  pub is : place_of entry ≡ place
  pub passes : p entry.1 ≡ true

module _ (p : Waiter → Bool) where
  pub among_at : (ws : List W) (i : ℕ) (w : W) → slice_get ws i ≡ Some w → p w.1 ≡ true → (j : ℕ) × (slice_get (members p ws) j ≡ Some (place_of w))
  among_at [] i w there passes = absurd (none-some w there)
  among_at (v ∷ ws) zero w there passes =
      let same = same_Some v w there in
      rw (ap (λ (x : W). p x.1) same ∙ passes) (0, ap (λ (x : W). Some (place_of x)) same)
  among_at (v ∷ ws) (suc i) w there passes =
      let rest = among_at ws i w there passes in
      elim (p v.1) as (λ b. (j : ℕ) × (slice_get (cond b (place_of v ∷ members p ws) (members p ws)) j ≡ Some (place_of w))) [ true ↦ (suc rest.0, rest.1) | false ↦ rest ]

  later : (v : W) (ws : List W) (place : Place) → IsMember p ws place → IsMember p (v ∷ ws) place
  later v ws place m =
      record { at = suc m.at; entry = m.entry; there = m.there; is = m.is; passes = m.passes }

  member_by : (v : W) (ws : List W) (place : Place) → ((k : ℕ) → slice_get (members p ws) k ≡ Some place → IsMember p ws place) → (b : Bool) → p v.1 ≡ b → (k : ℕ) → slice_get (cond b (place_of v ∷ members p ws) (members p ws)) k ≡ Some place → IsMember p (v ∷ ws) place
  member_by v ws place rest true passes zero is =
      record { at = 0; entry = v; there = refl; is = same_Some (place_of v) place is; passes = passes }
  member_by v ws place rest true passes (suc k) is = later v ws place (rest k is)
  member_by v ws place rest false passes k is = later v ws place (rest k is)

  pub member_at : (ws : List W) (place : Place) (k : ℕ) → slice_get (members p ws) k ≡ Some place → IsMember p ws place
  member_at [] place k is = absurd (none-some place is)
  member_at (v ∷ ws) place k is = member_by v ws place (λ j there. member_at ws place j there) (p v.1) refl k is

  -- what holds of all tickets holds of the members'
  pub all_members : (P : ℕ → Type 0) (ws : List W) → AllByRecursion (λ w. P (ticket_of w)) ws → AllByRecursion (λ q. P (ticket q)) (members p ws)
  all_members P [] all = tt
  all_members P (w ∷ ws) all =
      let rest = all_members P ws all.1 in
      elim (p w.1) as (λ b. AllByRecursion (λ q. P (ticket q)) (cond b (place_of w ∷ members p ws) (members p ws))) [ true ↦ (all.0, rest) | false ↦ rest ]

  pub rising_members : (ws : List W) → IsRising ticket_of ws → IsRising ticket (members p ws)
  rising_members [] rises = tt
  rising_members (w ∷ ws) rises =
      let rest = rising_members ws rises.1 in
      elim (p w.1) as (λ b. IsRising ticket (cond b (place_of w ∷ members p ws) (members p ws))) [ true ↦ (all_members (λ u. ticket_of w < u) ws rises.0, rest) | false ↦ rest ]

  -- one more at the end is a member where it passes
  pub members_pushed : (ws : List W) (w : W) → members p (ws ++ w ∷ []) ≡ members p ws ++ (if p w.1 then place_of w ∷ [] else [])
  members_pushed [] w = refl
  members_pushed (v ∷ ws) w =
      let rest = members_pushed ws w in
      elim (p v.1) as (λ b. cond b (place_of v ∷ members p (ws ++ w ∷ [])) (members p (ws ++ w ∷ [])) ≡ cond b (place_of v ∷ members p ws) (members p ws) ++ (if p w.1 then place_of w ∷ [] else [])) [ true ↦ ap (λ l. place_of v ∷ l) rest | false ↦ rest ]

  -- one that doesn't pass leaves the members as they are, and another one leaves them by its ticket
  pub members_left : (ws : List W) (at : ℕ) (w : W) → slice_get ws at ≡ Some w → p w.1 ≡ false → members p (remove ws at) ≡ members p ws
  members_left [] at w is fails = absurd (none-some w is)
  members_left (v ∷ ws) zero w is fails =
      rw (ap (λ (x : W). p x.1) (same_Some v w is) ∙ fails) refl
  members_left (v ∷ ws) (suc at) w is fails =
      ap (λ l. cond (p v.1) (place_of v ∷ l) l) (members_left ws at w is fails)

  pub members_without : (ws : List W) (at t : ℕ) (w : W) → IsRising ticket_of ws → slice_get ws at ≡ Some w → w.1.ticket ≡ t → p w.1 ≡ true → members p (remove ws at) ≡ without t (members p ws)
  members_without [] at t w rising is same passes = absurd (none-some w is)
  members_without (v ∷ ws) zero t w rising is same passes =
      let it = same_Some v w is in
      let ticket_is : v.1.ticket ≡ t = ap ticket_of it ∙ same in
      rw (ap (λ (x : W). p x.1) it ∙ passes) (sym (without_first t (place_of v) (members p ws) ticket_is ∙ none_of t (members p ws) (subst (λ u. AllByRecursion (λ q. u < ticket q) (members p ws)) ticket_is (all_members (λ u. ticket_of v < u) ws rising.0))))
    where
      none_of : (t : ℕ) (ps : List Place) → AllByRecursion (λ q. t < ticket q) ps → without t ps ≡ ps
      none_of t [] over = refl
      none_of t (q ∷ ps) over =
          ap (λ b. cond (not b) (q ∷ without t ps) (without t ps)) (over_it t (ticket q) over.0) ∙ ap (λ l. q ∷ l) (none_of t ps over.1)
        where
          over_it : (t u : ℕ) → t < u → (u == t) ≡ false
          over_it t u more = grind (arith, nat_tests)
  members_without (v ∷ ws) (suc at) t w rising is same passes =
      let rest = members_without ws at t w rising.1 is same passes in
      let less : v.1.ticket < t = subst (λ u. v.1.ticket < u) same (all_at (λ x. ticket_of v < ticket_of x) ws at w is rising.0) in
      elim (p v.1) as (λ b. cond b (place_of v ∷ members p (remove ws at)) (members p (remove ws at)) ≡ without t (cond b (place_of v ∷ members p ws) (members p ws))) [
        | true ↦ ap (λ l. place_of v ∷ l) rest ∙ sym (without_behind t (place_of v) (members p ws) less)
        | false ↦ rest
      ]

  -- a waiter that is changed and passes as before
  pub members_changed : (f : W → W) (ws : List W) (at : ℕ) (w : W) → slice_get ws at ≡ Some w → place_of (f w) ≡ place_of w → p (f w).1 ≡ p w.1 → members p (changed at f ws) ≡ members p ws
  members_changed f [] at w is place passes = refl
  members_changed f (v ∷ ws) zero w is place passes =
      let it = same_Some v w is in
      let same_place : place_of (f v) ≡ place_of v = ap (λ (x : W). place_of (f x)) it ∙ place ∙ sym (ap (λ (x : W). place_of x) it) in
      let same_pass : p (f v).1 ≡ p v.1 = ap (λ (x : W). p (f x).1) it ∙ passes ∙ sym (ap (λ (x : W). p x.1) it) in
      ap (λ b. cond b (place_of (f v) ∷ members p ws) (members p ws)) same_pass ∙ ap (λ q. cond (p v.1) (q ∷ members p ws) (members p ws)) same_place
  members_changed f (v ∷ ws) (suc at) w is place passes =
      ap (λ l. cond (p v.1) (place_of v ∷ l) l) (members_changed f ws at w is place passes)

  pub next_of_none : (ws : List W) (from : ℕ) → members p ws ≡ [] → NoneFrom p ws from
  next_of_none ws from none i w there after = by (p w.1) refl
    where
      by : (b : Bool) → p w.1 ≡ b → p w.1 ≡ false
      by true is =
          let m = among_at ws i w there is in
          absurd (none-some (place_of w) (ap (λ l. slice_get l m.0) (sym none) ∙ m.1))
      by false is = is

  -- the first member from a ticket on is the next one
  module _ (ws : List W) (rising : IsRising ticket_of ws) (from at : ℕ) (index : IsIndexOf (members p ws) from at) where
    fails : (w : W) → (p w.1 ≡ true → ⊥) → p w.1 ≡ false
    fails w none = by (p w.1) refl
      where
        by : (b : Bool) → p w.1 ≡ b → p w.1 ≡ false
        by true is = absurd (none is)
        by false is = is

    pub next_in_members : (r : Option Place) → r ≡ slice_get (members p ws) at → IsNext p ws from r
    next_in_members None is = λ i w there after. fails w (λ passes.
        let m = among_at ws i w there passes in
        elim (cases_lt m.0 at) [
          | inl less ↦ omega (arith, after, index.under m.0 (place_of w) m.1 less)
          | inr more ↦ past at (members p ws) m.0 (place_of w) (sym is) m.1 more
        ])
      where
        past : (at : ℕ) (ps : List Place) (j : ℕ) (q : Place) → slice_get ps at ≡ None → slice_get ps j ≡ Some q → at ≤ j → ⊥
        past at [] j q none some more = none-some q some
        past zero (x ∷ ps) j q none some more = none-some x (sym none)
        past (suc at) (x ∷ ps) zero q none some more = omega (arith, more)
        past (suc at) (x ∷ ps) (suc j) q none some more = past at ps j q none some (omega (arith, more))
    next_in_members (Some q) is =
        let m = member_at ws q at (sym is) in
        let ticket_is : m.entry.1.ticket ≡ q.ticket = ap ticket m.is in
        record {
          at = m.at;
          waiter = m.entry.1;
          there = m.there ∙ ap (λ (x : Place). Some (x.key, m.entry.1)) m.is;
          ticket = ticket_is;
          after = index.over at q (sym is) (omega arith);
          passing = m.passes;
          before = λ i w there after less. fails w (λ passes.
              let n = among_at ws i w there passes in
              let low : ticket_of w < ticket_of m.entry = rising_at ticket_of ws i m.at w m.entry rising there m.there less in
              elim (cases_lt n.0 at) [
                | inl under ↦ omega (arith, after, index.under n.0 (place_of w) n.1 under)
                | inr over ↦ omega (arith, low, ticket_is, rising_from ticket (members p ws) at n.0 q (place_of w) (rising_members ws rising) (sym is) n.1 over)
              ]);
        }
