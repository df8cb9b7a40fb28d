use Rattle.std.proofs.Common.{◌≡◌, ◌==◌, ◌<◌, ◌≤◌, ◌+◌, ◌-◌, ◌^◌, ◌&&◌, ◌||◌, ◌⊎◌, ◌++◌, List, [], ◌∷◌, ℕ, suc, Bool, true, false, Some, inl, inr, cond, nat_le, nat_lt, refl, remove, slice_get, sym, ap, subst, ◌∙◌, arith}
use Rattle.std.specs.BinaryHeap.{IsUpperBound}
use Rattle.std.specs.List.{AllByRecursion, list_any}
use Rattle.std.specs.List.Sorted.{IsPermutation}
use Rattle.std.specs.Ordering.{is_lt}
use Rattle.std.specs.declared.cmp.Ordering.TheVariants.{Equal, Greater, Less}
use Rattle.std.proofs.lemmas.Bool.{and_parts, cases_lt}
use Rattle.std.proofs.lemmas.Bool.Decides.{nat_tests}
use Rattle.std.proofs.lemmas.List.Elements.{All-from_recursion, recursion_from_All}
use Rattle.std.proofs.lemmas.List.Sorted.{All-permutation, IsPermutation-sym, sum_by-IsPermutation}
use Rattle.std.proofs.lemmas.List.Sums.{sum_by-cons}
use Rattle.std.proofs.lemmas.Option.{same_Some, slice_get_within}
use Rattle.line_core.specs.declared.message.Message.{Message}
use Rattle.broker_state.specs.declared.subscription.Subscription.{Subscription}
use Rattle.broker_state.specs.HandOut.{can_take}
use Rattle.broker_state.specs.Lists.{is_none}
use Rattle.broker_state.specs.Waiting.{left_shared, line_for}
use Rattle.broker_state.proofs.Weights.{all_at}
use Rattle.waiting_order.specs.declared.groups.Place.{Place}
use Rattle.waiting_order.specs.declared.waiters.Waiter.{Waiter}
use Rattle.waiting_order.specs.Waiting.{IsOrdered, subs_of}
use Rattle.waiting_order.proofs.Rising.{rising_at}
use Rattle.broker_tables.specs.declared.cursors.Cursor.{Cursor}
use Rattle.broker_tables.specs.declared.due.Due.{Due}
use Rattle.broker_tables.specs.declared.due.Scope.{Scope}
use Rattle.broker_tables.specs.declared.due.Scope.TheVariants.{Session, Group}
use Rattle.broker_tables.specs.declared.stock.Stock.{Stock}
use Rattle.broker_tables.specs.CursorOrder.{cursor_cmp}
use Rattle.broker_tables.specs.Cursors.{AreAwaited, AwaitAllDue, IsReady, NoneReady, is_ahead, is_awaited, tickets_left}
use Rattle.broker_tables.specs.Dues.{AreDue, is_due}
use Rattle.broker_tables.specs.Scopes.{IdleUntil, is_within}
use Rattle.broker_tables.specs.Stocks.{stocked}
use Rattle.broker_tables.proofs.Dues.{all_with, all_without, can_parts, clash, could_before, each_weaker, or_left, or_right, unless}
use Rattle.broker_tables.proofs.Nexts.{none_taken}
use Rattle.broker_tables.proofs.Waiters.{W, all_subs, length_subs, sub_at, waiter_of}

-- who has the same session and the same group is in the same scopes
pub same_scopes : (a b : Waiter) → a.sub.session ≡ b.sub.session → a.group ≡ b.group → (scope : Scope) → is_within scope a ≡ is_within scope b
same_scopes a b session group (Session q) = ap (λ n. q == n) session
same_scopes a b session group (Group g) = ap (λ n. n == g) group

-- Who is awaited is so at a later ticket.
ahead_later : (a b : Waiter) → a.ticket ≤ b.ticket → ((scope : Scope) → is_within scope b ≡ is_within scope a) → (c : Cursor) → is_ahead a c ≡ true → is_ahead b c ≡ true
ahead_later a b le same c is =
    let both = and_parts (nat_le c.from a.ticket) (is_within c.scope a) is in
    let before = both.0 in
    let so : nat_le c.from b.ticket ≡ true = grind (arith, nat_tests) in
    rw (so, same c.scope, both.1) refl

pub any_weaker : {X : Type 0} (p q : X → Bool) → ((x : X) → p x ≡ true → q x ≡ true) → (xs : List X) → list_any p xs ≡ true → list_any q xs ≡ true
any_weaker p q so [] is = absurd cc
any_weaker {X} p q so (x ∷ xs) is = by (p x) refl is (λ rest. any_weaker p q so xs rest)
  where
    by : (b : Bool) → p x ≡ b → (b || list_any p xs) ≡ true → (list_any p xs ≡ true → list_any q xs ≡ true) → (q x || list_any q xs) ≡ true
    by true passes is rest = or_left (q x) (list_any q xs) (so x passes)
    by false fails is rest = or_right (q x) (list_any q xs) (rest is)

pub awaited_later : (cursors : List Cursor) (a b : Waiter) → a.ticket ≤ b.ticket → ((scope : Scope) → is_within scope b ≡ is_within scope a) → is_awaited cursors a ≡ true → is_awaited cursors b ≡ true
awaited_later cursors a b le same is = any_weaker (is_ahead a) (is_ahead b) (ahead_later a b le same) cursors is

-- None is awaited before all cursors.
pub none_awaited : (cursors : List Cursor) (bound : ℕ) (s : Waiter) → AllByRecursion (λ (c : Cursor). bound ≤ c.from) cursors → s.ticket < bound → is_awaited cursors s ≡ false
none_awaited [] bound s all less = refl
none_awaited (c ∷ cs) bound s all less =
    let over : bound ≤ c.from = all.0 in
    let fails : nat_le c.from s.ticket ≡ false = grind (arith, nat_tests) in
    rw fails (none_awaited cs bound s all.1 less)

-- A cursor alone had somebody ahead of it, who has a ticket under its new one.
abbrev pub IsPassed : Cursor → ℕ → Waiter → Type 0
IsPassed c ticket s = (c.from ≤ s.ticket) × (s.ticket < ticket) × (is_within c.scope s ≡ true)

-- Where a cursor moves on, who was awaited is so still, or it has passed him.
moved_on : (c : Cursor) (cs : List Cursor) (ticket : ℕ) (s : Waiter) → is_awaited (c ∷ cs) s ≡ true → (is_awaited (record c { from = ticket } ∷ cs) s ≡ true) ⊎ IsPassed c ticket s
moved_on c cs ticket s is = by (nat_le c.from s.ticket) refl (is_within c.scope s) refl (cases_lt s.ticket ticket) is
  where
    by : (a : Bool) → nat_le c.from s.ticket ≡ a → (u : Bool) → is_within c.scope s ≡ u → (s.ticket < ticket) ⊎ (ticket ≤ s.ticket) → ((a && u) || is_awaited cs s) ≡ true
        → (is_awaited (record c { from = ticket } ∷ cs) s ≡ true) ⊎ IsPassed c ticket s
    by true before true within (inl less) so =
        let le : c.from ≤ s.ticket = grind (arith, nat_tests) in
        inr (le, less, within)
    by true before true within (inr over) so =
        let yes : nat_le ticket s.ticket ≡ true = grind (arith, nat_tests) in
        inl (or_left (nat_le ticket s.ticket && is_within c.scope s) (is_awaited cs s) (rw (yes, within) refl))
    by true before false within o so = inl (or_right (is_ahead s (record c { from = ticket })) (is_awaited cs s) so)
    by false before u within o so = inl (or_right (is_ahead s (record c { from = ticket })) (is_awaited cs s) so)

-- Where a cursor goes, who was awaited is so still, or was ahead of it.
gone : (c : Cursor) (cs : List Cursor) (s : Waiter) → is_awaited (c ∷ cs) s ≡ true → (is_awaited cs s ≡ true) ⊎ ((c.from ≤ s.ticket) × (is_within c.scope s ≡ true))
gone c cs s is = by (nat_le c.from s.ticket) refl (is_within c.scope s) refl is
  where
    by : (a : Bool) → nat_le c.from s.ticket ≡ a → (u : Bool) → is_within c.scope s ≡ u → ((a && u) || is_awaited cs s) ≡ true → (is_awaited cs s ≡ true) ⊎ ((c.from ≤ s.ticket) × (is_within c.scope s ≡ true))
    by true before true within so =
        let le : c.from ≤ s.ticket = grind (arith, nat_tests) in
        inr (le, within)
    by true before false within so = inl so
    by false before u within so = inl so

none_of : {X : Type 0} (p : X → Bool) (xs : List X) → list_any p xs ≡ false → AllByRecursion (λ x. p x ≡ false) xs
none_of p [] is = tt
none_of {X} p (x ∷ xs) is = by (p x) refl is (λ rest. none_of p xs rest)
  where
    by : (b : Bool) → p x ≡ b → (b || list_any p xs) ≡ false → (list_any p xs ≡ false → AllByRecursion (λ y. p y ≡ false) xs) → (p x ≡ false) × AllByRecursion (λ y. p y ≡ false) xs
    by true passes none rest = absurd cc
    by false fails none rest = (fails, rest none)

any_none : {X : Type 0} (p : X → Bool) (xs : List X) → AllByRecursion (λ x. p x ≡ false) xs → list_any p xs ≡ false
any_none p [] all = refl
any_none p (x ∷ xs) all = rw (all.0) (any_none p xs all.1)

-- Who is awaited is so by the same cursors in another order.
awaited_alike : (cs ds : List Cursor) (s : Waiter) → IsPermutation cs ds → is_awaited cs s ≡ true → is_awaited ds s ≡ true
awaited_alike cs ds s same is = by (is_awaited ds s) refl
  where
    Fails : Cursor → Type 0
    Fails c = is_ahead s c ≡ false

    by : (b : Bool) → is_awaited ds s ≡ b → is_awaited ds s ≡ true
    by true still = still
    by false fails =
        let back = All-permutation Fails ds cs (IsPermutation-sym cs ds same) (All-from_recursion Fails ds (none_of (is_ahead s) ds fails)) in
        absurd (clash (is_awaited cs s) is (any_none (is_ahead s) cs (recursion_from_All Fails cs back)))

-- each who is due is awaited by the same cursors in another order
pub due_alike : (cs ds : List Cursor) (marks : List Due) (ws : List W) → IsPermutation cs ds → AwaitAllDue cs marks ws → AwaitAllDue ds marks ws
due_alike cs ds marks ws same all =
    each_weaker (λ (w : W). is_due marks w.1.sub ≡ true → is_awaited cs w.1 ≡ true) (λ (w : W). is_due marks w.1.sub ≡ true → is_awaited ds w.1 ≡ true) (λ w so due. awaited_alike cs ds w.1 same (so due)) ws all

-- what is left before cursors, in any order
pub left_alike : (cs ds : List Cursor) → IsPermutation cs ds → tickets_left ds ≡ tickets_left cs
left_alike cs ds same = sum_by-IsPermutation (λ (c : Cursor). 2 ^ 64 - c.from) cs ds same

-- A cursor that moves on has fewer tickets before it.
pub nearer : (c : Cursor) (cs ds : List Cursor) (ticket : ℕ) → IsPermutation (record c { from = ticket } ∷ cs) ds → c.from < ticket → c.from < 2 ^ 64 → tickets_left ds < tickets_left (c ∷ cs)
nearer c cs ds ticket same more small =
    let d = record c { from = ticket } in
    omega (arith, more, small, left_alike (d ∷ cs) ds same, sum_by-cons (λ (x : Cursor). 2 ^ 64 - x.from) d cs, sum_by-cons (λ (x : Cursor). 2 ^ 64 - x.from) c cs)

-- One that moves on to a place has no more.
pub moved_left : (c : Cursor) (cs : List Cursor) (ticket : ℕ) → c.from ≤ ticket → tickets_left (record c { from = ticket } ∷ cs) ≤ tickets_left (c ∷ cs)
moved_left c cs ticket le =
    omega (arith, le, sum_by-cons (λ (x : Cursor). 2 ^ 64 - x.from) (record c { from = ticket }) cs, sum_by-cons (λ (x : Cursor). 2 ^ 64 - x.from) c cs)

-- Where another cursor is before a place, the least one is too.
pub before_place : (c : Cursor) (cs : List Cursor) (ticket : ℕ) → AllByRecursion (λ (d : Cursor). c.from ≤ d.from) cs → (AllByRecursion (λ (d : Cursor). ticket ≤ d.from) cs → ⊥) → c.from < ticket
before_place c cs ticket least some = by (cases_lt c.from ticket)
  where
    by : (c.from < ticket) ⊎ (ticket ≤ c.from) → c.from < ticket
    by (inl less) = less
    by (inr over) =
        absurd (some (each_weaker (λ (d : Cursor). c.from ≤ d.from) (λ (d : Cursor). ticket ≤ d.from) (λ d from. omega (arith, over, from)) cs least))

-- One that goes has some.
pub nearer_gone : (c : Cursor) (cs : List Cursor) → c.from < 2 ^ 64 → tickets_left cs < tickets_left (c ∷ cs)
nearer_gone c cs small = omega (arith, small, sum_by-cons (λ (x : Cursor). 2 ^ 64 - x.from) c cs)

-- No cursor of a heap is before its first one.
pub least_of : (c : Cursor) (cs : List Cursor) → IsUpperBound cursor_cmp c cs → AllByRecursion (λ (d : Cursor). c.from ≤ d.from) cs
least_of c [] all = tt
least_of c (d ∷ cs) all = (by (nat_lt d.from c.from) refl all.0, least_of c cs all.1)
  where
    by : (b : Bool) → nat_lt d.from c.from ≡ b → is_lt (cond b Less (cond (d.from == c.from) Equal Greater)) ≡ false → c.from ≤ d.from
    by true less is = absurd cc
    by false over is = grind (arith, nat_tests)

module _ (stock : Stock) where
  abbrev IsAwaitedIn : List Cursor → W → Type 0
  IsAwaitedIn cursors w = can_take (stocked stock) w.1.sub ≡ true → is_awaited cursors w.1 ≡ true

  -- the same cursors in another order
  pub awaited_permuted : (cs ds : List Cursor) → IsPermutation cs ds → AreAwaited cs stock → AreAwaited ds stock
  awaited_permuted cs ds same all = each_weaker (IsAwaitedIn cs) (IsAwaitedIn ds) (λ w so can. awaited_alike cs ds w.1 same (so can)) stock.order.all all

  -- Each is awaited still where those whom the cursor has passed can't be served.
  pub awaited_moved : (c : Cursor) (cs : List Cursor) (ticket : ℕ) → AreAwaited (c ∷ cs) stock
      → ((i : ℕ) (w : W) → slice_get stock.order.all i ≡ Some w → c.from ≤ w.1.ticket → w.1.ticket < ticket → is_within c.scope w.1 ≡ true → can_take (stocked stock) w.1.sub ≡ false)
      → AreAwaited (record c { from = ticket } ∷ cs) stock
  awaited_moved c cs ticket all passed = go stock.order.all all passed
    where
      go : (ws : List W) → AllByRecursion (IsAwaitedIn (c ∷ cs)) ws
          → ((i : ℕ) (w : W) → slice_get ws i ≡ Some w → c.from ≤ w.1.ticket → w.1.ticket < ticket → is_within c.scope w.1 ≡ true → can_take (stocked stock) w.1.sub ≡ false)
          → AllByRecursion (IsAwaitedIn (record c { from = ticket } ∷ cs)) ws
      go [] all passed = tt
      go (w ∷ ws) all passed = (
        λ can. elim (moved_on c cs ticket w.1 (all.0 can)) [
          | inl still ↦ still
          | inr by ↦ absurd (clash (can_take (stocked stock) w.1.sub) can (passed 0 w refl by.0 by.1 by.2))
        ],
        go ws all.1 (λ i v is. passed (suc i) v is),
      )

  -- Each is awaited still where nobody ahead of the cursor that goes can be served.
  awaited_gone : (c : Cursor) (cs : List Cursor) → AreAwaited (c ∷ cs) stock
      → ((i : ℕ) (w : W) → slice_get stock.order.all i ≡ Some w → c.from ≤ w.1.ticket → is_within c.scope w.1 ≡ true → can_take (stocked stock) w.1.sub ≡ false)
      → AreAwaited cs stock
  awaited_gone c cs all passed = go stock.order.all all passed
    where
      go : (ws : List W) → AllByRecursion (IsAwaitedIn (c ∷ cs)) ws
          → ((i : ℕ) (w : W) → slice_get ws i ≡ Some w → c.from ≤ w.1.ticket → is_within c.scope w.1 ≡ true → can_take (stocked stock) w.1.sub ≡ false)
          → AllByRecursion (IsAwaitedIn cs) ws
      go [] all passed = tt
      go (w ∷ ws) all passed = (
        λ can. elim (gone c cs w.1 (all.0 can)) [
          | inl still ↦ still
          | inr by ↦ absurd (clash (can_take (stocked stock) w.1.sub) can (passed 0 w refl by.0 by.1))
        ],
        go ws all.1 (λ i v is. passed (suc i) v is),
      )

  -- who is idle can't be served
  pub idle_waits : (scope : Scope) (from until : ℕ) → IdleUntil scope stock.shared stock.order.all from until
      → (i : ℕ) (w : W) → slice_get stock.order.all i ≡ Some w → from ≤ w.1.ticket → w.1.ticket < until → is_within scope w.1 ≡ true → can_take (stocked stock) w.1.sub ≡ false
  idle_waits scope from until idle i w is after before within = by (can_take (stocked stock) w.1.sub) refl
    where
      by : (b : Bool) → can_take (stocked stock) w.1.sub ≡ b → can_take (stocked stock) w.1.sub ≡ false
      by true can = absurd (clash (is_none (line_for stock.shared w.1.sub)) (idle i w is after before within) (can_parts (stocked stock) w.1.sub can).line)
      by false can = can

  -- a cursor goes behind which nothing waits
  pub awaited_without : (c : Cursor) (cs : List Cursor) → AreAwaited (c ∷ cs) stock → ((until : ℕ) → IdleUntil c.scope stock.shared stock.order.all c.from until) → AreAwaited cs stock
  awaited_without c cs all idle =
      awaited_gone c cs all (λ i w is after within. idle_waits c.scope c.from (suc w.1.ticket) (idle (suc w.1.ticket)) i w is after (omega arith) within)

  -- none before all cursors can be served
  pub none_before : (cursors : List Cursor) (bound : ℕ) → AreAwaited cursors stock → AllByRecursion (λ (c : Cursor). bound ≤ c.from) cursors
      → (i : ℕ) (w : W) → slice_get stock.order.all i ≡ Some w → w.1.ticket < bound → can_take (stocked stock) w.1.sub ≡ false
  none_before cursors bound all from i w is less =
      unless (can_take (stocked stock) w.1.sub) (is_awaited cursors w.1) (all_at (IsAwaitedIn cursors) stock.order.all i w is all) (none_awaited cursors bound w.1 from less)

  -- the one at the least ticket of all cursors is the first that can be served, if it can
  pub ready_at : (cursors : List Cursor) (place : Place) (at : ℕ) (s : Waiter) → IsOrdered stock.order → AreAwaited cursors stock → AllByRecursion (λ (c : Cursor). place.ticket ≤ c.from) cursors
      → slice_get stock.order.all at ≡ Some (place.key, s) → s.ticket ≡ place.ticket → can_take (stocked stock) s.sub ≡ true → IsReady stock place.key
  ready_at cursors place at s ordered all from there ticket can = record {
    at = at;
    waiter = s;
    there = there;
    first = record {
      within = omega (arith, slice_get_within stock.order.all at (place.key, s) there, length_subs stock.order.all);
      passing = λ x is. subst (λ (y : Subscription). can_take (stocked stock) y ≡ true) (same_Some s.sub x (sym (sub_at stock.order.all at (place.key, s) there) ∙ is)) can;
      before = none_taken (can_take (stocked stock)) (subs_of stock.order.all) at (λ i x is less.
          let w = waiter_of stock.order.all i x is in
          let under = rising_at (λ (v : W). v.1.ticket) stock.order.all i at w.0 (place.key, s) ordered.rising w.1 there less in
          subst (λ (y : Subscription). can_take (stocked stock) y ≡ false) w.2 (none_before cursors place.ticket all from i w.0 w.1 (omega (arith, under, ticket))));
    };
  }

  -- where no cursor is left, none can be served
  pub none_ready_at : IsOrdered stock.order → AreAwaited [] stock → NoneReady stock
  none_ready_at ordered all =
      all_subs (λ x. can_take (stocked stock) x ≡ false) stock.order.all (places stock.order.all (λ i w is.
      none_before [] stock.order.next all tt i w is (all_at (λ (v : W). v.1.ticket < stock.order.next) stock.order.all i w is ordered.under)))
    where
      places : (ws : List W) → ((i : ℕ) (w : W) → slice_get ws i ≡ Some w → can_take (stocked stock) w.1.sub ≡ false) → AllByRecursion (λ (w : W). can_take (stocked stock) w.1.sub ≡ false) ws
      places [] each = tt
      places (w ∷ ws) each = (each 0 w refl, places ws (λ i v is. each (suc i) v is))

-- where those who are due are awaited, all are who can be served
pub awaited_due : (cursors : List Cursor) (marks : List Due) (stock : Stock) → AreDue marks (stocked stock) → AwaitAllDue cursors marks stock.order.all → AreAwaited cursors stock
awaited_due cursors marks stock due awaited = go stock.order.all due awaited
  where
    go : (ws : List W) → AllByRecursion (λ x. can_take (stocked stock) x ≡ true → is_due marks x ≡ true) (subs_of ws) → AwaitAllDue cursors marks ws → AllByRecursion (IsAwaitedIn stock cursors) ws
    go [] due awaited = tt
    go (w ∷ ws) due awaited = (λ can. awaited.0 (due.0 can), go ws due.1 awaited.1)

-- a delivery leaves all awaited
pub awaited_served : (cursors : List Cursor) (s t : Stock) (at : ℕ) (w v : W) (m : Message) (rest : List Message) → slice_get s.order.all at ≡ Some w → IsOrdered s.order → AreAwaited cursors s → can_take (stocked s) w.1.sub ≡ true
    → line_for s.shared w.1.sub ≡ m ∷ rest → t.shared ≡ left_shared s.shared w.1.sub rest → t.next_delivery ≡ s.next_delivery + 1
    → t.order.all ≡ remove s.order.all at ++ v ∷ [] → v.1.ticket ≡ s.order.next → ((scope : Scope) → is_within scope v.1 ≡ is_within scope w.1) → AreAwaited cursors t
awaited_served cursors s t at w v m rest is ordered all can line left next after last same =
    subst (AllByRecursion (IsAwaitedIn t cursors)) (sym after) (all_with (IsAwaitedIn t cursors) (remove s.order.all at) v (others s.order.all at all) served)
  where
    could : (x : Subscription) → can_take (stocked t) x ≡ true → can_take (stocked s) x ≡ true
    could x now = could_before (stocked s) (stocked t) w.1.sub x m rest line left next now

    others : (ws : List W) (at : ℕ) → AllByRecursion (IsAwaitedIn s cursors) ws → AllByRecursion (IsAwaitedIn t cursors) (remove ws at)
    others ws at was = each_weaker (IsAwaitedIn s cursors) (IsAwaitedIn t cursors) (λ x so now. so (could x.1.sub now)) (remove ws at) (all_without (IsAwaitedIn s cursors) ws at was)

    served : IsAwaitedIn t cursors v
    served now =
        let under = all_at (λ (x : W). x.1.ticket < s.order.next) s.order.all at w is ordered.under in
        awaited_later cursors w.1 v.1 (omega (arith, under, last)) same (all_at (IsAwaitedIn s cursors) s.order.all at w is all can)
