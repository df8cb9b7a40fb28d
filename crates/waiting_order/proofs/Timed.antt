use Rattle.std.proofs.Common.{◌≡◌, ◌==◌, ◌<◌, ◌≤◌, ◌+◌, ◌&&◌, ◌⊎◌, ◌++◌, ◌≢◌, List, [], ◌∷◌, ℕ, suc, zero, Bool, true, false, Option, Some, None, cond, inl, inr, length, append_assoc, append-nil, refl, sym, ap, subst, ◌∙◌, arith, remove, slice_get}
use Rattle.std.specs.List.{AllByRecursion, IsDistinct, sum_by}
use Rattle.std.specs.Map.{keys_of, lookup}
use Rattle.std.specs.Borrow.{Bor, MutBor}
use Rattle.std.specs.Option.{IfNone, IfSome, IsSome, option_copied, option_copied_mut, option_to_list}
use Rattle.std.proofs.lemmas.Bool.{and_parts, cases_lt}
use Rattle.std.proofs.lemmas.Bool.Decides.{nat_tests}
use Rattle.std.proofs.lemmas.Option.{none-some, same_Some}
use Rattle.std.proofs.lemmas.List.Sums.{sum_by-cons}
use Rattle.frame_core.proofs.Lists.{all_push}
use Rattle.broker_state.proofs.Weights.{sum_by-removed}
use Rattle.broker_state.specs.Lists.{changed}
use Rattle.waiting_order.specs.declared.waiters.Key.{Key}
use Rattle.waiting_order.specs.declared.waiters.Waiter.{Waiter}
use Rattle.waiting_order.specs.Keys.{key_eq}
use Rattle.waiting_order.specs.Tickets.{IsRising}
use Rattle.waiting_order.specs.Waiting.{AreTimed, IsFree, IsOrdered, by_ticket, waiter_at}
use Rattle.waiting_order.proofs.Rising.{rising_pushed}

abbrev pub W : Type 0
W = Key × Waiter

abbrev pub at_key : Key → List W → Option Waiter
at_key k ws = lookup (key_eq k) ws

abbrev pub ticket_of : W → ℕ
ticket_of w = w.1.ticket

same_number : (a b : ℕ) → (a == b) ≡ true → a ≡ b
same_number a b is = grind (arith, nat_tests)

number_itself : (a b : ℕ) → a ≡ b → (a == b) ≡ true
number_itself a b is = grind (arith, nat_tests)

pub key_same : (a b : Key) → key_eq a b ≡ true → a ≡ b
key_same a b is =
    let both = and_parts (a.session == b.session) (a.slot == b.slot) is in
    ap (λ n. record a { session = n }) (same_number a.session b.session both.0) ∙ ap (λ n. record b { slot = n }) (same_number a.slot b.slot both.1)

pub key_itself : (a : Key) → key_eq a a ≡ true
key_itself a =
    ap (λ c. c && a.slot == a.slot) (number_itself a.session a.session refl) ∙ number_itself a.slot a.slot refl

pub clash : (b : Bool) → b ≡ true → b ≡ false → ⊥
clash true is fails = absurd cc
clash false is fails = absurd cc

-- the waiter of a ticket has it
pub has_ticket : (t : ℕ) (ws : List W) (w : W) → waiter_at t ws ≡ Some w → w.1.ticket ≡ t
has_ticket t [] w is = absurd (none-some w is)
has_ticket t (x ∷ ws) w is = by (λ there. has_ticket t ws w there) (x.1.ticket == t) refl is
  where
    by : (waiter_at t ws ≡ Some w → w.1.ticket ≡ t) → (b : Bool) → (x.1.ticket == t) ≡ b → cond b (Some x) (waiter_at t ws) ≡ Some w → w.1.ticket ≡ t
    by rest true test there = ap (λ (y : W). y.1.ticket) (sym (same_Some x w there)) ∙ same_number x.1.ticket t test
    by rest false test there = rest there

key_among : (t : ℕ) (ws : List W) (w : W) (P : Key → Type 0) → waiter_at t ws ≡ Some w → AllByRecursion P (keys_of ws) → P w.0
key_among t [] w P is all = absurd (none-some w is)
key_among t (x ∷ ws) w P is all = by (λ there. key_among t ws w P there all.1) (x.1.ticket == t) is
  where
    by : (waiter_at t ws ≡ Some w → P w.0) → (b : Bool) → cond b (Some x) (waiter_at t ws) ≡ Some w → P w.0
    by rest true there = subst (λ (y : W). P y.0) (same_Some x w there) all.0
    by rest false there = rest there

other_way : (a b : Key) → key_eq a b ≡ false → key_eq b a ≡ false
other_way a b not = by (key_eq b a) refl
  where
    by : (c : Bool) → key_eq b a ≡ c → key_eq b a ≡ false
    by true is = absurd (clash (key_eq a b) (ap (λ k. key_eq a k) (key_same b a is) ∙ key_itself a) not)
    by false is = is

-- and stands at its key
pub stands_there : (t : ℕ) (ws : List W) (w : W) → IsDistinct key_eq (keys_of ws) → waiter_at t ws ≡ Some w → at_key w.0 ws ≡ Some w.1
unfolding IsDistinct
stands_there t [] w unique is = absurd (none-some w is)
stands_there t (x ∷ ws) w unique is = by (λ there. key_among t ws w (λ k. key_eq x.0 k ≡ false) there unique.0) (λ there. stands_there t ws w unique.1 there) (x.1.ticket == t) is
  where
    by : (waiter_at t ws ≡ Some w → key_eq x.0 w.0 ≡ false) → (waiter_at t ws ≡ Some w → at_key w.0 ws ≡ Some w.1) → (b : Bool) → cond b (Some x) (waiter_at t ws) ≡ Some w → cond (key_eq w.0 x.0) (Some x.1) (at_key w.0 ws) ≡ Some w.1
    by apart rest true there =
        subst (λ (y : W). cond (key_eq y.0 x.0) (Some x.1) (at_key y.0 ws) ≡ Some y.1) (same_Some x w there) (ap (λ c. cond c (Some x.1) (at_key x.0 ws)) (key_itself x.0))
    by apart rest false there =
        ap (λ c. cond c (Some x.1) (at_key w.0 ws)) (other_way x.0 w.0 (apart there)) ∙ rest there

some_at : (k : Key) (ws : List W) (s : Waiter) → at_key k ws ≡ Some s → (w : W) × (waiter_at s.ticket ws ≡ Some w)
some_at k [] s is = absurd (none-some s is)
some_at k (x ∷ ws) s is = by (λ there. some_at k ws s there) (key_eq k x.0) (x.1.ticket == s.ticket) refl is
  where
    by : (at_key k ws ≡ Some s → (w : W) × (waiter_at s.ticket ws ≡ Some w)) → (b c : Bool) → (x.1.ticket == s.ticket) ≡ c → cond b (Some x.1) (at_key k ws) ≡ Some s → (w : W) × (cond c (Some x) (waiter_at s.ticket ws) ≡ Some w)
    by rest b true test there = (x, refl)
    by rest true false test there =
        absurd (clash (x.1.ticket == s.ticket) (number_itself x.1.ticket s.ticket (ap (λ (r : Waiter). r.ticket) (same_Some x.1 s there))) test)
    by rest false false test there = rest there

-- who stands at a key is the waiter of its ticket
pub waits_there : (n : ℕ) (ws : List W) → AreTimed n ws → (k : Key) (s : Waiter) → at_key k ws ≡ Some s → waiter_at s.ticket ws ≡ Some (k, s)
waits_there n ws timed k s is =
    let w = some_at k ws s is in
    let here = stands_there s.ticket ws w.0 timed.unique w.1 in
    let key : w.0.0 ≡ k = timed.apart w.0.0 k w.0.1 s here is (has_ticket s.ticket ws w.0 w.1) in
    let at : Some w.0.1 ≡ Some s = sym here ∙ ap (λ l. at_key l ws) key ∙ is in
    w.1 ∙ ap (λ l. Some (l, w.0.1)) key ∙ ap (λ (r : Waiter). Some (k, r)) (same_Some w.0.1 s at)

-- Where one key has another value, the waiters of other tickets stay.
module _ (n m : ℕ) (ws vs : List W) (timed : AreTimed n ws) (after : AreTimed m vs) (k : Key) (o : Option Waiter) (here : at_key k vs ≡ o) (others : (q : Key) → key_eq k q ≡ false → at_key q vs ≡ at_key q ws) where
  stays_by : (t : ℕ) → ((s : Waiter) → at_key k ws ≡ Some s → s.ticket ≡ t → ⊥) → ((s : Waiter) → o ≡ Some s → s.ticket ≡ t → ⊥) → (a b : Option W) → waiter_at t ws ≡ a → waiter_at t vs ≡ b → a ≡ b
  stays_by t was is None None at_ws at_vs = refl
  stays_by t was is (Some w) b at_ws at_vs =
      let there = stands_there t ws w timed.unique at_ws in
      let ticket = has_ticket t ws w at_ws in
      sym (sym at_vs ∙ ap (λ u. waiter_at u vs) (sym ticket) ∙ waits_there m vs after w.0 w.1 (by (key_eq k w.0) refl there ticket))
    where
      by : (c : Bool) → key_eq k w.0 ≡ c → at_key w.0 ws ≡ Some w.1 → w.1.ticket ≡ t → at_key w.0 vs ≡ Some w.1
      by true same there ticket =
          absurd (was w.1 (ap (λ l. at_key l ws) (key_same k w.0 same) ∙ there) ticket)
      by false other there ticket = others w.0 other ∙ there
  stays_by t was is None (Some w) at_ws at_vs =
      let there = stands_there t vs w after.unique at_vs in
      let ticket = has_ticket t vs w at_vs in
      sym at_ws ∙ ap (λ u. waiter_at u ws) (sym ticket) ∙ waits_there n ws timed w.0 w.1 (by (key_eq k w.0) refl there ticket)
    where
      by : (c : Bool) → key_eq k w.0 ≡ c → at_key w.0 vs ≡ Some w.1 → w.1.ticket ≡ t → at_key w.0 ws ≡ Some w.1
      by true same there ticket =
          absurd (is w.1 (sym here ∙ ap (λ l. at_key l vs) (key_same k w.0 same) ∙ there) ticket)
      by false other there ticket = sym (others w.0 other) ∙ there

  pub stays : (t : ℕ) → ((s : Waiter) → at_key k ws ≡ Some s → s.ticket ≡ t → ⊥) → ((s : Waiter) → o ≡ Some s → s.ticket ≡ t → ⊥) → waiter_at t vs ≡ waiter_at t ws
  stays t was is = sym (stays_by t was is (waiter_at t ws) (waiter_at t vs) refl refl)

-- the waiters in their order, where those of all tickets but one stay
module _ (ws vs : List W) (t : ℕ) where
  pub same_before : (n : ℕ) → ((u : ℕ) → u < n → waiter_at u vs ≡ waiter_at u ws) → by_ticket n vs ≡ by_ticket n ws
  same_before zero same = refl
  same_before (suc n) same =
      ap (λ l. l ++ option_to_list (waiter_at n vs)) (same_before n (λ u less. same u (omega (arith, less)))) ∙ ap (λ o. by_ticket n ws ++ option_to_list o) (same n (omega arith))

  pub record Split (n : ℕ) : Type 0 where
    pub rest : List W
    pub was : by_ticket n ws ≡ by_ticket t ws ++ (option_to_list (waiter_at t ws) ++ rest)
    pub is : by_ticket n vs ≡ by_ticket t ws ++ (option_to_list (waiter_at t vs) ++ rest)

  more : (us front mid rest end : List W) → us ≡ front ++ (mid ++ rest) → us ++ end ≡ front ++ (mid ++ (rest ++ end))
  more us front mid rest end is =
      ap (λ l. l ++ end) is ∙ append_assoc front (mid ++ rest) end ∙ ap (λ l. front ++ l) (append_assoc mid rest end)

  pub split : (n : ℕ) → t < n → ((u : ℕ) → u < n → u ≢ t → waiter_at u vs ≡ waiter_at u ws) → Split n
  split zero less same = absurd (omega (arith, less))
  split (suc n) less same = by (λ before. split n before (λ u low other. same u (omega (arith, low)) other)) (cases_lt t n)
    where
      nil : (front mid : List W) → front ++ mid ≡ front ++ (mid ++ [])
      nil front mid = ap (λ l. front ++ l) (sym (append-nil mid))

      by : (t < n → Split n) → (t < n) ⊎ (n ≤ t) → Split (suc n)
      by shorter (inl before) =
          let s = shorter before in
          let end = option_to_list (waiter_at n ws) in
          record {
            rest = s.rest ++ end;
            was = more (by_ticket n ws) (by_ticket t ws) (option_to_list (waiter_at t ws)) s.rest end s.was;
            is = ap (λ o. by_ticket n vs ++ option_to_list o) (same n (omega arith) (λ e. omega (arith, e, before))) ∙ more (by_ticket n vs) (by_ticket t ws) (option_to_list (waiter_at t vs)) s.rest end s.is;
          }
      by shorter (inr behind) =
          let e : n ≡ t = omega (arith, behind, less) in
          record {
            rest = [];
            was = ap (λ u. by_ticket u ws ++ option_to_list (waiter_at u ws)) e ∙ nil (by_ticket t ws) (option_to_list (waiter_at t ws));
            is = ap (λ u. by_ticket u vs ++ option_to_list (waiter_at u vs)) e ∙ ap (λ l. l ++ option_to_list (waiter_at t vs)) (same_before t (λ u low. same u (omega (arith, low, less)) (λ f. omega (arith, f, low)))) ∙ nil (by_ticket t ws) (option_to_list (waiter_at t vs));
          }

-- what stands in a place of two lists together
in_place : (xs ys : List W) (i : ℕ) (w : W) → slice_get (xs ++ ys) i ≡ Some w → (slice_get xs i ≡ Some w) ⊎ ((j : ℕ) × (i ≡ length xs + j) × (slice_get ys j ≡ Some w))
in_place [] ys i w is = inr (i, omega arith, is)
in_place (x ∷ xs) ys zero w is = inl is
in_place (x ∷ xs) ys (suc i) w is =
    elim (in_place xs ys i w is) [ inl there ↦ inl there | inr behind ↦ inr (behind.0, omega (arith, behind.1), behind.2) ]

-- where a waiter stands in the order
pub record IsAt (n : ℕ) (ws : List W) (i : ℕ) (w : W) : Type 0 where
  pub place : i ≡ length (by_ticket w.1.ticket ws)
  pub under : w.1.ticket < n
  pub waits : waiter_at w.1.ticket ws ≡ Some w

pub place_is : (ws : List W) (n i : ℕ) (w : W) → slice_get (by_ticket n ws) i ≡ Some w → IsAt n ws i w
place_is ws zero i w is = absurd (none-some w is)
place_is ws (suc n) i w is = by (λ before. place_is ws n i w before) (in_place (by_ticket n ws) (option_to_list (waiter_at n ws)) i w is)
  where
    last : (o : Option W) (j : ℕ) → waiter_at n ws ≡ o → slice_get (option_to_list o) j ≡ Some w → (j ≡ 0) × (o ≡ Some w)
    last None j at there = absurd (none-some w there)
    last (Some x) zero at there = (refl, there)
    last (Some x) (suc j) at there = absurd (none-some w there)

    by : (slice_get (by_ticket n ws) i ≡ Some w → IsAt n ws i w) → (slice_get (by_ticket n ws) i ≡ Some w) ⊎ ((j : ℕ) × (i ≡ length (by_ticket n ws) + j) × (slice_get (option_to_list (waiter_at n ws)) j ≡ Some w)) → IsAt (suc n) ws i w
    by shorter (inl before) =
        let rest = shorter before in
        record { place = rest.place; under = omega (arith, rest.under); waits = rest.waits }
    by shorter (inr (j, place, there)) =
        let it = last (waiter_at n ws) j refl there in
        let e : w.1.ticket ≡ n = has_ticket n ws w it.1 in
        record {
          place = omega (arith, place, it.0, ap (λ u. length (by_ticket u ws)) e);
          under = omega (arith, e);
          waits = ap (λ u. waiter_at u ws) e ∙ it.1;
        }

-- In the order the tickets rise, and are under the next one.
pub all_under : (ws : List W) (n m : ℕ) → n ≤ m → AllByRecursion (λ w. ticket_of w < m) (by_ticket n ws)
all_under ws zero m le = tt
all_under ws (suc n) m le = by (all_under ws n m (omega (arith, le))) (waiter_at n ws) refl
  where
    by : AllByRecursion (λ w. ticket_of w < m) (by_ticket n ws) → (o : Option W) → waiter_at n ws ≡ o → AllByRecursion (λ w. ticket_of w < m) (by_ticket n ws ++ option_to_list o)
    by rest None is = subst (AllByRecursion (λ w. ticket_of w < m)) (sym (append-nil (by_ticket n ws))) rest
    by rest (Some w) is = all_push (λ w. ticket_of w < m) (by_ticket n ws) w rest (omega (arith, le, has_ticket n ws w is))

pub rises : (ws : List W) (n : ℕ) → IsRising ticket_of (by_ticket n ws)
rises ws zero = tt
rises ws (suc n) = by (rises ws n) (waiter_at n ws) refl
  where
    by : IsRising ticket_of (by_ticket n ws) → (o : Option W) → waiter_at n ws ≡ o → IsRising ticket_of (by_ticket n ws ++ option_to_list o)
    by rest None is = subst (IsRising ticket_of) (sym (append-nil (by_ticket n ws))) rest
    by rest (Some w) is =
        let e = has_ticket n ws w is in
        rising_pushed ticket_of (by_ticket n ws) w rest (subst (λ u. AllByRecursion (λ x. ticket_of x < u) (by_ticket n ws)) (sym e) (all_under ws n n (omega arith)))

-- one in the middle of a list
pub remove_mid : (xs ys : List W) (w : W) → remove (xs ++ w ∷ ys) (length xs) ≡ xs ++ ys
remove_mid [] ys w = refl
remove_mid (x ∷ xs) ys w = ap (λ l. x ∷ l) (remove_mid xs ys w)

pub changed_mid : (f : W → W) (xs ys : List W) (w : W) → changed (length xs) f (xs ++ w ∷ ys) ≡ xs ++ f w ∷ ys
changed_mid f [] ys w = refl
changed_mid f (x ∷ xs) ys w = ap (λ l. x ∷ l) (changed_mid f xs ys w)

pub get_mid : (xs ys : List W) (w : W) → slice_get (xs ++ w ∷ ys) (length xs) ≡ Some w
get_mid [] ys w = refl
get_mid (x ∷ xs) ys w = get_mid xs ys w

-- who stands in the order stands at its key, and the other way round
module _ (n : ℕ) (ws : List W) (timed : AreTimed n ws) where
  pub at_its_key : (i : ℕ) (w : W) → slice_get (by_ticket n ws) i ≡ Some w → at_key w.0 ws ≡ Some w.1
  at_its_key i w is = stands_there w.1.ticket ws w timed.unique (place_is ws n i w is).waits

  pub in_order : (k : Key) (s : Waiter) → at_key k ws ≡ Some s → (at : ℕ) × (slice_get (by_ticket n ws) at ≡ Some (k, s))
  in_order k s is =
      let cut = split ws ws s.ticket n (timed.under k s is) (λ u less other. refl) in
      let front = by_ticket s.ticket ws in
      let it : by_ticket n ws ≡ front ++ (k, s) ∷ cut.rest = cut.was ∙ ap (λ o. front ++ (option_to_list o ++ cut.rest)) (waits_there n ws timed k s is) in
      (length front, ap (λ l. slice_get l (length front)) it ∙ get_mid front cut.rest (k, s))

  pub free_key : (k : Key) → IsFree (by_ticket n ws) k → at_key k ws ≡ None
  free_key k free = by (at_key k ws) refl
    where
      by : (o : Option Waiter) → at_key k ws ≡ o → at_key k ws ≡ None
      by None is = is
      by (Some s) is =
          let p = in_order k s is in
          absurd (clash (key_eq k k) (key_itself k) (free p.0 (k, s) p.1))

  pub key_free : (k : Key) → at_key k ws ≡ None → IsFree (by_ticket n ws) k
  key_free k none i w is = by (key_eq k w.0) refl
    where
      by : (b : Bool) → key_eq k w.0 ≡ b → key_eq k w.0 ≡ false
      by true same =
          absurd (none-some w.1 (sym none ∙ ap (λ l. at_key l ws) (key_same k w.0 same) ∙ at_its_key i w is))
      by false other = other

-- A key has another value.
module _ (n m : ℕ) (ws vs : List W) (timed : AreTimed n ws) (unique : IsDistinct key_eq (keys_of vs)) (k : Key) where
  module _ (here : at_key k vs ≡ None) (others : (q : Key) → key_eq k q ≡ false → at_key q vs ≡ at_key q ws) where
    only_others : (q : Key) (r : Waiter) → at_key q vs ≡ Some r → at_key q ws ≡ Some r
    only_others q r is = by (key_eq k q) refl
      where
        by : (b : Bool) → key_eq k q ≡ b → at_key q ws ≡ Some r
        by true same = absurd (none-some r (sym here ∙ ap (λ l. at_key l vs) (key_same k q same) ∙ is))
        by false other = sym (others q other) ∙ is

    pub timed_without : AreTimed n vs
    timed_without = record {
      unique = unique;
      under = λ q r is. timed.under q r (only_others q r is);
      apart = λ q l r t at_q at_l same. timed.apart q l r t (only_others q r at_q) (only_others l t at_l) same;
    }

    pub order_without : (s : Waiter) → at_key k ws ≡ Some s → (at : ℕ) → slice_get (by_ticket n ws) at ≡ Some (k, s) → by_ticket n vs ≡ remove (by_ticket n ws) at
    order_without s was at is =
        let same = λ (u : ℕ) (less : u < n) (other : u ≢ s.ticket). stays n n ws vs timed timed_without k None here others u (λ r r_is t. other (sym t ∙ ap (λ (x : Waiter). x.ticket) (same_Some r s (sym r_is ∙ was)))) (λ r r_is t. none-some r r_is) in
        let cut = split ws vs s.ticket n (timed.under k s was) same in
        let front = by_ticket s.ticket ws in
        let gone = gone_at s was in
        let it : by_ticket n ws ≡ front ++ (k, s) ∷ cut.rest = cut.was ∙ ap (λ o. front ++ (option_to_list o ++ cut.rest)) (waits_there n ws timed k s was) in
        let place : at ≡ length front = (place_is ws n at (k, s) is).place in
        cut.is ∙ ap (λ o. front ++ (option_to_list o ++ cut.rest)) gone ∙ sym (ap (λ l. remove l at) it ∙ ap (remove (front ++ (k, s) ∷ cut.rest)) place ∙ remove_mid front cut.rest (k, s))
      where
        gone_at : (s : Waiter) → at_key k ws ≡ Some s → waiter_at s.ticket vs ≡ None
        gone_at s was = by (waiter_at s.ticket vs) refl
          where
            by : (o : Option W) → waiter_at s.ticket vs ≡ o → waiter_at s.ticket vs ≡ None
            by None none = none
            by (Some w) some =
                let there = stands_there s.ticket vs w unique some in
                let key = timed.apart w.0 k w.1 s (only_others w.0 w.1 there) was (has_ticket s.ticket vs w some) in
                absurd (none-some w.1 (sym here ∙ ap (λ l. at_key l vs) (sym key) ∙ there))

  -- one of the same ticket
  module _ (s t : Waiter) (was : at_key k ws ≡ Some s) (here : at_key k vs ≡ Some t) (ticket : t.ticket ≡ s.ticket) (others : (q : Key) → key_eq k q ≡ false → at_key q vs ≡ at_key q ws) where
    pub record Was (q : Key) (r : Waiter) : Type 0 where
      pub old : Waiter
      pub there : at_key q ws ≡ Some old
      pub same : old.ticket ≡ r.ticket

    was_there : (q : Key) (r : Waiter) → at_key q vs ≡ Some r → Was q r
    was_there q r is = by (key_eq k q) refl
      where
        by : (b : Bool) → key_eq k q ≡ b → Was q r
        by true same =
            let r_is : t ≡ r = same_Some t r (sym here ∙ ap (λ l. at_key l vs) (key_same k q same) ∙ is) in
            record { old = s; there = ap (λ l. at_key l ws) (sym (key_same k q same)) ∙ was; same = sym ticket ∙ ap (λ (x : Waiter). x.ticket) r_is }
        by false other = record { old = r; there = sym (others q other) ∙ is; same = refl }

    pub timed_changed : AreTimed n vs
    timed_changed = record {
      unique = unique;
      under = λ q r is.
          let w = was_there q r is in
          subst (λ u. u < n) w.same (timed.under q w.old w.there);
      apart = λ q l r u at_q at_l same.
          let a = was_there q r at_q in
          let b = was_there l u at_l in
          timed.apart q l a.old b.old a.there b.there (a.same ∙ same ∙ sym b.same);
    }

    pub order_changed : (f : W → W) → (k, t) ≡ f (k, s) → (at : ℕ) → slice_get (by_ticket n ws) at ≡ Some (k, s) → by_ticket n vs ≡ changed at f (by_ticket n ws)
    order_changed f new at is =
        let same = λ (u : ℕ) (less : u < n) (other : u ≢ s.ticket). stays n n ws vs timed timed_changed k (Some t) here others u (λ r r_is e. other (sym e ∙ ap (λ (x : Waiter). x.ticket) (same_Some r s (sym r_is ∙ was)))) (λ r r_is e. other (sym e ∙ sym (ap (λ (x : Waiter). x.ticket) (same_Some t r r_is)) ∙ ticket)) in
        let cut = split ws vs s.ticket n (timed.under k s was) same in
        let front = by_ticket s.ticket ws in
        let it : by_ticket n ws ≡ front ++ (k, s) ∷ cut.rest = cut.was ∙ ap (λ o. front ++ (option_to_list o ++ cut.rest)) (waits_there n ws timed k s was) in
        let now : waiter_at s.ticket vs ≡ Some (k, t) = ap (λ u. waiter_at u vs) (sym ticket) ∙ waits_there n vs timed_changed k t here in
        let place : at ≡ length front = (place_is ws n at (k, s) is).place in
        cut.is ∙ ap (λ o. front ++ (option_to_list o ++ cut.rest)) now ∙ ap (λ (w : W). front ++ w ∷ cut.rest) new
        ∙ sym (ap (changed at f) it ∙ ap (λ i. changed i f (front ++ (k, s) ∷ cut.rest)) place ∙ changed_mid f front cut.rest (k, s))

  -- one of the next ticket
  module _ (t : Waiter) (here : at_key k vs ≡ Some t) (ticket : t.ticket ≡ n) (others : (q : Key) → key_eq k q ≡ false → at_key q vs ≡ at_key q ws) where
    last_or : (q : Key) (r : Waiter) → at_key q vs ≡ Some r → ((k ≡ q) × (r.ticket ≡ n)) ⊎ (at_key q ws ≡ Some r)
    last_or q r is = by (key_eq k q) refl
      where
        by : (b : Bool) → key_eq k q ≡ b → ((k ≡ q) × (r.ticket ≡ n)) ⊎ (at_key q ws ≡ Some r)
        by true same =
            let r_is : t ≡ r = same_Some t r (sym here ∙ ap (λ l. at_key l vs) (key_same k q same) ∙ is) in
            inl (key_same k q same, sym (ap (λ (x : Waiter). x.ticket) r_is) ∙ ticket)
        by false other = inr (sym (others q other) ∙ is)

    pub timed_more : AreTimed (suc n) vs
    timed_more = record {
      unique = unique;
      under = λ q r is. elim (last_or q r is) [ inl last ↦ omega (arith, last.1) | inr old ↦ omega (arith, timed.under q r old) ];
      apart = λ q l r u at_q at_l same. both q l r u same (last_or q r at_q) (last_or l u at_l);
    }
      where
        both : (q l : Key) (r u : Waiter) → r.ticket ≡ u.ticket → ((k ≡ q) × (r.ticket ≡ n)) ⊎ (at_key q ws ≡ Some r) → ((k ≡ l) × (u.ticket ≡ n)) ⊎ (at_key l ws ≡ Some u) → q ≡ l
        both q l r u same (inl a) (inl b) = sym a.0 ∙ b.0
        both q l r u same (inl a) (inr b) = absurd (omega (arith, same, a.1, timed.under l u b))
        both q l r u same (inr a) (inl b) = absurd (omega (arith, same, b.1, timed.under q r a))
        both q l r u same (inr a) (inr b) = timed.apart q l r u a b same

    now_last : waiter_at n vs ≡ Some (k, t)
    now_last = ap (λ u. waiter_at u vs) (sym ticket) ∙ waits_there (suc n) vs timed_more k t here

    -- which was not there
    pub order_more : at_key k ws ≡ None → by_ticket (suc n) vs ≡ by_ticket n ws ++ (k, t) ∷ []
    order_more none =
        let same = λ (u : ℕ) (less : u < n). stays n (suc n) ws vs timed timed_more k (Some t) here others u (λ r r_is e. none-some r (sym none ∙ r_is)) (λ r r_is e. omega (arith, less, e, ticket, ap (λ (x : Waiter). x.ticket) (same_Some t r r_is))) in
        ap (λ o. by_ticket n vs ++ option_to_list o) now_last ∙ ap (λ l. l ++ (k, t) ∷ []) (same_before ws vs n n same)

    -- or stood elsewhere
    pub order_moved : (s : Waiter) → at_key k ws ≡ Some s → (at : ℕ) → slice_get (by_ticket n ws) at ≡ Some (k, s) → by_ticket (suc n) vs ≡ remove (by_ticket n ws) at ++ (k, t) ∷ []
    order_moved s was at is =
        let low : s.ticket < n = timed.under k s was in
        let same = λ (u : ℕ) (less : u < n) (other : u ≢ s.ticket). stays n (suc n) ws vs timed timed_more k (Some t) here others u (λ r r_is e. other (sym e ∙ ap (λ (x : Waiter). x.ticket) (same_Some r s (sym r_is ∙ was)))) (λ r r_is e. omega (arith, less, e, ticket, ap (λ (x : Waiter). x.ticket) (same_Some t r r_is))) in
        let cut = split ws vs s.ticket n low same in
        let front = by_ticket s.ticket ws in
        let it : by_ticket n ws ≡ front ++ (k, s) ∷ cut.rest = cut.was ∙ ap (λ o. front ++ (option_to_list o ++ cut.rest)) (waits_there n ws timed k s was) in
        let place : at ≡ length front = (place_is ws n at (k, s) is).place in
        let left : by_ticket n vs ≡ remove (by_ticket n ws) at = cut.is ∙ ap (λ o. front ++ (option_to_list o ++ cut.rest)) (gone_at s was low) ∙ sym (ap (λ l. remove l at) it ∙ ap (remove (front ++ (k, s) ∷ cut.rest)) place ∙ remove_mid front cut.rest (k, s)) in
        ap (λ o. by_ticket n vs ++ option_to_list o) now_last ∙ ap (λ l. l ++ (k, t) ∷ []) left
      where
        gone_at : (s : Waiter) → at_key k ws ≡ Some s → s.ticket < n → waiter_at s.ticket vs ≡ None
        gone_at s was low = by (waiter_at s.ticket vs) refl
          where
            by : (o : Option W) → waiter_at s.ticket vs ≡ o → waiter_at s.ticket vs ≡ None
            by None none = none
            by (Some w) some = absurd (neither w (has_ticket s.ticket vs w some) (last_or w.0 w.1 (stands_there s.ticket vs w unique some)) some)
              where
                neither : (w : W) → w.1.ticket ≡ s.ticket → ((k ≡ w.0) × (w.1.ticket ≡ n)) ⊎ (at_key w.0 ws ≡ Some w.1) → waiter_at s.ticket vs ≡ Some w → ⊥
                neither w same (inl a) at_s = omega (arith, same, a.1, low)
                neither w same (inr a) at_s =
                    let key = timed.apart w.0 k w.1 s a was same in
                    let it : Some t ≡ Some w.1 = sym here ∙ ap (λ l. at_key l vs) (sym key) ∙ stands_there s.ticket vs w unique at_s in
                    omega (arith, same, low, ticket, ap (λ (x : Waiter). x.ticket) (same_Some t w.1 it))

-- a sum over all is that over them in their order
module _ (f : W → ℕ) where
  first_gone : (x : W) (ws : List W) → IsDistinct key_eq (keys_of (x ∷ ws)) → at_key x.0 ws ≡ None
  unfolding IsDistinct
  first_gone x ws unique = none_in ws unique.0
    where
      none_in : (vs : List W) → AllByRecursion (λ k. key_eq x.0 k ≡ false) (keys_of vs) → at_key x.0 vs ≡ None
      none_in [] all = refl
      none_in (v ∷ vs) all = ap (λ c. cond c (Some v.1) (at_key x.0 vs)) all.0 ∙ none_in vs all.1

  tail_unique : (x : W) (ws : List W) → IsDistinct key_eq (keys_of (x ∷ ws)) → IsDistinct key_eq (keys_of ws)
  unfolding IsDistinct
  tail_unique x ws unique = unique.1

  pub sum_in_order : (n : ℕ) (ws : List W) → AreTimed n ws → sum_by f (by_ticket n ws) ≡ sum_by f ws
  sum_in_order n [] timed = nobody n
    where
      nobody : (n : ℕ) → sum_by f (by_ticket n []) ≡ 0
      nobody zero = refl
      nobody (suc n) = ap (sum_by f) (append-nil (by_ticket n [])) ∙ nobody n
  sum_in_order n (x ∷ ws) timed =
      let gone = first_gone x ws timed.unique in
      let unique = tail_unique x ws timed.unique in
      let others = λ (q : Key) (other : key_eq x.0 q ≡ false). sym (ap (λ c. cond c (Some x.1) (at_key q ws)) (other_way x.0 q other)) in
      let here : at_key x.0 (x ∷ ws) ≡ Some x.1 = ap (λ c. cond c (Some x.1) (at_key x.0 ws)) (key_itself x.0) in
      let at = in_order n (x ∷ ws) timed x.0 x.1 here in
      let rest = sum_in_order n ws (timed_without n n (x ∷ ws) ws timed unique x.0 gone others) in
      let left = order_without n n (x ∷ ws) ws timed unique x.0 gone others x.1 here at.0 at.1 in
      omega (arith, rest, ap (sum_by f) left, sum_by-removed f (by_ticket n (x ∷ ws)) at.0 x at.1, sum_by-cons f x ws)

-- what a look at a key finds
module _ (n : ℕ) (ws : List W) (timed : AreTimed n ws) (k : Key) where
  pub seen_some : (r : Option (Bor Waiter)) → option_copied r ≡ at_key k ws → IfSome r (λ s. (at : ℕ) × (slice_get (by_ticket n ws) at ≡ Some (k, s.now)))
  seen_some None is = tt
  seen_some (Some s) is = in_order n ws timed k s.now (sym is)

  pub seen_none : (r : Option (Bor Waiter)) → option_copied r ≡ at_key k ws → IfNone r (IsFree (by_ticket n ws) k)
  seen_none None is = key_free n ws timed k (sym is)
  seen_none (Some s) is = tt

pub there_mut : (r : Option (MutBor Waiter)) (s : Waiter) → option_copied_mut r ≡ Some s → IsSome r
there_mut None s is = absurd (none-some s is)
there_mut (Some x) s is = refl

pub there_now : (r : Option Waiter) (s : Waiter) → r ≡ Some s → IsSome r
there_now None s is = absurd (none-some s is)
there_now (Some x) s is = refl

pub changed_same : (n : ℕ) (ws : List W) (at : ℕ) → changed at (λ w. w) (by_ticket n ws) ≡ by_ticket n ws
changed_same n ws at = in_list (by_ticket n ws) at
  where
    in_list : (xs : List W) (at : ℕ) → changed at (λ w. w) xs ≡ xs
    in_list [] at = refl
    in_list (x ∷ xs) zero = refl
    in_list (x ∷ xs) (suc at) = ap (λ l. x ∷ l) (in_list xs at)

pub ordered : (n : ℕ) (ws : List W) → AreTimed n ws → IsOrdered (record { all = by_ticket n ws; next = n })
ordered n ws timed = record {
  rising = rises ws n;
  under = all_under ws n n (omega arith);
  apart = λ i j w v at_i at_j same.
      let a = place_is ws n i w at_i in
      let b = place_is ws n j v at_j in
      let there : Some w.1 ≡ Some v.1 = sym (at_its_key n ws timed i w at_i) ∙ ap (λ k. at_key k ws) (key_same w.0 v.0 same) ∙ at_its_key n ws timed j v at_j in
      a.place ∙ ap (λ (s : Waiter). length (by_ticket s.ticket ws)) (same_Some w.1 v.1 there) ∙ sym b.place;
}
