use Rattle.std.proofs.Common.{◌≡◌, ◌==◌, ◌<◌, ◌≤◌, ◌⊎◌, List, [], ◌∷◌, ℕ, suc, zero, Bool, true, false, cond, drop, length, map, Option, Some, None, inl, inr, refl, sym, ap, subst, ◌∙◌, arith, slice_get}
use Rattle.std.specs.BTreeMap.{is_at}
use Rattle.std.specs.List.{AllByRecursion, sum_by}
use Rattle.std.specs.List.Sorted.{IsStrictlySortedBy}
use Rattle.std.specs.Map.{keys_of, lookup}
use Rattle.std.specs.Option.{option_map}
use Rattle.std.specs.Ordering.{nat_cmp}
use Rattle.std.specs.declared.cmp.Ordering.TheVariants.{Less}
use Rattle.std.proofs.lemmas.Bool.{cases_lt}
use Rattle.std.proofs.lemmas.Bool.Decides.{nat_tests}
use Rattle.std.proofs.lemmas.List.Sums.{sum_by-cons}
use Rattle.std.proofs.lemmas.Option.{none-some, same_Some}
use Rattle.broker_state.specs.declared.subscription.Subscription.{Subscription}
use Rattle.waiting_order.specs.declared.waiters.Key.{Key}
use Rattle.waiting_order.specs.Tickets.{IsRising}
use Rattle.waiting_order.specs.Waiting.{AreTimed, by_ticket, subs_of, waiter_at}
use Rattle.waiting_order.proofs.Timed.{W, has_ticket, in_order, place_is, rises, stands_there, ticket_of}

abbrev pub E : Type 0
E = ℕ × Key

abbrev pub at_number : ℕ → List E → Option Key
at_number t es = lookup (is_at (nat_cmp t)) es

abbrev pub number_of : E → ℕ
number_of e = e.0

abbrev pub listed : W → E
listed w = (w.1.ticket, w.0)

test_is : (t u : ℕ) → is_at (nat_cmp t) u ≡ (u == t)
test_is t u = grind (arith, nat_tests)

test_back : (t u : ℕ) → is_at (nat_cmp t) u ≡ (t == u)
test_back t u = grind (arith, nat_tests)

itself : (t : ℕ) → is_at (nat_cmp t) t ≡ true
itself t = grind (arith, nat_tests)

below : (t u : ℕ) → t < u → is_at (nat_cmp t) u ≡ false
below t u less = grind (arith, nat_tests)

less_of : (t u : ℕ) → nat_cmp t u ≡ Less → t < u
less_of t u is = grind (arith, nat_tests)

same_of : (t u : ℕ) → is_at (nat_cmp t) u ≡ true → t ≡ u
same_of t u is = grind (arith, nat_tests)

none_below : (t : ℕ) (es : List E) → AllByRecursion (λ e. t < number_of e) es → at_number t es ≡ None
none_below t [] all = refl
none_below t (e ∷ es) all = ap (λ b. cond b (Some e.1) (at_number t es)) (below t e.0 all.0) ∙ none_below t es all.1

weaker : (t u : ℕ) (es : List E) → t < u → AllByRecursion (λ e. u < number_of e) es → AllByRecursion (λ e. t < number_of e) es
weaker t u [] less all = tt
weaker t u (e ∷ es) less all = (omega (arith, less, all.0), weaker t u es less all.1)

at_head : (e : E) (es : List E) → at_number e.0 (e ∷ es) ≡ Some e.1
at_head e es = ap (λ b. cond b (Some e.1) (at_number e.0 es)) (itself e.0)

-- entries by rising number are the same where each number has the same
pub same_sorted : (es fs : List E) → IsRising number_of es → IsRising number_of fs → ((t : ℕ) → at_number t es ≡ at_number t fs) → es ≡ fs
same_sorted [] [] a b same = refl
same_sorted [] (f ∷ fs) a b same = absurd (none-some f.1 (same f.0 ∙ at_head f fs))
same_sorted (e ∷ es) [] a b same = absurd (none-some e.1 (sym (same e.0) ∙ at_head e es))
same_sorted (e ∷ es) (f ∷ fs) a b same =
    let rest = λ (e_is : e.0 ≡ f.0). same_sorted es fs a.1 b.1 (λ t. tails t e_is) in
    by (cases_lt e.0 f.0) rest
  where
    tails : (t : ℕ) → e.0 ≡ f.0 → at_number t es ≡ at_number t fs
    tails t number = split (is_at (nat_cmp t) e.0) refl
      where
        split : (c : Bool) → is_at (nat_cmp t) e.0 ≡ c → at_number t es ≡ at_number t fs
        split true is =
            let here = same_of t e.0 is in
            none_below t es (subst (λ u. AllByRecursion (λ x. u < number_of x) es) (sym here) a.0) ∙ sym (none_below t fs (subst (λ u. AllByRecursion (λ x. u < number_of x) fs) (sym (here ∙ number)) b.0))
        split false is =
            sym (ap (λ c. cond c (Some e.1) (at_number t es)) is) ∙ same t ∙ ap (λ c. cond c (Some f.1) (at_number t fs)) (sym (ap (λ u. is_at (nat_cmp t) u) number) ∙ is)

    value : e.0 ≡ f.0 → e.1 ≡ f.1
    value number = same_Some e.1 f.1 (sym (at_head e es) ∙ same e.0 ∙ ap (λ u. at_number u (f ∷ fs)) number ∙ at_head f fs)

    by : (e.0 < f.0) ⊎ (f.0 ≤ e.0) → (e.0 ≡ f.0 → es ≡ fs) → e ∷ es ≡ f ∷ fs
    by (inl less) rest =
        absurd (none-some e.1 (sym (none_below e.0 (f ∷ fs) (less, weaker e.0 f.0 fs less b.0)) ∙ sym (same e.0) ∙ at_head e es))
    by (inr le) rest = elim (cases_lt f.0 e.0) [
      | inl less ↦ absurd (none-some f.1 (sym (none_below f.0 (e ∷ es) (less, weaker f.0 e.0 es less a.0)) ∙ same f.0 ∙ at_head f fs))
      | inr ge ↦
          let number : e.0 ≡ f.0 = omega (arith, le, ge) in
          ap (λ x. (x, e.1) ∷ es) number ∙ ap (λ v. (f.0, v) ∷ es) (value number) ∙ ap (λ l. f ∷ l) (rest number)
    ]

pub rising_keys : (es : List E) → IsStrictlySortedBy nat_cmp (keys_of es) → IsRising number_of es
unfolding IsStrictlySortedBy
rising_keys [] sorted = tt
rising_keys (e ∷ es) sorted = (all_less es sorted.0, rising_keys es sorted.1)
  where
    all_less : (fs : List E) → AllByRecursion (λ u. nat_cmp e.0 u ≡ Less) (keys_of fs) → AllByRecursion (λ f. number_of e < number_of f) fs
    all_less [] all = tt
    all_less (f ∷ fs) all = (less_of e.0 f.0 all.0, all_less fs all.1)

pub rising_listed : (ws : List W) → IsRising ticket_of ws → IsRising number_of (map listed ws)
rising_listed [] rises = tt
rising_listed (w ∷ ws) rises = (all_listed ws rises.0, rising_listed ws rises.1)
  where
    all_listed : (vs : List W) → AllByRecursion (λ v. ticket_of w < ticket_of v) vs → AllByRecursion (λ e. number_of (listed w) < number_of e) (map listed vs)
    all_listed [] all = tt
    all_listed (v ∷ vs) all = (all.0, all_listed vs all.1)

abbrev pub key_at : ℕ → List W → Option Key
key_at t ws = option_map (λ (w : W). w.0) (waiter_at t ws)

cond_map : (b : Bool) (w : W) (o : Option W) → cond b (Some w.0) (option_map (λ (x : W). x.0) o) ≡ option_map (λ (x : W). x.0) (cond b (Some w) o)
cond_map true w o = refl
cond_map false w o = refl

pub number_listed : (t : ℕ) (ws : List W) → at_number t (map listed ws) ≡ key_at t ws
number_listed t [] = refl
number_listed t (w ∷ ws) =
    ap (λ b. cond b (Some w.0) (at_number t (map listed ws))) (test_is t w.1.ticket) ∙ ap (λ o. cond (w.1.ticket == t) (Some w.0) o) (number_listed t ws) ∙ cond_map (w.1.ticket == t) w (waiter_at t ws)

-- one waiter more at the front
pub key_more : (t : ℕ) (w : W) (ws : List W) → cond (is_at (nat_cmp w.1.ticket) t) (Some w.0) (key_at t ws) ≡ key_at t (w ∷ ws)
key_more t w ws =
    ap (λ b. cond b (Some w.0) (key_at t ws)) (test_back w.1.ticket t) ∙ cond_map (w.1.ticket == t) w (waiter_at t ws)

pub drop_there : (ws : List W) (i : ℕ) (w : W) → slice_get ws i ≡ Some w → drop i ws ≡ w ∷ drop (suc i) ws
drop_there [] i w is = absurd (none-some w is)
drop_there (v ∷ ws) zero w is = ap (λ x. x ∷ ws) (same_Some v w is)
drop_there (v ∷ ws) (suc i) w is = drop_there ws i w is

first_there : (ws : List W) (i : ℕ) (w : W) → IsRising ticket_of ws → slice_get ws i ≡ Some w → waiter_at w.1.ticket ws ≡ Some w
first_there [] i w rises is = absurd (none-some w is)
first_there (v ∷ ws) zero w rises is =
    ap (λ b. cond b (Some v) (waiter_at w.1.ticket ws)) (equal v.1.ticket w.1.ticket (ap ticket_of (same_Some v w is))) ∙ is
  where
    equal : (a b : ℕ) → a ≡ b → (a == b) ≡ true
    equal a b e = grind (arith, nat_tests)
first_there (v ∷ ws) (suc i) w rises is =
    ap (λ b. cond b (Some v) (waiter_at w.1.ticket ws)) (other v.1.ticket w.1.ticket (among ws i rises.0 is)) ∙ first_there ws i w rises.1 is
  where
    other : (a b : ℕ) → a < b → (a == b) ≡ false
    other a b less = grind (arith, nat_tests)

    among : (us : List W) (j : ℕ) → AllByRecursion (λ u. ticket_of v < ticket_of u) us → slice_get us j ≡ Some w → ticket_of v < ticket_of w
    among [] j all there = absurd (none-some w there)
    among (u ∷ us) zero all there = subst (λ (x : W). ticket_of v < ticket_of x) (same_Some u w there) all.0
    among (u ∷ us) (suc j) all there = among us j all.1 there

there_in : (t : ℕ) (ws : List W) (w : W) → waiter_at t ws ≡ Some w → (i : ℕ) × (slice_get ws i ≡ Some w)
there_in t [] w is = absurd (none-some w is)
there_in t (v ∷ ws) w is = by (v.1.ticket == t) is (λ there. there_in t ws w there)
  where
    by : (b : Bool) → cond b (Some v) (waiter_at t ws) ≡ Some w → (waiter_at t ws ≡ Some w → (i : ℕ) × (slice_get ws i ≡ Some w)) → (i : ℕ) × (slice_get (v ∷ ws) i ≡ Some w)
    by true there rest = (0, there)
    by false there rest = let r = rest there in (suc r.0, r.1)

-- the order has the waiters that there are
module _ (n : ℕ) (ws : List W) (timed : AreTimed n ws) where
  same_waiter : (t : ℕ) → waiter_at t (by_ticket n ws) ≡ waiter_at t ws
  same_waiter t = by (waiter_at t ws) refl (waiter_at t (by_ticket n ws)) refl
    where
      by : (a : Option W) → waiter_at t ws ≡ a → (b : Option W) → waiter_at t (by_ticket n ws) ≡ b → waiter_at t (by_ticket n ws) ≡ waiter_at t ws
      by None at_ws None at_order = at_order ∙ sym at_ws
      by None at_ws (Some w) at_order =
          let i = there_in t (by_ticket n ws) w at_order in
          let p = place_is ws n i.0 w i.1 in
          absurd (none-some w (sym at_ws ∙ ap (λ u. waiter_at u ws) (sym (has_ticket t (by_ticket n ws) w at_order)) ∙ p.waits))
      by (Some w) at_ws b at_order =
          let ticket = has_ticket t ws w at_ws in
          let p = in_order n ws timed w.0 w.1 (stands_there t ws w timed.unique at_ws) in
          ap (λ u. waiter_at u (by_ticket n ws)) (sym ticket) ∙ first_there (by_ticket n ws) p.0 w (rises ws n) p.1 ∙ sym at_ws

  pub all_listed : (es : List E) → IsStrictlySortedBy nat_cmp (keys_of es) → ((t : ℕ) → at_number t es ≡ key_at t ws) → es ≡ map listed (by_ticket n ws)
  all_listed es sorted same =
      same_sorted es (map listed (by_ticket n ws)) (rising_keys es sorted) (rising_listed (by_ticket n ws) (rises ws n))
      (λ t. same t ∙ ap (option_map (λ (w : W). w.0)) (sym (same_waiter t)) ∙ sym (number_listed t (by_ticket n ws)))

pub sum_subs : (f : Subscription → ℕ) (ws : List W) → sum_by f (subs_of ws) ≡ sum_by (λ (w : W). f w.1.sub) ws
sum_subs f [] = refl
sum_subs f (w ∷ ws) =
    omega (arith, sum_subs f ws, sum_by-cons f w.1.sub (subs_of ws), sum_by-cons (λ (x : W). f x.1.sub) w ws)

pub keys_listed : (ws : List W) → map (λ (e : E). e.1) (map listed ws) ≡ map (λ (w : W). w.0) ws
keys_listed [] = refl
keys_listed (w ∷ ws) = ap (λ l. w.0 ∷ l) (keys_listed ws)

-- where keys stand first, so do waiters
pub first_of_keys : (key : Key) (keys : List Key) (ws : List W) → key ∷ keys ≡ map (λ (w : W). w.0) ws → (w : W) × (vs : List W) × (ws ≡ w ∷ vs) × (w.0 ≡ key) × (keys ≡ map (λ (v : W). v.0) vs)
first_of_keys key keys [] is = absurd cc
first_of_keys key keys (w ∷ ws) is = (w, ws, refl, cc, cc)

-- where no key is left, no waiter is
pub no_keys : (ws : List W) → length (map (λ (w : W). w.0) ws) ≡ 0 → ws ≡ []
no_keys [] is = refl
no_keys (w ∷ ws) is = absurd (omega (arith, is))

-- the waiter at the front of what is left stands in the next place
pub at_drop : (n : ℕ) (ws : List W) (w : W) (vs : List W) → drop n ws ≡ w ∷ vs → (slice_get ws n ≡ Some w) × (drop (suc n) ws ≡ vs)
at_drop zero [] w vs is = absurd cc
at_drop zero (x ∷ ws) w vs is = (cc, cc)
at_drop (suc n) [] w vs is = absurd cc
at_drop (suc n) (x ∷ ws) w vs is = at_drop n ws w vs is
