use Rattle.std.proofs.Common.{◌≡◌, ◌≤◌, ◌+◌, ◌++◌, ◌&&◌, ◌∷◌, ◌∙◌, [], Bool, Bor, List, None, Some, ℕ, true, false, ap, arith, cond, count_by, length, map, refl, slice_get, sym, take, unwrap_or}
use Rattle.std.proofs.lemmas.List.{take_all}
use Rattle.std.proofs.lemmas.List.Sums.{sum_by-append, sum_by-cons, sum_by_more, sum_by_more_le}
use Rattle.std.proofs.lemmas.Map.Lookups.{exact_unsigned}
use Rattle.std.proofs.lemmas.Option.{get_or_from_slice_get, slice_get_within}
use Rattle.std.specs.BTreeMap.{is_at}
use Rattle.std.specs.BTreeSet.{BTreeSet}
use Rattle.std.specs.Cmp.{IsTotalOrder}
use Rattle.std.specs.List.{list_any, sum_by}
use Rattle.std.specs.List.Sorted.{IsStrictlySortedBy}
use Rattle.std.specs.Map.{keys_of, lookup}
use Rattle.std.specs.Ordering.{is_eq, nat_cmp, ordering_reverse, ordering_then}
use Rattle.std.specs.declared.cmp.Ordering.{Ordering}
use Rattle.std.specs.declared.cmp.Ordering.TheVariants.{Less, Equal, Greater}
use Rattle.line_core.proofs.RisingLines.{by_number-total}
use Rattle.line_core.specs.Lines.{by_number, is_same}
use Rattle.line_core.specs.declared.message.MessageNumber.{MessageNumber}
use Rattle.line_core.specs.declared.message.Message.{Message}
use Rattle.broker_state.specs.Kept.{unacknowledged_by}
use Rattle.broker_state.specs.Names.{AreSame}
use Rattle.broker_state.specs.Seen.{count_of, seen_at, seen_cmp}
use Rattle.broker_state.specs.Waiting.{Lines, line_at}
use Rattle.broker_state.specs.declared.subscription.Subscription.{Subscription}
use Rattle.broker_state.proofs.KeyedLines.{absent_behind}
use Rattle.broker_state.proofs.Keys.{eq_parts}
use Rattle.broker_state.proofs.Lookups.{is_equal}

is_eq-reverse : (o : Ordering) → is_eq (ordering_reverse o) ≡ is_eq o
is_eq-reverse Less = refl
is_eq-reverse Equal = refl
is_eq-reverse Greater = refl

own_reverse : (o : Ordering) → o ≡ ordering_reverse o → is_eq o ≡ true
own_reverse Less is = absurd cc
own_reverse Equal is = refl
own_reverse Greater is = absurd cc

module _ {K : Type 0} (cmp : K → K → Ordering) (total : IsTotalOrder cmp) where
  pub itself : (k : K) → is_eq (cmp k k) ≡ true
  itself k = own_reverse (cmp k k) (total.antisymm k k)

  pub turned : (a b : K) → is_eq (cmp a b) ≡ is_eq (cmp b a)
  turned a b = ap is_eq (total.antisymm a b) ∙ is_eq-reverse (cmp b a)

number_parts : (a b : MessageNumber) (o p : Ordering) → nat_cmp a.command b.command ≡ o → nat_cmp a.place b.place ≡ p → ordering_then o p ≡ Equal → a ≡ b
number_parts a b Less p first second is = absurd cc
number_parts a b Equal Less first second is = absurd cc
number_parts a b Equal Equal first second is =
    ap (λ x. record { command = x; place = a.place }) (exact_unsigned a.command b.command first) ∙ ap (λ y. record { command = b.command; place = y }) (exact_unsigned a.place b.place second)
number_parts a b Equal Greater first second is = absurd cc
number_parts a b Greater p first second is = absurd cc

-- numbers that compare as equal are the same
pub same_numbers : AreSame by_number
same_numbers a b is = number_parts a b (nat_cmp a.command b.command) (nat_cmp a.place b.place) refl refl is

noted_then : (a b o : Bool) → (a ≡ true → b ≡ true → o ≡ false) → cond (cond (a && b) true o) 1 0 ≡ cond o 1 0 + cond a (cond b 1 0) 0
noted_then true true o fresh = ap (λ x. cond x 1 0 + 1) (sym (fresh refl refl))
noted_then true false o fresh = omega arith
noted_then false b o fresh = omega arith

added_up : (a : Bool) (s x y z : ℕ) → z ≡ x + y → (s + cond a x 0) + cond a y 0 ≡ s + cond a z 0
added_up true s x y z is = omega (arith, is)
added_up false s x y z is = omega arith

module _ {K : Type 0} (cmp : K → K → Ordering) (total : IsTotalOrder cmp) (same : AreSame cmp) where
  -- one more number under a key
  module _ (k : K) (i : MessageNumber) (old new : K → MessageNumber → Bool) (fresh : old k i ≡ false) (more : (q : K) (n : MessageNumber) → new q n ≡ cond (is_eq (ordering_then (cmp k q) (by_number i n))) true (old q n)) where
    one_noted : (q : K) (n : MessageNumber) → cond (new q n) 1 0 ≡ cond (old q n) 1 0 + cond (is_eq (cmp q k)) (cond (is_same n i) 1 0) 0
    one_noted q n =
        ap (λ b. cond b 1 0) (more q n ∙ ap (λ b. cond b true (old q n)) (eq_parts (cmp k q) (by_number i n)))
        ∙ noted_then (is_eq (cmp k q)) (is_eq (by_number i n)) (old q n) (λ a b. ap (λ x. old x n) (sym (same k q (is_equal _ a))) ∙ ap (λ y. old k y) (sym (same_numbers i n (is_equal _ b))) ∙ fresh)
        ∙ ap (λ a. cond (old q n) 1 0 + cond a (cond (is_eq (by_number i n)) 1 0) 0) (turned cmp total k q)
        ∙ ap (λ b. cond (old q n) 1 0 + cond (is_eq (cmp q k)) (cond b 1 0) 0) (turned by_number by_number-total i n)

    -- where the numbers so far are noted under the key, they are with this one more
    pub number_noted : (start : K → MessageNumber → ℕ) (f g : MessageNumber → ℕ) → ((n : MessageNumber) → g n ≡ f n + cond (is_same n i) 1 0) → ((q : K) (n : MessageNumber) → cond (old q n) 1 0 ≡ start q n + cond (is_eq (cmp q k)) (f n) 0) → (q : K) (n : MessageNumber) → cond (new q n) 1 0 ≡ start q n + cond (is_eq (cmp q k)) (g n) 0
    number_noted start f g grows noted q n =
        one_noted q n ∙ ap (λ s. s + cond (is_eq (cmp q k)) (cond (is_same n i) 1 0) 0) (noted q n) ∙ added_up (is_eq (cmp q k)) (start q n) (f n) (cond (is_same n i) 1 0) (g n) (grows n)

  -- what was noted under the key itself
  pub under_key : (k : K) (s x t : ℕ) → t ≡ s + cond (is_eq (cmp k k)) x 0 → t ≡ s + x
  under_key k s x t is = is ∙ ap (λ b. s + cond b x 0) (itself cmp total k)

  -- a key's line, where it is the first one or behind it
  line_first_by : (n : MessageNumber) (q key : K) (line : List Message) (rest : Lines K) (b : Bool) → is_at (cmp q) key ≡ b → (b ≡ true → lookup (is_at (cmp q)) rest ≡ None) → cond b (count_of n line) 0 + count_of n (line_at cmp q rest) ≡ count_of n (unwrap_or (cond b (Some line) (lookup (is_at (cmp q)) rest)) [])
  line_first_by n q key line rest true is none = ap (λ o. count_of n line + count_of n (unwrap_or o [])) (none refl) ∙ omega arith
  line_first_by n q key line rest false is none = omega arith

  pub line_first : (n : MessageNumber) (q key : K) (line : List Message) (rest : Lines K) → IsStrictlySortedBy cmp (keys_of ((key, line) ∷ rest)) → cond (is_at (cmp q) key) (count_of n line) 0 + count_of n (line_at cmp q rest) ≡ count_of n (line_at cmp q ((key, line) ∷ rest))
  unfolding IsStrictlySortedBy
  line_first n q key line rest rising =
      line_first_by n q key line rest (is_at (cmp q) key) refl (λ b. ap (λ k. lookup (is_at (cmp k)) rest) (same q key (is_equal _ b)) ∙ absent_behind cmp total same key rest rising.0)

  pub rising_rest : (key : K) (line : List Message) (rest : Lines K) → IsStrictlySortedBy cmp (keys_of ((key, line) ∷ rest)) → IsStrictlySortedBy cmp (keys_of rest)
  unfolding IsStrictlySortedBy
  rising_rest key line rest rising = rising.1

  pub first_line : (n : MessageNumber) (key : K) (line : List Message) (rest : Lines K) → count_of n (line_at cmp key ((key, line) ∷ rest)) ≡ count_of n line
  first_line n key line rest = ap (λ b. count_of n (unwrap_or (cond b (Some line) (lookup (is_at (cmp key)) rest)) [])) (itself cmp total key)

-- one more item counts for itself
pub counted_more : {X : Type 0} (p : X → Bool) (xs : List X) (at : ℕ) (x : X) → slice_get xs at ≡ Some x → count_by p (take (at + 1) xs) ≡ count_by p (take at xs) + cond (p x) 1 0
counted_more p xs at x is =
    sum_by_more (λ y. cond (p y) 1 0) xs at x (slice_get_within xs at x is) ∙ ap (λ y. count_by p (take at xs) + cond (p y) 1 0) (get_or_from_slice_get xs at x x is)

pub count_both : (n : MessageNumber) (xs ys : List Message) → count_of n (xs ++ ys) ≡ count_of n xs + count_of n ys
count_both n xs ys = sum_by-append (λ m. cond (is_same n m.number) 1 0) xs ys

abbrev pub in_flight : MessageNumber → List (ℕ × Message) → ℕ
in_flight n flight = count_by (λ d. is_same n d.1.number) flight

pub count_flight : (n : MessageNumber) (flight : List (ℕ × Message)) → count_of n (map (λ (d : ℕ × Message). d.1) flight) ≡ in_flight n flight
count_flight n [] = refl
count_flight n (d ∷ flight) =
    sum_by-cons (λ (m : Message). cond (is_same n m.number) 1 0) d.1 (map (λ (x : ℕ × Message). x.1) flight) ∙ ap (λ x. cond (is_same n d.1.number) 1 0 + x) (count_flight n flight) ∙ sym (sum_by-cons (λ (x : ℕ × Message). cond (is_same n x.1.number) 1 0) d flight)

-- what such subscriptions have not acknowledged, one after another
module _ (such : Subscription → Bool) (n : MessageNumber) where
  abbrev of_one : Subscription → ℕ
  of_one sub = cond (such sub) (in_flight n sub.unacknowledged) 0

  count_one : (b : Bool) (flight : List (ℕ × Message)) → count_of n (cond b (map (λ (d : ℕ × Message). d.1) flight) []) ≡ cond b (in_flight n flight) 0
  count_one true flight = count_flight n flight
  count_one false flight = refl

  count_unacknowledged : (subs : List Subscription) → count_of n (unacknowledged_by such subs) ≡ sum_by of_one subs
  count_unacknowledged [] = refl
  count_unacknowledged (sub ∷ subs) =
      count_both n (cond (such sub) (map (λ (d : ℕ × Message). d.1) sub.unacknowledged) []) (unacknowledged_by such subs) ∙ ap (λ x. x + count_of n (unacknowledged_by such subs)) (count_one (such sub) sub.unacknowledged) ∙ ap (λ x. of_one sub + x) (count_unacknowledged subs) ∙ sym (sum_by-cons of_one sub subs)

  module _ (subs : List Subscription) (at : ℕ) (sub : Subscription) (is : slice_get subs at ≡ Some sub) where
    pub unacknowledged_more : count_of n (unacknowledged_by such (take (at + 1) subs)) ≡ count_of n (unacknowledged_by such (take at subs)) + cond (such sub) (in_flight n sub.unacknowledged) 0
    unacknowledged_more =
        count_unacknowledged (take (at + 1) subs) ∙ sum_by_more of_one subs at sub (slice_get_within subs at sub is) ∙ ap (λ x. sum_by of_one (take at subs) + of_one x) (get_or_from_slice_get subs at sub sub is) ∙ ap (λ x. x + of_one sub) (sym (count_unacknowledged (take at subs)))

    pub unacknowledged_part : count_of n (unacknowledged_by such (take at subs)) + cond (such sub) (in_flight n sub.unacknowledged) 0 ≤ count_of n (unacknowledged_by such subs)
    unacknowledged_part =
        omega (arith, count_unacknowledged (take at subs), count_unacknowledged subs, sum_by_more_le of_one subs at sub (slice_get_within subs at sub is), ap of_one (get_or_from_slice_get subs at sub sub is))

  pub unacknowledged_all : (subs : List Subscription) (at : ℕ) → length subs ≤ at → count_of n (unacknowledged_by such (take at subs)) ≡ count_of n (unacknowledged_by such subs)
  unacknowledged_all subs at past = ap (λ l. count_of n (unacknowledged_by such l)) (take_all at subs past)

-- nothing was seen at first
pub nothing_seen : {K : Type 0} (cmp : K → K → Ordering) (seen : BTreeSet (Bor K × MessageNumber)) → seen.keys ≡ [] → (q : K) (n : MessageNumber) → seen_at cmp seen q n ≡ 0
nothing_seen {K} cmp seen none q n =
    ap (λ keys. cond (list_any (λ k. is_eq (seen_cmp cmp (record { ref_ptr = (0, 0); now = q }, n) k)) keys) 1 0) none
