use Rattle.std.proofs.Common.{◌≡◌, ◌<◌, ◌+◌, ◌++◌, ◌==◌, ◌||◌, List, [], ◌∷◌, ℕ, suc, zero, Bool, true, false, not, leb, cond, length, take, drop, get_or, refl, sym, ap, arith, eq-eqb, subst, Result, Ok, Err, OnOk, OnErr, ◌⊎◌, inl, inr}
use Rattle.std.specs.List.{AllByRecursion, filter, remove, sum_by}
use Rattle.std.specs.List.Sorted.{IsStrictlySortedBy}
use Rattle.std.specs.Map.{keys_of}
use Rattle.std.specs.Ordering.{nat_cmp}
use Rattle.std.specs.declared.cmp.Ordering.TheVariants.{Less}
use Rattle.std.proofs.lemmas.Bool.{eqb-true, le-leb, lt-leb}
use Rattle.std.proofs.lemmas.Cmp.{ranked}
use Rattle.std.proofs.lemmas.List.Filters.{length-filter_both, sum_by-filter_both}
use Rattle.std.proofs.lemmas.List.Kept.{IsStrictlySortedBy-filter}
use Rattle.std.proofs.lemmas.Map.Made.{keys_of-map_values}
use Rattle.std.specs.Cmp.{nat_cmp_is}
use Rattle.frame_core.proofs.Lists.{all_weaker}
use Rattle.command_core.specs.declared.command.AckMode.{AckMode}
use Rattle.command_core.specs.declared.command.AckMode.TheVariants.{Auto, Client, ClientIndividual}
use Rattle.line_core.specs.Flights.{IsOver, IsRising, StandsAt, has_delivery, mapped, settled, settles, unsettled}

less : (a b : ℕ) → nat_cmp a b ≡ Less → a < b
less a b is = ranked a b Less (sym is)

differ : (a b : ℕ) → (a ≡ b → ⊥) → (a == b) ≡ false
differ a b other =
    let cases : (t : Bool) → (a == b) ≡ t → (a == b) ≡ false = λ t. elim t as (λ u. (a == b) ≡ u → (a == b) ≡ false) [ true ↦ λ is. absurd (other (eqb-true a b is)) | false ↦ λ is. is ] in
    cases (a == b) refl

module _ {X : Type 0} where
  -- the numbers of what a test of the numbers leaves
  keys-filter : (test : ℕ → Bool) (flight : List (ℕ × X)) → keys_of (filter (λ (item : ℕ × X). test item.0) flight) ≡ filter test (keys_of flight)
  keys-filter test [] = refl
  keys-filter test (x ∷ flight) =
      elim (test x.0) as (λ b. keys_of (cond b (x ∷ filter (λ (item : ℕ × X). test item.0) flight) (filter (λ (item : ℕ × X). test item.0) flight)) ≡ cond b (x.0 ∷ filter test (keys_of flight)) (filter test (keys_of flight))) [ true ↦ ap (λ ks. x.0 ∷ ks) (keys-filter test flight) | false ↦ keys-filter test flight ]

  rising-filter : (test : ℕ → Bool) (flight : List (ℕ × X)) → IsRising flight → IsRising (filter (λ (item : ℕ × X). test item.0) flight)
  rising-filter test flight rising =
      rw (keys-filter test flight) (IsStrictlySortedBy-filter nat_cmp test (keys_of flight) rising)

  pub rising-settled : (mode : AckMode) (delivery : ℕ) (flight : List (ℕ × X)) → IsRising flight → IsRising (settled mode delivery flight)
  rising-settled mode delivery flight rising = rising-filter (λ n. settles mode delivery n) flight rising

  pub rising-unsettled : (mode : AckMode) (delivery : ℕ) (flight : List (ℕ × X)) → IsRising flight → IsRising (unsettled mode delivery flight)
  rising-unsettled mode delivery flight rising =
      rising-filter (λ n. not (settles mode delivery n)) flight rising

  pub length-settled : (mode : AckMode) (delivery : ℕ) (flight : List (ℕ × X)) → length (settled mode delivery flight) + length (unsettled mode delivery flight) ≡ length flight
  length-settled mode delivery flight =
      length-filter_both (λ (item : ℕ × X). settles mode delivery item.0) (λ item. not (settles mode delivery item.0)) (λ item. refl) flight

  pub sum_by-settled : (f : ℕ × X → ℕ) (mode : AckMode) (delivery : ℕ) (flight : List (ℕ × X)) → sum_by f (settled mode delivery flight) + sum_by f (unsettled mode delivery flight) ≡ sum_by f flight
  sum_by-settled f mode delivery flight =
      sum_by-filter_both (λ (item : ℕ × X). settles mode delivery item.0) (λ item. not (settles mode delivery item.0)) (λ item. refl) f flight

  all_keys_pushed : (P : ℕ → Type 0) (x : ℕ × X) (flight : List (ℕ × X)) → P x.0 → AllByRecursion P (keys_of flight) → AllByRecursion P (keys_of (flight ++ x ∷ []))
  all_keys_pushed P x [] new all = (new, tt)
  all_keys_pushed P x (y ∷ flight) new all = (all.0, all_keys_pushed P x flight new all.1)

  -- a flight with a delivery of the greatest number behind it still rises
  pub rising-pushed : (x : ℕ × X) (flight : List (ℕ × X)) → IsRising flight → IsOver x.0 flight → IsRising (flight ++ x ∷ [])
  unfolding IsStrictlySortedBy
  rising-pushed x [] rising over = (tt, tt)
  rising-pushed x (y ∷ flight) rising over =
      (all_keys_pushed (λ n. nat_cmp y.0 n ≡ Less) x flight (sym (nat_cmp_is y.0 x.0 Less over.0)) rising.0, rising-pushed x flight rising.1 over.1)

  -- a test that no number passes, and one that each passes
  keeps_none : (test : ℕ → Bool) (flight : List (ℕ × X)) → AllByRecursion (λ n. test n ≡ false) (keys_of flight) → filter (λ (item : ℕ × X). test item.0) flight ≡ []
  keeps_none test [] all = refl
  keeps_none test (x ∷ flight) all = rw all.0 (keeps_none test flight all.1)

  keeps_all : (test : ℕ → Bool) (flight : List (ℕ × X)) → AllByRecursion (λ n. test n ≡ true) (keys_of flight) → filter (λ (item : ℕ × X). test item.0) flight ≡ flight
  keeps_all test [] all = refl
  keeps_all test (x ∷ flight) all = rw all.0 (ap (λ l. x ∷ l) (keeps_all test flight all.1))

  all_keys_at : (P : ℕ → Type 0) (flight : List (ℕ × X)) (i : ℕ) (e : ℕ × X) → i < length flight → AllByRecursion P (keys_of flight) → P (get_or flight i e).0
  all_keys_at P [] i e inside all = absurd (omega arith)
  all_keys_at P (x ∷ flight) zero e inside all = all.0
  all_keys_at P (x ∷ flight) (suc i) e inside all = all_keys_at P flight i e (omega arith) all.1

  -- what follows a delivery in a rising flight has greater numbers
  all_after : (P : ℕ → Type 0) (x : ℕ × X) (d : ℕ) (flight : List (ℕ × X)) → x.0 ≡ d → ((n : ℕ) → d < n → P n) → AllByRecursion (λ n. nat_cmp x.0 n ≡ Less) (keys_of flight) → AllByRecursion P (keys_of flight)
  all_after P x d flight is each all =
      all_weaker (λ n. nat_cmp x.0 n ≡ Less) P (λ n above. each n (rw (← is) (less x.0 n above))) (keys_of flight) all

  module _ (d : ℕ) where
    later : (x : ℕ × X) (flight : List (ℕ × X)) (i : ℕ) → StandsAt (suc i) d (x ∷ flight) → StandsAt i d flight
    later x flight i at = (omega (arith, at.0), at.1)

    -- a delivery before another of a rising flight has a smaller number
    before : (x : ℕ × X) (flight : List (ℕ × X)) (i : ℕ) → StandsAt i d flight → AllByRecursion (λ n. nat_cmp x.0 n ≡ Less) (keys_of flight) → x.0 < d
    before x flight i at all =
        rw (← at.1 x) (less x.0 (get_or flight i x).0 (all_keys_at (λ n. nat_cmp x.0 n ≡ Less) flight i x at.0 all))

    -- the deliveries up to one, and those behind it
    pub settled-up_to : (flight : List (ℕ × X)) (i : ℕ) → StandsAt i d flight → IsRising flight → settled Client d flight ≡ take (suc i) flight
    unfolding IsStrictlySortedBy
    settled-up_to [] i at rising = absurd (omega (arith, at.0))
    settled-up_to (x ∷ flight) zero at rising =
        rw (le-leb x.0 d (omega (arith, at.1 x)), keeps_none (λ n. leb n d) flight (all_after (λ n. leb n d ≡ false) x d flight (at.1 x) (λ n above. lt-leb n d above) rising.0)) refl
    settled-up_to (x ∷ flight) (suc i) at rising =
        let rest = later x flight i at in
        rw (le-leb x.0 d (omega (arith, before x flight i rest rising.0))) (ap (λ l. x ∷ l) (settled-up_to flight i rest rising.1))

    pub unsettled-up_to : (flight : List (ℕ × X)) (i : ℕ) → StandsAt i d flight → IsRising flight → unsettled Client d flight ≡ drop (suc i) flight
    unfolding IsStrictlySortedBy
    unsettled-up_to [] i at rising = absurd (omega (arith, at.0))
    unsettled-up_to (x ∷ flight) zero at rising =
        rw (le-leb x.0 d (omega (arith, at.1 x))) (keeps_all (λ n. not (leb n d)) flight (all_after (λ n. not (leb n d) ≡ true) x d flight (at.1 x) (λ n above. ap not (lt-leb n d above)) rising.0))
    unsettled-up_to (x ∷ flight) (suc i) at rising =
        let rest = later x flight i at in
        rw (le-leb x.0 d (omega (arith, before x flight i rest rising.0))) (unsettled-up_to flight i rest rising.1)

    -- one delivery, and the others
    pub settled-alone : (flight : List (ℕ × X)) (i : ℕ) → StandsAt i d flight → IsRising flight → settled ClientIndividual d flight ≡ take 1 (drop i flight)
    unfolding IsStrictlySortedBy
    settled-alone [] i at rising = absurd (omega (arith, at.0))
    settled-alone (x ∷ flight) zero at rising =
        rw (eq-eqb x.0 d (at.1 x), keeps_none (λ n. n == d) flight (all_after (λ n. (n == d) ≡ false) x d flight (at.1 x) (λ n above. differ n d (λ same. omega arith)) rising.0)) refl
    settled-alone (x ∷ flight) (suc i) at rising =
        let rest = later x flight i at in
        rw (differ x.0 d (λ same. omega (arith, before x flight i rest rising.0))) (settled-alone flight i rest rising.1)

    pub unsettled-alone : (flight : List (ℕ × X)) (i : ℕ) → StandsAt i d flight → IsRising flight → unsettled ClientIndividual d flight ≡ remove flight i
    unfolding IsStrictlySortedBy
    unsettled-alone [] i at rising = absurd (omega (arith, at.0))
    unsettled-alone (x ∷ flight) zero at rising =
        rw (eq-eqb x.0 d (at.1 x)) (keeps_all (λ n. not (n == d)) flight (all_after (λ n. not (n == d) ≡ true) x d flight (at.1 x) (λ n above. ap not (differ n d (λ same. omega arith))) rising.0))
    unsettled-alone (x ∷ flight) (suc i) at rising =
        let rest = later x flight i at in
        rw (differ x.0 d (λ same. omega (arith, before x flight i rest rising.0))) (ap (λ l. x ∷ l) (unsettled-alone flight i rest rising.1))

  -- `auto`, under which nothing waits, settles as `client-individual` does
  pub settled-one_alone : (mode : AckMode) → (mode ≡ ClientIndividual) ⊎ (mode ≡ Auto) → (d : ℕ) (flight : List (ℕ × X)) → settled mode d flight ≡ settled ClientIndividual d flight
  settled-one_alone mode (inl is) d flight = ap (λ m. settled m d flight) is
  settled-one_alone mode (inr is) d flight = ap (λ m. settled m d flight) is

  pub unsettled-one_alone : (mode : AckMode) → (mode ≡ ClientIndividual) ⊎ (mode ≡ Auto) → (d : ℕ) (flight : List (ℕ × X)) → unsettled mode d flight ≡ unsettled ClientIndividual d flight
  unsettled-one_alone mode (inl is) d flight = ap (λ m. unsettled m d flight) is
  unsettled-one_alone mode (inr is) d flight = ap (λ m. unsettled m d flight) is

  -- what an acknowledgement leaves, or all where it came to nothing, still rises
  pub rising-after : {A E : Type 0} (r : Result A E) (mode : AckMode) (d : ℕ) (old new : List (ℕ × X)) → OnOk r (new ≡ unsettled mode d old) → OnErr r (new ≡ old) → IsRising old → IsRising new
  rising-after (Ok x) mode d old new ok err rising =
      subst IsRising (sym ok) (rising-unsettled mode d old rising)
  rising-after (Err e) mode d old new ok err rising = subst IsRising (sym err) rising

-- other items change nothing of that
module _ {X Y : Type 0} (f : X → Y) where
  pub has_delivery-mapped : (d : ℕ) (flight : List (ℕ × X)) → has_delivery d (mapped f flight) ≡ has_delivery d flight
  has_delivery-mapped d [] = refl
  has_delivery-mapped d (x ∷ flight) = ap (λ b. (x.0 == d) || b) (has_delivery-mapped d flight)

  filter-mapped : (test : ℕ → Bool) (flight : List (ℕ × X)) → filter (λ (item : ℕ × Y). test item.0) (mapped f flight) ≡ mapped f (filter (λ (item : ℕ × X). test item.0) flight)
  filter-mapped test [] = refl
  filter-mapped test (x ∷ flight) =
      elim (test x.0) as (λ b. cond b ((x.0, f x.1) ∷ filter (λ (item : ℕ × Y). test item.0) (mapped f flight)) (filter (λ (item : ℕ × Y). test item.0) (mapped f flight)) ≡ mapped f (cond b (x ∷ filter (λ (item : ℕ × X). test item.0) flight) (filter (λ (item : ℕ × X). test item.0) flight))) [ true ↦ ap (λ l. (x.0, f x.1) ∷ l) (filter-mapped test flight) | false ↦ filter-mapped test flight ]

  pub settled-mapped : (mode : AckMode) (d : ℕ) (flight : List (ℕ × X)) → settled mode d (mapped f flight) ≡ mapped f (settled mode d flight)
  settled-mapped mode d flight = filter-mapped (λ n. settles mode d n) flight

  pub unsettled-mapped : (mode : AckMode) (d : ℕ) (flight : List (ℕ × X)) → unsettled mode d (mapped f flight) ≡ mapped f (unsettled mode d flight)
  unsettled-mapped mode d flight = filter-mapped (λ n. not (settles mode d n)) flight

  pub rising-mapped : (flight : List (ℕ × X)) → IsRising flight → IsRising (mapped f flight)
  rising-mapped flight rising = rw (keys_of-map_values f flight) rising
