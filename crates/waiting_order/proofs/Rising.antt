use Rattle.std.proofs.Common.{◌≡◌, ◌==◌, ◌<◌, ◌≤◌, ◌+◌, ◌++◌, List, [], ◌∷◌, ℕ, suc, zero, true, false, cond, length, not, Some, inl, inr, refl, sym, ap, subst, ◌∙◌, arith, remove, slice_get}
use Rattle.std.specs.List.{AllByRecursion}
use Rattle.std.proofs.lemmas.Bool.Decides.{nat_tests}
use Rattle.std.proofs.lemmas.Bool.{cases_lt}
use Rattle.std.proofs.lemmas.Option.{none-some, same_Some, slice_get_within}
use Rattle.frame_core.proofs.Lists.{all_push, all_weaker}
use Rattle.broker_state.proofs.Ending.{filter-all_others}
use Rattle.broker_state.proofs.Firsts.{found}
use Rattle.broker_state.proofs.Weights.{all_at, all_removed}
use Rattle.waiting_order.specs.declared.groups.Place.{Place}
use Rattle.waiting_order.specs.Tickets.{HasTicket, IsIndexOf, IsRising, without}

-- what holds in each place holds of all
pub all_places : {X : Type 0} (P : X → Type 0) (xs : List X) → ((i : ℕ) (x : X) → slice_get xs i ≡ Some x → P x) → AllByRecursion P xs
all_places P [] each = tt
all_places P (x ∷ xs) each = (each 0 x refl, all_places P xs (λ i y is. each (suc i) y is))

module _ {X : Type 0} (n : X → ℕ) where
  -- of two places the further one has the greater number
  pub rising_at : (xs : List X) (i j : ℕ) (x y : X) → IsRising n xs → slice_get xs i ≡ Some x → slice_get xs j ≡ Some y → i < j → n x < n y
  rising_at [] i j x y rising at_i at_j less = absurd (none-some x at_i)
  rising_at (z ∷ xs) zero zero x y rising at_i at_j less = absurd (omega (arith, less))
  rising_at (z ∷ xs) zero (suc j) x y rising at_i at_j less =
      subst (λ w. n w < n y) (same_Some z x at_i) (all_at (λ w. n z < n w) xs j y at_j rising.0)
  rising_at (z ∷ xs) (suc i) zero x y rising at_i at_j less = absurd (omega (arith, less))
  rising_at (z ∷ xs) (suc i) (suc j) x y rising at_i at_j less =
      rising_at xs i j x y rising.1 at_i at_j (omega (arith, less))

  -- in no place behind stands a lesser one
  pub rising_from : (xs : List X) (i j : ℕ) (x y : X) → IsRising n xs → slice_get xs i ≡ Some x → slice_get xs j ≡ Some y → i ≤ j → n x ≤ n y
  rising_from xs i j x y rising at_i at_j le =
      elim (cases_lt i j) [ inl less ↦ omega (arith, rising_at xs i j x y rising at_i at_j less) | inr more ↦ same (omega (arith, le, more)) ]
    where
      same : i ≡ j → n x ≤ n y
      same e =
          let it : n x ≡ n y = ap n (same_Some x y (sym at_i ∙ ap (slice_get xs) e ∙ at_j)) in
          omega (arith, it)

  -- where the numbers are the same, so are the places
  pub rising_same : (xs : List X) (i j : ℕ) (x y : X) → IsRising n xs → slice_get xs i ≡ Some x → slice_get xs j ≡ Some y → n x ≡ n y → i ≡ j
  rising_same xs i j x y rising at_i at_j same =
      elim (cases_lt i j) [
        | inl less ↦ absurd (omega (arith, same, rising_at xs i j x y rising at_i at_j less))
        | inr ge ↦ elim (cases_lt j i) [ inl more ↦ absurd (omega (arith, same, rising_at xs j i y x rising at_j at_i more)) | inr le ↦ omega (arith, ge, le) ]
      ]

  -- and the other way round
  pub rising_before : (xs : List X) (i j : ℕ) (x y : X) → IsRising n xs → slice_get xs i ≡ Some x → slice_get xs j ≡ Some y → n x < n y → i < j
  rising_before xs i j x y rising at_i at_j less =
      elim (cases_lt i j) [ inl before ↦ before | inr behind ↦ absurd (omega (arith, less, rising_from xs j i y x rising at_j at_i behind)) ]

  -- they still rise after one is taken out, and after one over all joins
  pub rising_removed : (xs : List X) (at : ℕ) → IsRising n xs → IsRising n (remove xs at)
  rising_removed [] zero rising = tt
  rising_removed [] (suc at) rising = tt
  rising_removed (x ∷ xs) zero rising = rising.1
  rising_removed (x ∷ xs) (suc at) rising =
      (all_removed (λ y. n x < n y) xs at rising.0, rising_removed xs at rising.1)

  pub rising_pushed : (xs : List X) (x : X) → IsRising n xs → AllByRecursion (λ y. n y < n x) xs → IsRising n (xs ++ x ∷ [])
  rising_pushed [] x rising under = (tt, tt)
  rising_pushed (y ∷ xs) x rising under =
      (all_push (λ z. n y < n z) xs x rising.0 under.0, rising_pushed xs x rising.1 under.1)

abbrev pub ticket : Place → ℕ
ticket p = p.ticket

itself : (t u : ℕ) → u ≡ t → (u == t) ≡ true
itself t u same = grind (arith, nat_tests)

under_it : (t u : ℕ) → u < t → (u == t) ≡ false
under_it t u less = grind (arith, nat_tests)

over_it : (t u : ℕ) → t < u → (u == t) ≡ false
over_it t u more = grind (arith, nat_tests)

-- without a ticket that is under all, all stay
without_over : (t : ℕ) (ps : List Place) → AllByRecursion (λ p. t < ticket p) ps → without t ps ≡ ps
without_over t ps over =
    filter-all_others (λ (p : Place). p.ticket == t) ps (all_weaker (λ p. t < ticket p) (λ (p : Place). (p.ticket == t) ≡ false) (λ p less. over_it t p.ticket less) ps over)

pub without_first : (t : ℕ) (p : Place) (ps : List Place) → p.ticket ≡ t → without t (p ∷ ps) ≡ without t ps
without_first t p ps is = ap (λ b. cond (not b) (p ∷ without t ps) (without t ps)) (itself t p.ticket is)

pub without_behind : (t : ℕ) (p : Place) (ps : List Place) → p.ticket < t → without t (p ∷ ps) ≡ p ∷ without t ps
without_behind t p ps less = ap (λ b. cond (not b) (p ∷ without t ps) (without t ps)) (under_it t p.ticket less)

pub removed_without : (ps : List Place) (at t : ℕ) (p : Place) → IsRising ticket ps → slice_get ps at ≡ Some p → p.ticket ≡ t → remove ps at ≡ without t ps
removed_without [] at t p rising is same = absurd (none-some p is)
removed_without (q ∷ ps) zero t p rising is same =
    let it : q.ticket ≡ t = ap ticket (same_Some q p is) ∙ same in
    sym (without_first t q ps it ∙ without_over t ps (all_weaker (λ r. q.ticket < ticket r) (λ r. t < ticket r) (λ r less. omega (arith, less, it)) ps rising.0))
removed_without (q ∷ ps) (suc at) t p rising is same =
    let less : q.ticket < p.ticket = all_at (λ r. q.ticket < ticket r) ps at p is rising.0 in
    ap (λ l. q ∷ l) (removed_without ps at t p rising.1 is same) ∙ sym (without_behind t q ps (omega (arith, less, same)))

-- a ticket that is in no place
pub without_none : (ps : List Place) (t : ℕ) → ((i : ℕ) (p : Place) → slice_get ps i ≡ Some p → (p.ticket == t) ≡ false) → ps ≡ without t ps
without_none ps t each =
    sym (filter-all_others (λ (p : Place). p.ticket == t) ps (all_places (λ (p : Place). (p.ticket == t) ≡ false) ps each))

module _ (ps : List Place) (rising : IsRising ticket ps) (t at : ℕ) (index : IsIndexOf ps t at) where
  -- where a ticket is there, it is at its index
  pub index_there : HasTicket t ps → (p : Place) × (slice_get ps at ≡ Some p) × (p.ticket ≡ t)
  index_there has =
      let i = has.0 in
      let p = has.1 in
      let is = has.2 in
      let same : p.ticket ≡ t = has.3 in
      let le : at ≤ i = elim (cases_lt i at) [ inl less ↦ absurd (omega (arith, same, index.under i p is less)) | inr more ↦ more ] in
      let q = found ps at (omega (arith, le, slice_get_within ps i p is)) in
      (q.0, q.1, omega (arith, same, index.over at q.0 q.1 (omega arith), rising_from ticket ps at i q.0 p rising q.1 is le))

  -- and else nowhere
  pub index_none : ((p : Place) → slice_get ps at ≡ Some p → (p.ticket == t) ≡ false) → ps ≡ without t ps
  index_none fails =
      without_none ps t (λ i p is. elim (cases_lt i at) [ inl less ↦ under_it t p.ticket (index.under i p is less) | inr more ↦ behind i p is more ])
    where
      apart : (a b : ℕ) → a ≤ b → (b == a) ≡ false → a < b
      apart a b le not = grind (arith, nat_tests)

      behind : (i : ℕ) (p : Place) → slice_get ps i ≡ Some p → at ≤ i → (p.ticket == t) ≡ false
      behind i p is more =
          let q = found ps at (omega (arith, more, slice_get_within ps i p is)) in
          let over : t < q.0.ticket = apart t q.0.ticket (index.over at q.0 q.1 (omega arith)) (fails q.0 q.1) in
          over_it t p.ticket (omega (arith, over, rising_from ticket ps at i q.0 p rising q.1 is more))

-- a half more is under or over
module _ (ps : List Place) (rising : IsRising ticket ps) (t m : ℕ) (p : Place) (is : slice_get ps m ≡ Some p) where
  pub half_under : p.ticket < t → (i : ℕ) (q : Place) → slice_get ps i ≡ Some q → i < m + 1 → q.ticket < t
  half_under less i q there before =
      omega (arith, less, rising_from ticket ps i m q p rising there is (omega (arith, before)))

  pub half_over : t ≤ p.ticket → (i : ℕ) (q : Place) → slice_get ps i ≡ Some q → m ≤ i → t ≤ q.ticket
  half_over more i q there after =
      omega (arith, more, rising_from ticket ps m i p q rising is there after)

-- rising numbers under a bound are no more than it
module _ {X : Type 0} (n : X → ℕ) where
  rising_over : (xs : List X) (low high : ℕ) → IsRising n xs → AllByRecursion (λ y. low ≤ n y) xs → AllByRecursion (λ y. n y < high) xs → low ≤ high → low + length xs ≤ high
  rising_over [] low high rising over under le = omega (arith, le)
  rising_over (x ∷ xs) low high rising over under le =
      let rest = rising_over xs (n x + 1) high rising.1 (all_weaker (λ y. n x < n y) (λ y. n x + 1 ≤ n y) (λ y less. omega (arith, less)) xs rising.0) under.1 (omega (arith, under.0)) in
      omega (arith, rest, over.0)

  pub rising_few : (xs : List X) (high : ℕ) → IsRising n xs → AllByRecursion (λ y. n y < high) xs → length xs ≤ high
  rising_few xs high rising under = omega (arith, rising_over xs 0 high rising (all_over xs) under (omega arith))
    where
      all_over : (ys : List X) → AllByRecursion (λ y. 0 ≤ n y) ys
      all_over [] = tt
      all_over (y ∷ ys) = (omega arith, all_over ys)
