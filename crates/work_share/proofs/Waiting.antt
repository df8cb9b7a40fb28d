-- Who stands in line after any steps.
use Rattle.std.proofs.Common.{◌≡◌, ◌≢◌, ◌⊎◌, inl, inr, ℕ, Bool, true, false, List, [], ◌∷◌, cond, nat_eq, nat_lt, refl, sym, ◌∙◌, arith}
use Rattle.std.proofs.lemmas.Bool.{eqb-true, eqb-false}
use Rattle.work_share.specs.LineSteps.{TakeTurns, Waits, load_after}
use Rattle.work_share.specs.Loads.{appended, number_of, without}
use Rattle.work_share.specs.declared.load.Load.{Load}
use Rattle.work_share.specs.declared.load.LineStep.{LineStep}
use Rattle.work_share.specs.declared.load.LineStep.TheVariants.{Asks, Counts, Stands, Appends, Leaves}

-- the number of a client once another, or itself, stands in line no more
of_without : (c d : ℕ) (l : Load) → number_of c (without d l) ≡ cond (nat_eq c d) 0 (number_of c l)
of_without c d l = by (nat_eq c d) (nat_eq c l.holder) (nat_eq d l.holder) refl refl refl
  where
    by : (a b e : Bool) → nat_eq c d ≡ a → nat_eq c l.holder ≡ b → nat_eq d l.holder ≡ e → cond b (cond e 0 l.line) 0 ≡ cond a 0 (cond b l.line 0)
    by true true true p q r = refl
    by true true false p q r = absurd (eqb-false d l.holder r (omega (arith, eqb-true c d p, eqb-true c l.holder q)))
    by true false e p q r = refl
    by false true true p q r = absurd (eqb-false c d p (omega (arith, eqb-true c l.holder q, eqb-true d l.holder r)))
    by false true false p q r = refl
    by false false e p q r = refl

of_appended : (c d ticket sum : ℕ) (l : Load) → number_of c (appended d ticket sum l) ≡ number_of c (without d l)
of_appended c d ticket sum l = by (nat_lt 0 l.asked)
  where
    by : (b : Bool) → number_of c (cond b (record (without d l) { last = ticket; sum = sum }) (without d l)) ≡ number_of c (without d l)
    by true = refl
    by false = refl

-- another client's step leaves a number; its own takes it
left : (c d n : ℕ) → cond (nat_eq c d) 0 n ≢ 0 → (c ≢ d) × (n ≢ 0)
left c d n some = by (nat_eq c d) refl some
  where
    by : (b : Bool) → nat_eq c d ≡ b → cond b 0 n ≢ 0 → (c ≢ d) × (n ≢ 0)
    by true e some = absurd (some refl)
    by false e some = (eqb-false c d e, some)

stays : (c d n : ℕ) → c ≢ d → n ≢ 0 → cond (nat_eq c d) 0 n ≢ 0
stays c d n other some = by (nat_eq c d) refl
  where
    by : (b : Bool) → nat_eq c d ≡ b → cond b 0 n ≢ 0
    by true e = absurd (other (eqb-true c d e))
    by false e = some

pub stands : (c : ℕ) (steps : List LineStep) → number_of c (load_after steps) ≢ 0 → Waits c steps
stands c [] some = by (nat_eq c 0) some
  where
    by : (b : Bool) → ◌≢◌ {A = ℕ} (cond b 0 0) 0 → ⊥
    by true some = some refl
    by false some = some refl
stands c (Asks cost ∷ earlier) some = stands c earlier some
stands c (Counts sum ∷ earlier) some = stands c earlier some
stands c (Stands other number ∷ earlier) some = by (nat_eq c other) refl some
  where
    by : (b : Bool) → nat_eq c other ≡ b → cond b number 0 ≢ 0 → (c ≡ other) ⊎ Waits c earlier
    by true e some = inl (eqb-true c other e)
    by false e some = absurd (some refl)
stands c (Appends other ticket sum ∷ earlier) some =
    let l = load_after earlier in
    let both = left c other (number_of c l) (λ none. some (of_appended c other ticket sum l ∙ of_without c other l ∙ none)) in
    (both.0, stands c earlier both.1)
stands c (Leaves other ∷ earlier) some =
    let l = load_after earlier in
    let both = left c other (number_of c l) (λ none. some (of_without c other l ∙ none)) in
    (both.0, stands c earlier both.1)

pub keeps : (c : ℕ) (steps : List LineStep) → TakeTurns steps → Waits c steps → number_of c (load_after steps) ≢ 0
keeps c [] turns waits = absurd waits
keeps c (Asks cost ∷ earlier) turns waits = keeps c earlier turns.1 waits
keeps c (Counts sum ∷ earlier) turns waits = keeps c earlier turns.1 waits
keeps c (Stands other number ∷ earlier) turns (inl same) = by (nat_eq c other) refl
  where
    by : (b : Bool) → nat_eq c other ≡ b → cond b number 0 ≢ 0
    by true e = turns.0.0
    by false e = absurd (eqb-false c other e same)
keeps c (Stands other number ∷ earlier) turns (inr waited) = absurd (keeps c earlier turns.1 waited (none (nat_eq c (load_after earlier).holder)))
  where
    none : (b : Bool) → cond b (load_after earlier).line 0 ≡ 0
    none true = turns.0.1
    none false = refl
keeps c (Appends other ticket sum ∷ earlier) turns waits =
    let l = load_after earlier in
    λ none. stays c other (number_of c l) waits.0 (keeps c earlier turns.1 waits.1) (sym (of_appended c other ticket sum l ∙ of_without c other l) ∙ none)
keeps c (Leaves other ∷ earlier) turns waits =
    let l = load_after earlier in
    λ none. stays c other (number_of c l) waits.0 (keeps c earlier turns.1 waits.1) (sym (of_without c other l) ∙ none)
