use Rattle.std.proofs.Common.{◌≡◌, ◌<◌, ◌≤◌, ◌+◌, ℕ, List, [], ◌∷◌, ◌++◌, Bool, true, false, not, ◌&&◌, nat_lt, nat_le, Option, Some, None, MatchOption, IfSome, ◌⊎◌, inl, inr, length, refl, sym, ap, ◌∙◌, arith, append_assoc, length-append}
use Rattle.std.specs.Char.{digit_value}
use Rattle.std.specs.Str.Parse.{IsNumeral, AllDigits, digits_value}
use Rattle.std.proofs.lemmas.Bool.{ne_eqb, eq-eqb, lt-ltb, le-ltb, le-leb, leb-true, ltb-true, and_from, and_parts, and_left, and_right, cases_Bool, both_ways, false_from_ne_true}
use Rattle.std.proofs.lemmas.List.{append-nil}
use Rattle.frame_core.specs.declared.frame.Frame.{Frame}
use Rattle.frame_core.specs.declared.frame.Verb.{Verb}
use Rattle.frame_core.specs.Verbs.{has_body}
use Rattle.frame_core.specs.Writable.{HasNoNul}
use Rattle.frame_core.specs.Spelling.{IsNumber, announced, Spells, IsWithinLimits}
use Rattle.frame_core.specs.Parts.{IsBoundedHead, Plans, IsPartOfBody}
use Rattle.frame_core.proofs.BodySteps.{IsWholeBody}
use Rattle.frame_core.proofs.Machine.{in_body, goes, gives, given, next, all_digits, is_number, plan_next, step, run, start}
use Rattle.frame_core.proofs.MachineHeads.{go_run, head_run}

digits_pass : (text : List ℕ) → AllDigits 10 text → all_digits text ≡ true
digits_pass [] h = refl
digits_pass (c ∷ text) h = and_from (nat_lt (digit_value c) 10) (all_digits text) (lt-ltb (digit_value c) 10 h.0) (digits_pass text h.1)

passes_digits : (text : List ℕ) → all_digits text ≡ true → AllDigits 10 text
passes_digits [] h = tt
passes_digits (c ∷ text) h = let p = and_parts (nat_lt (digit_value c) 10) (all_digits text) h in (ltb-true (digit_value c) 10 p.0, passes_digits text p.1)

pub number_passes : (text : List ℕ) → IsNumeral 10 text → length text ≤ 10 → is_number text ≡ true
number_passes text h le =
    and_from (nat_lt 0 (length text)) (all_digits text && nat_le (length text) 10) (lt-ltb 0 (length text) h.0)
    (and_from (all_digits text) (nat_le (length text) 10) (digits_pass text h.1) (le-leb (length text) 10 le))

pub number_fails : (text : List ℕ) → (IsNumeral 10 text → ⊥) ⊎ (10 < length text) → is_number text ≡ false
number_fails text h = false_from_ne_true (is_number text) (λ e.
    let p = and_parts (nat_lt 0 (length text)) (all_digits text && nat_le (length text) 10) e in
    let q = and_parts (all_digits text) (nat_le (length text) 10) p.1 in
    let short : length text ≤ 10 = leb-true (length text) 10 q.1 in
    elim h [ inl none ↦ none (ltb-true 0 (length text) p.0, passes_digits text q.0) | inr long ↦ absurd (omega arith) ])

-- whether a text is a number of one to ten digits is decided
pub number_read : (text : List ℕ) → (IsNumeral 10 text × (length text ≤ 10)) ⊎ ((IsNumeral 10 text → ⊥) ⊎ (10 < length text))
number_read text =
    elim (cases_Bool (is_number text)) [
      | inl e ↦
          let p = and_parts (nat_lt 0 (length text)) (all_digits text && nat_le (length text) 10) e in
          let q = and_parts (all_digits text) (nat_le (length text) 10) p.1 in
          inl ((ltb-true 0 (length text) p.0, passes_digits text q.0), leb-true (length text) 10 q.1)
      | inr e ↦ elim (cases_Bool (nat_le (length text) 10)) [
        | inl short ↦ inr (inl (λ numeral. false_from e (number_passes text numeral (leb-true (length text) 10 short))))
        | inr long ↦ inr (inr (omega (arith, λ (le : length text ≤ 10). false_from long (le-leb (length text) 10 le))))
      ]
    ]
  where
    false_from : {b : Bool} → b ≡ false → b ≡ true → ⊥
    false_from {b} refuted shown = both_ways b refuted shown

-- a body may stand there, or is empty
bare_test : (verb : Verb) (n : ℕ) → (has_body verb ≡ false → n ≡ 0) → (nat_lt 0 n && not (has_body verb)) ≡ false
bare_test verb n h =
    elim (cases_Bool (has_body verb)) [
      | inl e ↦ and_right (nat_lt 0 n) (not (has_body verb)) (ap not e)
      | inr e ↦ and_left (nat_lt 0 n) (not (has_body verb)) (le-ltb 0 n (omega (arith, h e)))
    ]

pub plans_next : (verb : Verb) (headers : List (List ℕ × List ℕ)) (plan : Option ℕ) → Plans verb headers plan → plan_next verb headers (announced headers) ≡ goes (in_body verb headers plan [])
plans_next verb headers None plans = ap (plan_next verb headers) plans
plans_next verb headers (Some n) plans =
    let value : digits_value 10 plans.text ≡ n = plans.number.1 in
    ap (plan_next verb headers) plans.announced
    ∙ rw (number_passes plans.text plans.number.0 plans.digits, value, le-ltb 65536 n plans.size, bare_test verb n plans.allowed) refl

counted_run : (verb : Verb) (headers : List (List ℕ × List ℕ)) (n : ℕ) (done body x : List ℕ) → length done + length body ≤ n
    → run (body ++ x) (in_body verb headers (Some n) done) ≡ run x (in_body verb headers (Some n) (done ++ body))
counted_run verb headers n done [] x le = ap (λ d. run x (in_body verb headers (Some n) d)) (sym (append-nil done))
counted_run verb headers n done (b ∷ body) x le =
    let more : step (in_body verb headers (Some n) done) b ≡ goes (in_body verb headers (Some n) (done ++ b ∷ [])) = rw (ne_eqb (length done) n (λ e. omega arith)) refl in
    go_run b (body ++ x) (in_body verb headers (Some n) done) (in_body verb headers (Some n) (done ++ b ∷ [])) more ∙ counted_run verb headers n (done ++ b ∷ []) body x (omega (arith, length-append done (b ∷ [])))
    ∙ ap (λ d. run x (in_body verb headers (Some n) d)) (append_assoc done (b ∷ []) body)

uncounted_run : (verb : Verb) (headers : List (List ℕ × List ℕ)) (done body x : List ℕ) → HasNoNul body → has_body verb ≡ true → length done + length body ≤ 65536
    → run (body ++ x) (in_body verb headers None done) ≡ run x (in_body verb headers None (done ++ body))
uncounted_run verb headers done [] x h allowed le = ap (λ d. run x (in_body verb headers None d)) (sym (append-nil done))
uncounted_run verb headers done (b ∷ body) x h allowed le =
    let more : step (in_body verb headers None done) b ≡ goes (in_body verb headers None (done ++ b ∷ [])) =
    rw (ne_eqb b 0 h.0, allowed, ne_eqb (length done) 65536 (λ e. omega arith)) refl in
    go_run b (body ++ x) (in_body verb headers None done) (in_body verb headers None (done ++ b ∷ [])) more ∙ uncounted_run verb headers (done ++ b ∷ []) body x h.1 allowed (omega (arith, length-append done (b ∷ [])))
    ∙ ap (λ d. run x (in_body verb headers None d)) (append_assoc done (b ∷ []) body)

-- a part of a body
pub body_run : (verb : Verb) (headers : List (List ℕ × List ℕ)) (plan : Option ℕ) (body x : List ℕ) → IsPartOfBody verb plan body
    → run (body ++ x) (in_body verb headers plan []) ≡ run x (in_body verb headers plan body)
body_run verb headers None body x part =
    elim (cases_Bool (has_body verb)) [
      | inl allowed ↦ uncounted_run verb headers [] body x part.0 allowed (omega (arith, part.1))
      | inr bare ↦ let none = part.2 bare in
          ap (λ z. run (z ++ x) (in_body verb headers None [])) none ∙ ap (λ z. run x (in_body verb headers None z)) (sym none)
    ]
body_run verb headers (Some n) body x part = counted_run verb headers n [] body x (omega (arith, part))

-- a whole head and a part of the body
pub head_body_run : (verb : Verb) (headers : List (List ℕ × List ℕ)) (plan : Option ℕ) (head body x : List ℕ) → IsBoundedHead verb headers head → Plans verb headers plan → IsPartOfBody verb plan body
    → run (head ++ (body ++ x)) start ≡ run x (in_body verb headers plan body)
head_body_run verb headers plan head body x bounded plans part =
    head_run verb headers head (body ++ x) bounded ∙ ap (λ n. next n (run (body ++ x)) (body ++ x)) (plans_next verb headers plan plans) ∙ body_run verb headers plan body x part

-- how a spelled body ends
spelled_plan : (verb : Verb) (headers : List (List ℕ × List ℕ)) (body : List ℕ) (o : Option (List ℕ)) → announced headers ≡ o → MatchOption o (HasNoNul body) (λ text. IsNumber text (length body)) → (has_body verb ≡ false → body ≡ [])
    → length body ≤ 65536 → IfSome o (λ text. length text ≤ 10) → (plan : Option ℕ) × Plans verb headers plan × IsPartOfBody verb plan body × IsWholeBody plan body
spelled_plan verb headers body None e ends allowed le short = (None, e, (ends, le, allowed), tt)
spelled_plan verb headers body (Some text) e ends allowed le short =
    (Some (length body), record { text = text; announced = e; number = ends; digits = short; size = le; allowed = λ bare. ap length (allowed bare) }, omega arith, refl)

nul_step : (verb : Verb) (headers : List (List ℕ × List ℕ)) (plan : Option ℕ) (body : List ℕ) → IsWholeBody plan body
    → step (in_body verb headers plan body) 0 ≡ gives (record { verb = verb; headers = headers; body = body })
nul_step verb headers None body whole = refl
nul_step verb headers (Some n) body whole = rw (eq-eqb (length body) n whole) refl

-- a spelling gives its frame
pub spelled_run : (bytes x : List ℕ) (frame : Frame) → Spells bytes frame → IsWithinLimits bytes frame → run (bytes ++ x) start ≡ given frame x
spelled_run bytes x frame h within =
    let body = frame.body in
    let n : length bytes ≡ length h.head + (length body + 1) = ap length h.whole ∙ length-append h.head (body ++ 0 ∷ []) ∙ ap (λ m. length h.head + m) (length-append body (0 ∷ [])) in
    let bounded : IsBoundedHead frame.verb frame.headers h.head = record { is_head = h.is_head; size = omega (arith, n, within.head); count = within.headers } in
    let p = spelled_plan frame.verb frame.headers body (announced frame.headers) refl h.has_body.ends h.has_body.allowed within.body within.digits in
    let spread : bytes ++ x ≡ h.head ++ (body ++ (0 ∷ x)) = ap (λ z. z ++ x) h.whole ∙ append_assoc h.head (body ++ 0 ∷ []) x ∙ ap (λ z. h.head ++ z) (append_assoc body (0 ∷ []) x) in
    ap (λ z. run z start) spread ∙ head_body_run frame.verb frame.headers p.0 h.head body (0 ∷ x) bounded p.1 p.2
    ∙ ap (λ m. next m (run x) x) (nul_step frame.verb frame.headers p.0 body p.3)
