use Rattle.std.proofs.Common.{◌≡◌, ◌≤◌, List, ℕ, arith, get_or, length, sym, ap, ◌∙◌}
use Rattle.std.proofs.lemmas.Bool.{eqb-true}
use Rattle.session_core.proofs.Decimals.{not_empty, not_parsed, parsed, plus_first, zero_first}
use Rattle.session_core.proofs.requests.number_of.Goals.{else-first-eq48-via-then-first-eq48+else-bytes-gt1, else-first-eq48-via-else-first-eq48}
use Rattle.session_core.proofs.requests.number_of.Goals as goal

pub returns-then-is_empty : goal.returns-then-is_empty
returns-then-is_empty c = sym (not_empty c.args.text.now (ap (λ (t : List ℕ). length t) (sym c.as_bytes-bytes.ensures.value) ∙ eqb-true _ 0 (sym c.if-is_empty.ensures)))

pub returns-then-bytes-gt1 : goal.returns-then-bytes-gt1
returns-then-bytes-gt1 c = sym (zero_first c.args.text.now (ap (λ (t : List ℕ). get_or t 0 0) (sym c.as_bytes-bytes.ensures.value) ∙ c.if-first-eq48.true) (omega (arith, c.as_bytes-bytes.ensures.len, c.if-bytes-gt1.true)))

pub returns-then-first-eq43 : goal.returns-then-first-eq43
returns-then-first-eq43 c = sym (plus_first c.args.text.now (ap (λ (t : List ℕ). get_or t 0 0) (sym c.as_bytes-bytes.ensures.value) ∙ c.if-first-eq43.true))

pub returns-in-Ok : goal.returns-in-Ok
returns-in-Ok c =
    let first : get_or c.args.text.now 0 0 ≡ get_or c.as_bytes-bytes.result.now 0 0 = ap (λ (t : List ℕ). get_or t 0 0) (sym c.as_bytes-bytes.ensures.value) in
    let short : get_or c.args.text.now 0 0 ≡ 48 → length c.args.text.now ≤ 1 = λ zero. elim c.else-first-eq48.branch [
      | else-first-eq48-via-then-first-eq48+else-bytes-gt1 w ↦ omega (arith, c.as_bytes-bytes.ensures.len, w.if-bytes-gt1.false)
      | else-first-eq48-via-else-first-eq48 w ↦ absurd (w.if-first-eq48.false (sym first ∙ zero))
    ] in
    parsed c.args.text.now c.in-Ok.number (λ plus. c.if-first-eq43.false (sym first ∙ plus)) short c.in-Ok.ensures.value.0

pub returns-in-Err : goal.returns-in-Err
returns-in-Err c = sym (not_parsed c.args.text.now c.in-Err.field-0 c.in-Err.ensures.value.0)
