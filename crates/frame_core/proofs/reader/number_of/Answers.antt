use Rattle.std.proofs.Common.{◌≡◌, ◌≤◌, ◌∙◌, length, ap, sym, false, inl, Some, eqb, arith}
use Rattle.std.specs.List.{slice_get}
use Rattle.std.specs.Option.{option_eq}
use Rattle.frame_core.proofs.Numbers.{no_number}
use Rattle.frame_core.proofs.reader.number_of.Goals as goal

pub returns-in-Err : goal.returns-in-Err
returns-in-Err c =
    let text = c.args.text.now in
    let first = c.copied.ensures ∙ c.first.ensures.value ∙ ap (λ s. slice_get s 0) c.as_bytes.ensures.value in
    let plus : option_eq eqb (slice_get text 0) (Some 43) ≡ false = ap (λ o. option_eq eqb o (Some 43)) (sym first) ∙ sym c.eq.ensures ∙ c.if-eq.false in
    let short : length text ≤ 10 = omega arith in
    inl (no_number text plus short c.in-Err.ensures.value.0)
