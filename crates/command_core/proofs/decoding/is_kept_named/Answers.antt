use Rattle.std.proofs.Common.{◌≡◌, ◌&&◌, Bool, true, ltb, length, sym, ap, ◌∙◌, arith}
use Rattle.std.proofs.lemmas.Bool.{eqb-false, lt-ltb}
use Rattle.command_core.specs.Sendings.{is_kept}
use Rattle.command_core.proofs.decoding.is_kept_named.Goals as goal

pub returns-then-not-is_empty : goal.returns-then-not-is_empty
returns-then-not-is_empty c =
    let name = c.args.name.now in
    let some = eqb-false (length name) 0 (sym c.is_empty.ensures ∙ c.if-not-is_empty.true) in
    let named : ltb 0 (length name) ≡ true = lt-ltb 0 (length name) (omega (arith, some)) in
    c.is_kept_name.ensures ∙ ap (λ (b : Bool). b && is_kept name) (sym named)
