use Rattle.std.proofs.Common.{◌≡◌, Some, true, false, arith, sym, ◌∙◌, ap}
use Rattle.std.specs.Str.{bytes_eq}
use Rattle.frame_core.proofs.Lookups.{first_found, first_passed}
use Rattle.frame_core.proofs.frame.value_of.Goals as goal

pub returns-then-eq : goal.returns-then-eq
returns-then-eq c =
    let name = c.args.name.now in
    let headers = c.args.headers.now in
    let h = c.loop-key-item.result in
    let same : bytes_eq name h.0 ≡ true = ap (bytes_eq name) (sym c.as_str.ensures) ∙ sym c.eq.ensures ∙ c.if-eq.true in
    first_found name headers c.loop-key.key-index h (omega arith) c.loop-key-item.is same c.loop-key.invariant ∙ ap Some (sym c.as_str-then-eq.ensures)

pub loop-key-preserved : goal.loop-key-preserved
loop-key-preserved c =
    let name = c.args.name.now in
    let headers = c.args.headers.now in
    let h = c.loop-key-item.result in
    let other : bytes_eq name h.0 ≡ false = ap (bytes_eq name) (sym c.as_str.ensures) ∙ sym c.eq.ensures ∙ c.if-eq.false in
    first_passed name headers c.loop-key.key-index h (omega arith) c.loop-key-item.is other c.loop-key.invariant
