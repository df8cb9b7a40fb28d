use Rattle.std.proofs.Common.{◌<◌, ap, arith, length, ltb, sym, ◌∙◌}
use Rattle.std.proofs.lemmas.Grind.{get_or_default_zero}
use Rattle.clients.proofs.lines.Waiting.is_over.Goals as goal

pub returns-in-Some : goal.returns-in-Some
returns-in-Some c =
    let e = sym c.first.ensures.first ∙ c.in-Some.is in
    let h : c.in-Some.first < length c.self.inside.marks.items = omega (arith, c.self.invariant, c.in-Some.ensures.client) in
    rw (← c.self.view_is, e) (ap (λ x. ltb x c.args.mark) (c.index.ensures ∙ get_or_default_zero _ _ _ h))
