use Rattle.std.proofs.Common.{◌∙◌, refl, sym, subst}
use Rattle.line_core.proofs.Inserted.{rising_inserted}
use Rattle.line_core.specs.Lines.{IsRising}
use Rattle.line_core.proofs.line.Line.put_back.Goals as goal

pub invariant_of-self-2 : goal.invariant_of-self-2
invariant_of-self-2 c =
    let place = rw (← c.self.view_is) at (c.place_from_front-place.ensures.place c.args.message refl) in
    subst IsRising (sym (c.in_ok-insert.ensures.items ∙ place)) (rising_inserted c.args.message c.self.inside.messages.items c.self.invariant)
