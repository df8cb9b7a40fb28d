use Rattle.std.proofs.Common.{◌≡◌, rules, subst}
use Rattle.std.specs.Arc.{arc_value}
use Rattle.server_core.specs.Serving.{AreAt}
use Rattle.server_core.proofs.serving.finish.Goals as goal

pub close-requires-clause-seats : goal.close-requires-clause-seats
close-requires-clause-seats g c =
    let same : (arc_value c.args.shared).ring ≡ c.in-Some.ring = search rules in
    subst (λ ring. AreAt ring c.join_all-joined.new.all.items) same (c.join_all-joined.ensures _ c.requires.seats c.requires.back)
