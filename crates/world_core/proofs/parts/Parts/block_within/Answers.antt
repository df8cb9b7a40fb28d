use Rattle.std.proofs.Common.{◌∙◌, Bool, ap, arith}
use Rattle.area_core.specs.Journals.{start}
use Rattle.world_core.proofs.parts.Parts.block_within.Goals as goal

pub returns-then-gate-records-clause-none : goal.returns-then-gate-records-clause-none
returns-then-gate-records-clause-none c none = omega (arith, c.if-gate-records.true)

pub returns-clause-some : goal.returns-clause-some
returns-clause-some c =
    let begins = c.area_begins-begins.ensures.at ∙ ap (λ (b : Bool). start c.args.self.now.size b) c.is_second_live.ensures in
    (omega (arith, c.in_ok-patch.ensures.at, begins), c.in_ok-patch.ensures.bytes, omega (arith, c.if-gate-records.false))
