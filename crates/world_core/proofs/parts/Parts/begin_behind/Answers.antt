use Rattle.std.proofs.Common.{◌∙◌, ◌++◌, ℕ, List, ap, refl}
use Rattle.world_core.specs.Parts.{value_of}
use Rattle.world_core.proofs.Calling.{begun_is}
use Rattle.world_core.proofs.parts.Parts.begin_behind.Goals as goal

pub returns-clause-ok : goal.returns-clause-ok
returns-clause-ok c =
    let w = value_of c.args.self.now in (
      refl,
      c.begin.ensures ∙ begun_is w c.extend_from_slice.new.self.items c.args.broker.now.state (c.in_ok-extend_from_slice.ensures.items ∙ ap (λ (l : List ℕ). w.earlier ++ l) c.deref.ensures.value),
    )
