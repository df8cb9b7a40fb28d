use Rattle.std.proofs.Common.{◌≡◌, ◌-◌, ◌∙◌, Bool, List, Some, true, slice_get, refl, ap, arith}
use Rattle.world_core.proofs.Telling.{fails_where}
use Rattle.world_core.proofs.parts.Parts.take.Goals as goal

pub overflow_sub-at : goal.overflow_sub-at
overflow_sub-at c = omega (arith, c.requires.begun, c.requires.marked, c.requires.stored)

pub returns-then-not-is_set : goal.returns-then-not-is_set
returns-then-not-is_set c r x =
    let at = c.args.self.now.taken - c.args.self.now.base in
    (λ may. fails_where c.is_set.result (slice_get c.deref.result.now at ≡ Some true) c.is_set.ensures.set c.if-not-is_set.true (ap (λ (l : List Bool). slice_get l at) c.deref.ensures.value ∙ may.1), refl)

pub overflow_add-self : goal.overflow_add-self
overflow_add-self c = omega (arith, c.requires.low, c.if-not-is_set.ensures.small refl)
