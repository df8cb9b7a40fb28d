use Rattle.std.proofs.Common.{◌≡◌, ◌+◌, ◌∙◌, ap, arith}
use Rattle.std.proofs.lemmas.List.{length-map}
use Rattle.world_core.specs.Parts.{value_of}
use Rattle.world_core.specs.Worlds.{WorldValue, claimed}
use Rattle.world_core.proofs.world.World.claimed.Goals as goal

pub overflow_add-result : goal.overflow_add-result
overflow_add-result c = omega (arith, c.self.invariant.low)

pub returns : goal.returns
returns c =
    let is : c.self.inside.parts.base + c.len.result ≡ claimed (value_of c.self.inside.parts) = omega (arith, c.len.ensures, length-map c.self.inside.parts.history.items (λ entry. entry.command)) in
    is ∙ ap (λ (w : WorldValue). claimed w) c.self.view_is
