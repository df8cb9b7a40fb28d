use Rattle.std.proofs.Common.{ℕ, List, sym, subst}
use Rattle.world_core.specs.Parts.{value_of}
use Rattle.world_core.specs.Readings.{IsRead}
use Rattle.world_core.proofs.Patching.{gate_low}
use Rattle.world_core.proofs.parts.Parts.gate.Goals as goal

pub returns-clause-is : goal.returns-clause-is
returns-clause-is c r x = c.in_ok-gate.ensures c.args.self.now.size r (subst (λ (l : List ℕ). IsRead c.args.self.now.size l r) (sym c.deref.ensures.value) x)

pub returns-clause-within : goal.returns-clause-within
returns-clause-within c =
    gate_low (value_of c.args.self.now) c.requires c.in_ok-gate.gate (λ r x. c.in_ok-gate.ensures c.args.self.now.size r (subst (λ (l : List ℕ). IsRead c.args.self.now.size l r) (sym c.deref.ensures.value) x))
