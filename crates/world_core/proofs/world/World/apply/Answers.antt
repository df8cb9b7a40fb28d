-- Each event keeps what is kept.
use Rattle.world_core.specs.Parts.{value_of}
use Rattle.world_core.proofs.Answered.{answers_if, told_holds_if, told_keeps_if}
use Rattle.world_core.proofs.world.World.apply.Goals as goal

pub apply-requires : goal.apply-requires
apply-requires c = c.self.invariant

pub invariant_of-self : goal.invariant_of-self
invariant_of-self c = told_keeps_if (value_of c.self.inside.parts) (value_of c.apply.new.self) c.args.event c.apply.result c.self.invariant c.apply.ensures.ok c.apply.ensures.err

pub returns-clause-ok : goal.returns-clause-ok
returns-clause-ok c = answers_if (value_of c.self.inside.parts) c.args.self.now (value_of c.apply.new.self) c.args.event c.apply.result c.self.view_is c.self.invariant c.apply.ensures.ok

pub returns-clause-holds : goal.returns-clause-holds
returns-clause-holds c = told_holds_if (value_of c.self.inside.parts) (value_of c.apply.new.self) c.args.event c.apply.result c.self.invariant c.apply.ensures.ok c.apply.ensures.err
