use Rattle.std.proofs.Common.{◌∙◌, arith}
use Rattle.world_core.specs.Parts.{value_of}
use Rattle.world_core.proofs.Patching.{block_found, block_too_long, nothing_to_store}
use Rattle.world_core.proofs.parts.Parts.block_patch.Goals as goal

pub returns-then-self-under-clause-none : goal.returns-then-self-under-clause-none
returns-then-self-under-clause-none c none = nothing_to_store (value_of c.args.self.now) c.args.under c.if-self-under.true

pub returns-clause-some : goal.returns-clause-some
returns-clause-some c =
    block_found c.block_within-patch.result (value_of c.args.self.now) c.args.under c.in_ok-gate.gate c.deref.result.now (omega (arith, c.if-self-under.false)) c.in_ok-gate.ensures.is
    (c.deref.ensures.value ∙ c.in_ok-records.ensures) c.block_within-patch.ensures.some

pub returns-clause-none : goal.returns-clause-none
returns-clause-none c =
    block_too_long c.block_within-patch.result (value_of c.args.self.now) c.args.under c.in_ok-gate.gate c.deref.result.now c.in_ok-gate.ensures.is
    (c.deref.ensures.value ∙ c.in_ok-records.ensures) c.block_within-patch.ensures.none
