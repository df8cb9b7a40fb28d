use Rattle.std.proofs.Common.{take}
use Rattle.broker_state.specs.HandOut.{can_take}
use Rattle.broker_state.specs.Parts.{NonePass}
use Rattle.broker_state.specs.PartsOf.{state_of_parts}
use Rattle.broker_state.proofs.part_checks.are_settled.Given as goal

abbrev pub invariant-loop-sub : goal.invariant-loop-sub
invariant-loop-sub l = NonePass (can_take (state_of_parts l.parts)) (take l.sub-index l.parts.subscriptions.items)
