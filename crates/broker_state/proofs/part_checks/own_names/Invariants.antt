use Rattle.std.proofs.Common.{take}
use Rattle.std.specs.List.{AllByRecursion}
use Rattle.broker_state.specs.PartsOf.{state_of_parts}
use Rattle.broker_state.specs.Sound.{OwnsName}
use Rattle.broker_state.proofs.part_checks.own_names.Given as goal

abbrev pub invariant-loop-sub : goal.invariant-loop-sub
invariant-loop-sub l = AllByRecursion (OwnsName (state_of_parts l.parts)) (take l.sub-index l.parts.subscriptions.items)
