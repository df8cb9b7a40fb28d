use Rattle.std.proofs.Common.{◌≡◌, take, true}
use Rattle.std.specs.List.{AllByRecursion}
use Rattle.broker_state.specs.PartsOf.{state_of_parts}
use Rattle.broker_state.specs.States.{is_open}
use Rattle.broker_state.proofs.part_checks.are_of_open.Given as goal

abbrev pub invariant-loop-sub : goal.invariant-loop-sub
invariant-loop-sub l = AllByRecursion (λ sub. is_open (state_of_parts l.parts) sub.session ≡ true) (take l.sub-index l.parts.subscriptions.items)
