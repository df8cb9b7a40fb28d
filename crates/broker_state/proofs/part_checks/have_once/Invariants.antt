use Rattle.std.proofs.Common.{take}
use Rattle.std.specs.List.{AllByRecursion}
use Rattle.broker_state.specs.Sound.{AreOnce, had_by}
use Rattle.broker_state.proofs.part_checks.have_once.Given as goal

abbrev pub invariant-loop-sub : goal.invariant-loop-sub
invariant-loop-sub l = AllByRecursion (λ sub. AreOnce (had_by sub)) (take l.sub-index l.subscriptions)
