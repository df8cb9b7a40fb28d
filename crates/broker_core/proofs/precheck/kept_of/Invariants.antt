use Rattle.std.proofs.Common.{◌≡◌, ◌≤◌, take}
use Rattle.broker_core.specs.Prechecks.{kept_in}
use Rattle.broker_core.proofs.precheck.kept_of.Given as goal

abbrev pub invariant-loop-size : goal.invariant-loop-size
invariant-loop-size l = record { kept : l.kept ≡ kept_in (take l.size-index l.settled); few : l.kept ≤ l.size-index }
