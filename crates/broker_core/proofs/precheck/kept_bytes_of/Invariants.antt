use Rattle.std.proofs.Common.{◌≡◌, ◌≤◌, ◌*◌, take}
use Rattle.broker_core.specs.Prechecks.{kept_bytes_in}
use Rattle.broker_core.proofs.precheck.kept_bytes_of.Given as goal

abbrev pub invariant-loop-size : goal.invariant-loop-size
invariant-loop-size l = record { bytes : l.bytes ≡ kept_bytes_in (take l.size-index l.settled); small : l.bytes ≤ l.size-index * 4294967296 }
