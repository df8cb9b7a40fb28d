use Rattle.std.proofs.Common.{◌≡◌, ◌+◌, ◌*◌, ◌-◌, ◌≤◌, true, false, if◌then◌else◌, length}
use Rattle.world_core.specs.Recoveries.{HasEnded, HasPassed}
use Rattle.world_core.proofs.recovering.gate_on.Given as goal

abbrev pub invariant-loop-more : goal.invariant-loop-more
invariant-loop-more l = record {
  passed : l.more ≡ true → HasPassed l.area l.fn.disk.content;
  ended : l.more ≡ false → HasEnded l.area l.fn.disk.content;
  room : 32 + 2 * l.area.size ≤ length l.disk.content;
  same : l.disk.content ≡ l.fn.disk.content;
}

abbrev pub decreases-loop-more : goal.decreases-loop-more
decreases-loop-more l = (if l.more then 1 else 0) + (l.area.size - l.area.gate)
