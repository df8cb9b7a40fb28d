use Rattle.std.proofs.Common.{◌≡◌, ◌+◌, ◌-◌, true, false, if◌then◌else◌}
use Rattle.area_core.specs.Reading.{GoesOn, ReadsOnly}
use Rattle.recover_core.specs.Walks.{HasEnded, HasWalked}
use Rattle.recover_core.proofs.reading.read_blocks.Given as goal

abbrev pub invariant-loop-more : goal.invariant-loop-more
invariant-loop-more g l = record {
  walked : g.D.Disk.honest l.fn.disk → HasWalked l.fn.area l.fn.broker.state (g.D.Disk.content l.fn.disk) → l.more ≡ true → HasWalked l.area l.broker.state (g.D.Disk.content l.fn.disk);
  ended : g.D.Disk.honest l.fn.disk → HasWalked l.fn.area l.fn.broker.state (g.D.Disk.content l.fn.disk) → l.more ≡ false → HasEnded l.area l.broker.state (g.D.Disk.content l.fn.disk);
  place : GoesOn l.fn.area l.area;
  broker : l.broker.broken ≡ false;
  reads : ReadsOnly g.D.Disk l.fn.disk l.disk;
  failures : g.D.Disk.failures l.disk ≡ g.D.Disk.failures l.fn.disk;
}

abbrev pub decreases-loop-more : goal.decreases-loop-more
decreases-loop-more g l = (if l.more then 1 else 0) + (l.area.size - l.area.gate)
