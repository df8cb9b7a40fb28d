use Rattle.std.proofs.Common.{◌≡◌, ◌<◌, ◌≤◌, ◌+◌, ◌-◌, false, drop, length, take}
use Rattle.disk_core.specs.Images.{patched}
use Rattle.disk_core.specs.Moments.{LeavesOnly}
use Rattle.area_core.specs.declared.version.Version.TheVariants.{Two}
use Rattle.area_core.specs.Areas.{closed_snapshot}
use Rattle.area_core.specs.Closing.{closing}
use Rattle.area_core.specs.Journals.{is_odd, other, start}
use Rattle.area_core.specs.Switches.{KeepsRest}
use Rattle.area_core.proofs.area.Area.write_closed.Given as goal

abbrev pub invariant-loop-at : goal.invariant-loop-at
invariant-loop-at g l = record {
  at : l.at ≤ l.total + 9;
  total : l.total ≡ length (g.P.Pieces.coming l.fn.pieces);
  left : l.at < l.total + 9 → closing l.at l.total (g.P.Pieces.coming l.pieces) ≡ drop l.at (closed_snapshot Two (g.P.Pieces.coming l.fn.pieces));
  content : g.D.Disk.honest l.fn.disk → g.D.Disk.content l.disk ≡ patched (start l.fn.self.size (other (is_odd l.fn.self.selector))) (take l.at (closed_snapshot Two (g.P.Pieces.coming l.fn.pieces))) (g.D.Disk.content l.fn.disk);
  outside : g.D.Disk.honest l.fn.disk → LeavesOnly g.D.Disk.moment g.D.Disk.images_since l.fn.disk l.disk (KeepsRest (g.D.Disk.images l.fn.disk) l.fn.self);
  place : (l.self.size ≡ l.fn.self.size) × (l.self.selector ≡ l.fn.self.selector) × (l.self.gate ≡ l.fn.self.gate) × (l.self.version ≡ l.fn.self.version);
  whole : l.self.broken ≡ false;
  size : length (g.D.Disk.content l.disk) ≡ length (g.D.Disk.content l.fn.disk);
  failures : g.D.Disk.failures l.disk ≡ g.D.Disk.failures l.fn.disk;
  honest : g.D.Disk.honest l.fn.disk → g.D.Disk.honest l.disk;
  was_honest : g.D.Disk.honest l.disk → g.D.Disk.honest l.fn.disk;
}

abbrev pub decreases-loop-at : goal.decreases-loop-at
decreases-loop-at g l = l.total + 9 - l.at
