use Rattle.area_core.specs.Reading.{Quiet}
use Rattle.journal_files.proofs.copying.steady_broker.Given as goal

abbrev pub invariant-loop-look : goal.invariant-loop-look
invariant-loop-look g l = g.D.Disk.honest l.fn.disk → g.D.Disk.honest l.disk × Quiet g.D.Disk l.fn.disk l.disk
