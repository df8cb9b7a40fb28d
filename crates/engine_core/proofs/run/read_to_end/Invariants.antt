use Rattle.std.proofs.Common.{◌≤◌, ◌*◌, false}
use Rattle.engine_core.specs.Runs.{Turned}
use Rattle.engine_core.proofs.run.read_to_end.Given as goal

abbrev pub invariant-loop-read : goal.invariant-loop-read
invariant-loop-read g l = record {
  turned : Turned false l.fn.run l.run (g.R.Read.remaining l.fn.reader) (g.R.Read.remaining l.reader) (g.W.Write.contents l.fn.writer) (g.W.Write.contents l.writer);
  few : l.run.lines ≤ l._read * 65536;
}
