use Rattle.std.proofs.Common.{take}
use Rattle.std.specs.Io.KnownBytes.{Appends}
use Rattle.std.specs.List.{flat_map}
use Rattle.journal_files.specs.Held.{lot_line}
use Rattle.journal_files.proofs.held.write_lots.Given as goal

abbrev pub invariant-loop-lot : goal.invariant-loop-lot
invariant-loop-lot g l = Appends (g.W.Write.contents l.fn.writer) (g.W.Write.contents l.writer) (flat_map lot_line (take l.lot-index l.lots))
