use Rattle.std.proofs.Common.{◌≡◌}
use Rattle.disk_core.specs.File.{file_size}
use Rattle.command_line.proofs.making.fill.Given as goal

abbrev pub invariant-loop-piece : goal.invariant-loop-piece
invariant-loop-piece g l = file_size l.disk ≡ file_size l.initial.disk
