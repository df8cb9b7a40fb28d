use Rattle.std.proofs.Common.{◌≡◌, drop}
use Rattle.command_line.specs.Placing.{is_blank}
use Rattle.command_line.proofs.making.is_blank.Given as goal

abbrev pub invariant-loop-byte : goal.invariant-loop-byte
invariant-loop-byte l = is_blank (drop l.byte-index l.bytes) ≡ is_blank l.fn.bytes
