use Rattle.std.proofs.Common.{take}
use Rattle.std.specs.List.{AllByRecursion}
use Rattle.frame_core.specs.Writable.{IsRawHeader}
use Rattle.frame_core.proofs.write.are_raw_headers.Given as goal

abbrev pub invariant-loop-name : goal.invariant-loop-name
invariant-loop-name l = AllByRecursion IsRawHeader (take l.name-index l.headers)
