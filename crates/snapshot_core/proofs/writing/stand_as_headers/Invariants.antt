use Rattle.std.proofs.Common.{take}
use Rattle.std.specs.List.{AllByRecursion}
use Rattle.command_core.specs.PartSpellings.{AreTexts}
use Rattle.snapshot_core.proofs.writing.stand_as_headers.Given as goal

abbrev pub invariant-loop-name : goal.invariant-loop-name
invariant-loop-name l = AllByRecursion AreTexts (take l.name-index l.headers)
