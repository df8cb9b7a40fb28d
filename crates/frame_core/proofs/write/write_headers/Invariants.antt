use Rattle.std.proofs.Common.{◌≡◌, ◌++◌, take, flat_map}
use Rattle.std.specs.List.{AllByRecursion}
use Rattle.frame_core.specs.Written.{written_header, IsText}
use Rattle.frame_core.proofs.write.write_headers.Given as goal

abbrev pub invariant-loop-name : goal.invariant-loop-name
invariant-loop-name l = record {
  lines : l.bytes.items ≡ l.initial.bytes.items ++ flat_map (written_header l.verb) (take l.name-index l.headers);
  texts : AllByRecursion IsText (take l.name-index l.headers);
}
