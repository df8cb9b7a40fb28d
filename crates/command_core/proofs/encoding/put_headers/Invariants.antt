use Rattle.std.proofs.Common.{◌≡◌, ◌++◌, length, take}
use Rattle.std.specs.Int.{w16, to_be_bytes}
use Rattle.std.specs.List.{AllByRecursion, flat_map}
use Rattle.command_core.specs.PartSpellings.{AreTexts, pair}
use Rattle.command_core.proofs.encoding.put_headers.Given as goal

abbrev pub invariant-loop-name : goal.invariant-loop-name
invariant-loop-name l = record {
  put : l.out.items ≡ l.fn.out.items ++ (to_be_bytes w16 (length l.headers) ++ flat_map pair (take l.name-index l.headers));
  form : AllByRecursion AreTexts (take l.name-index l.headers);
}
