use Rattle.std.proofs.Common.{◌≡◌, ◌++◌, length, take}
use Rattle.std.specs.Int.{w16, to_be_bytes}
use Rattle.std.specs.List.{AllByRecursion, flat_map}
use Rattle.command_core.specs.Spellings.{IsMember, member}
use Rattle.command_core.proofs.encoding.put_members.Given as goal

abbrev pub invariant-loop-member : goal.invariant-loop-member
invariant-loop-member l = record {
  put : l.out.items ≡ l.fn.out.items ++ (to_be_bytes w16 (length l.members) ++ flat_map member (take l.member-index l.members));
  form : AllByRecursion IsMember (take l.member-index l.members);
}
