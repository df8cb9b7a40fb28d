use Rattle.std.proofs.Common.{◌≡◌, ◌≤◌, ◌*◌, ◌^◌, take}
use Rattle.std.specs.List.{sum_by}
use Rattle.command_core.specs.Sizes.{member_size}
use Rattle.command_core.proofs.encoding.members_size.Given as goal

abbrev pub invariant-loop-member : goal.invariant-loop-member
invariant-loop-member l = (l.size ≡ sum_by member_size (take l.member-index l.members)) × (l.size ≤ l.member-index * 2 ^ 21)
