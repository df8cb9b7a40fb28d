use Rattle.std.proofs.Common.{◌≤◌, length, take}
use Rattle.work_share.proofs.Members.{SendTo}
use Rattle.work_share.proofs.audiences.of_members.Given as goal

abbrev pub invariant-loop-member : goal.invariant-loop-member
invariant-loop-member l = (l.member-index ≤ length l.members) × SendTo (take l.member-index l.members) l.all
