use Rattle.std.proofs.Common.{◌≡◌, ◌≤◌, ◌*◌, take}
use Rattle.clients.specs.Weights.{headers_of_all}
use Rattle.clients.proofs.acts.headers_of_all.Given as goal

abbrev pub invariant-loop-member : goal.invariant-loop-member
invariant-loop-member l = (l.count ≡ headers_of_all (take l.member-index l.members)) × (l.count ≤ l.member-index * 64)
