use Rattle.std.proofs.Common.{◌≡◌, ◌≤◌, take}
use Rattle.std.specs.List.{AllWithin}
use Rattle.clients.specs.Timers.{first_of}
use Rattle.clients.proofs.timers.first_of.Given as goal

abbrev pub invariant-loop-at : goal.invariant-loop-at
invariant-loop-at l = AllWithin (λ at. l.first ≤ at) l.all 0 l.at-index × (l.first ≡ first_of (take l.at-index l.all))
