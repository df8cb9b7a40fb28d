use Rattle.std.proofs.Common.{◌≡◌, ◌<◌, ◌≤◌, length}
use Rattle.std.specs.List.{AllWithin, slice_index_or}
use Rattle.wakeups.proofs.memory.most.Given as goal

abbrev pub invariant-loop-place : goal.invariant-loop-place
invariant-loop-place l = record {
  within : l.at < length l.here;
  most : slice_index_or l.here l.at 0 ≡ l.greatest;
  before : AllWithin (λ held. held ≤ l.greatest) l.here 0 l.place;
}
