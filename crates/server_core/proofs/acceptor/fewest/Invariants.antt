use Rattle.std.proofs.Common.{◌≡◌, ◌<◌, ◌≤◌, length}
use Rattle.std.specs.List.{AllWithin, slice_index_or}
use Rattle.server_core.proofs.acceptor.fewest.Given as goal

abbrev pub invariant-loop-place : goal.invariant-loop-place
invariant-loop-place l = record {
  within : l.at < length l.counts;
  least : slice_index_or l.counts l.at 0 ≡ l.least;
  before : AllWithin (λ count. l.least ≤ count) l.counts 0 l.place;
}
