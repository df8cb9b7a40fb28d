use Rattle.std.proofs.Common.{◌≡◌, ◌+◌, ◌≤◌, ◌++◌, None, replicate, vec_capacity, vec_len}
use Rattle.clients.proofs.desk.add_places.Given as goal

abbrev pub invariant-loop-place : goal.invariant-loop-place
invariant-loop-place g l = record {
  items : l.places.items ≡ l.fn.places.items ++ replicate l._place None;
  room : vec_len l.fn.places + l.missing ≤ vec_capacity l.places;
}
