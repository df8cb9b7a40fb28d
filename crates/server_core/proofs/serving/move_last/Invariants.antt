use Rattle.std.proofs.Common.{◌≡◌, ◌+◌, length, vec_capacity, vec_len}
use Rattle.atomic_table.specs.Seated.{TableId}
use Rattle.server_core.specs.Serving.{AreAt}
use Rattle.server_core.proofs.serving.move_last.Given as goal

abbrev pub invariant-loop-seat : goal.invariant-loop-seat
invariant-loop-seat l = record {
  left : length l.seats.items + l._seat ≡ length l.fn.seats.items;
  more : vec_len l.its ≡ l._seat;
  room : vec_capacity l.its ≡ vec_capacity l.fn.its;
  rest : (ring : TableId) → AreAt ring l.fn.seats.items → AreAt ring l.seats.items;
  moved : (ring : TableId) → AreAt ring l.fn.seats.items → AreAt ring l.its.items;
}
