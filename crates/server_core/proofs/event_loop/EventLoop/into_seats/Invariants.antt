use Rattle.std.proofs.Common.{◌≡◌, ◌+◌, ◌≤◌, vec_capacity, vec_len}
use Rattle.server_core.specs.Serving.{AreAt, AreServed}
use Rattle.server_core.proofs.event_loop.EventLoop.into_seats.Given as goal

abbrev pub invariant-loop-desk : goal.invariant-loop-desk
invariant-loop-desk g l = record {
  at : AreAt l.fn.self.ring l.seats.items;
  served : AreServed l.fn.self.ring l.services.items;
  count : vec_len l.services + vec_len l.seats ≡ l.fn.self.count;
  left : vec_len l.services + l._desk ≡ vec_len l.initial.services;
  room : vec_len l.services + vec_len l.seats ≤ vec_capacity l.seats;
}
