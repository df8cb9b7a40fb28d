use Rattle.std.proofs.Common.{◌≡◌, ◌+◌, ◌≤◌, vec_capacity, vec_len}
use Rattle.server_core.specs.Serving.{AreAt, AreServed}
use Rattle.server_core.proofs.event_loop.add_services.Given as goal

abbrev pub invariant-loop-desk : goal.invariant-loop-desk
invariant-loop-desk g l = record {
  at : AreAt l.shared.ring l.seats.items;
  served : AreServed l.shared.ring l.services.items;
  left : vec_len l.fn.seats ≤ vec_len l.seats + l._desk;
  here : vec_len l.services + vec_len l.seats ≤ vec_capacity l.services;
  count : vec_len l.services + vec_len l.seats ≡ vec_len l.fn.seats;
  room : vec_capacity l.seats ≡ vec_capacity l.fn.seats;
}
