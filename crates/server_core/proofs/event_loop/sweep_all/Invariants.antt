use Rattle.std.proofs.Common.{◌≡◌, vec_len}
use Rattle.atomic_table.specs.Seated.{TableId}
use Rattle.server_core.specs.Serving.{AreServed}
use Rattle.server_core.proofs.Sweeping.{AreLeft, HaveDone}
use Rattle.server_core.proofs.event_loop.sweep_all.Given as goal

abbrev pub invariant-loop-desk : goal.invariant-loop-desk
invariant-loop-desk g l = record {
  done : HaveDone l.sweep l.services.items l.desk;
  left : AreLeft l.fn.services.items l.services.items l.desk;
  ring : (ring : TableId) → AreServed ring l.fn.services.items → AreServed ring l.services.items;
  count : vec_len l.services ≡ vec_len l.fn.services;
}
