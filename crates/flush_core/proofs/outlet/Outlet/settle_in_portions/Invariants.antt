use Rattle.std.proofs.Common.{◌≡◌, ◌+◌, [], length}
use Rattle.outbox_core.specs.Giving.{without}
use Rattle.flush_core.specs.FlusherCalls.{ExecutesInPortions, RaisesUpTo}
use Rattle.flush_core.specs.Sessions.{boxes_after}
use Rattle.flush_core.proofs.outlet.Outlet.settle_in_portions.Given as goal

abbrev pub invariant-loop-command : goal.invariant-loop-command
invariant-loop-command g l = record {
  did : ExecutesInPortions l.yielded l.fn.broker l.broker l.fn.self.waiting.items l.self.waiting.items l.fn.self.ended.items l.self.ended.items
      (without (boxes_after l.fn.broker.state.count l.fn.self.boxes l.fn.done.items) l.fn.self.past.items) l.self.boxes l.fn.self.left.items l.self.left.items l.many;
  raised : RaisesUpTo (l.fn.broker.state.count + length l.yielded) l.fn.seat l.seat l.fn.self.left.items l.self.left.items;
  past : l.self.past.items ≡ [];
  none : length l.self.spare.items ≡ 0;
}
