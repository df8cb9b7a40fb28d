use Rattle.std.proofs.Common.{◌≡◌, length}
use Rattle.flush_core.specs.FlusherCalls.{Executes}
use Rattle.flush_core.specs.Sessions.{boxes_after}
use Rattle.flush_core.proofs.outlet.Outlet.execute_all.Given as goal

abbrev pub invariant-loop-command : goal.invariant-loop-command
invariant-loop-command g l = record {
  did : Executes l.yielded l.fn.broker l.broker l.fn.self.waiting l.self.waiting l.fn.self.ended l.self.ended;
  boxes : l.self.boxes ≡ boxes_after l.fn.broker.state.count l.fn.self.boxes l.fn.done.items;
  past : l.self.past ≡ l.fn.self.past;
  left : l.self.left ≡ l.fn.self.left;
  none : length l.self.spare.items ≡ 0;
}
