use Rattle.std.proofs.Common.{◌≡◌, ◌++◌}
use Rattle.std.specs.Prelude.{vec_capacity}
use Rattle.outbox_core.specs.Giving.{AreGiven, unboxed}
use Rattle.outbox_core.proofs.boxes.Boxes.give_each.Given as goal

abbrev pub invariant-loop-out : goal.invariant-loop-out
invariant-loop-out g l = record {
  given : AreGiven l.yielded l.fn.self l.self;
  left : l.left.items ≡ l.fn.left.items ++ unboxed l.fn.self l.yielded;
  room : vec_capacity l.left ≡ vec_capacity l.fn.left;
}
