use Rattle.std.proofs.Common.{rules}
use Rattle.server_core.proofs.serving.move_last.Goals as goal

pub loop-seat-preserved : goal.loop-seat-preserved
loop-seat-preserved c = record {
  left = search rules;
  more = search rules;
  room = search rules;
  rest = λ ring before. c.move_one.ensures.rest ring (c.loop-seat.invariant.rest ring before);
  moved = λ ring before. c.move_one.ensures.moved ring (c.loop-seat.invariant.rest ring before) (c.loop-seat.invariant.moved ring before);
}
