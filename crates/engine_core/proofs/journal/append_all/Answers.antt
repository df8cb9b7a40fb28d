use Rattle.std.proofs.Common.{arith, length-append, [], ◌∷◌}
use Rattle.engine_core.proofs.Placing.{one_more}
use Rattle.engine_core.proofs.journal.append_all.Goals as goal

pub loop-command-preserved : goal.loop-command-preserved
loop-command-preserved c =
    let before = c.loop-command.invariant in
    record {
      seats = c.append_one.ensures.seats;
      next = omega (arith, c.in_ok-next.ensures.next, before.next, length-append c.loop-command.yielded (c.in-Some.command ∷ []));
      placed = one_more _ _ _ _ _ _ before.next before.placed c.in_ok-next.ensures.others c.in_ok-next.ensures.placed;
    }
