use Rattle.std.proofs.Common.{refl, arith}
use Rattle.wakeups.proofs.Marking.{marked}
use Rattle.wakeups.proofs.wakeups.no_mark_is_missed.Goals as goal

pub returns : goal.returns
returns c = record {
  missed = marked;
  reached = (_, ((refl, (refl, (tt, (omega arith, refl)))), record { waits = refl; risen = refl; done = refl }));
}
