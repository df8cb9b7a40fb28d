use Rattle.std.proofs.Common.{refl, arith}
use Rattle.wakeups.proofs.Keeping.{heard}
use Rattle.wakeups.proofs.wakeups.every_call_is_heard.Goals as goal

pub returns : goal.returns
returns c = record {
  heard = heard;
  reached = (_, ((refl, (refl, (tt, (omega arith, (omega arith, (omega arith, refl)))))), (refl, refl, refl)));
}
