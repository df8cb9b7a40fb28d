use Rattle.std.proofs.Common.{arith}
use Rattle.recover_core.proofs.Sizes.{restart_fits}
use Rattle.recover_core.proofs.snapshot.restarts_fit_large_areas.Goals as goal

pub returns : goal.returns
returns c = record {
  bound = restart_fits;
  never = λ content long. omega (arith, restart_fits long.state long.long.snapshot long.long.spells, long.long.long);
  never_by_any = λ bytes long. omega (arith, restart_fits long.state long.long.snapshot long.long.spells, long.long.long);
}
