use Rattle.std.proofs.Common.{arith, rules}
use Rattle.std.proofs.lemmas.Grind.{common_steps}
use Rattle.flush_core.proofs.flusher.Flusher.take_ready.Goals as goal

pub push_reserved-requires : goal.push_reserved-requires
push_reserved-requires g c = search rules

pub loop-seat-smaller : goal.loop-seat-smaller
loop-seat-smaller g c = search rules

pub loop-seat-preserved : goal.loop-seat-preserved
loop-seat-preserved g c = grind (arith, common_steps)
