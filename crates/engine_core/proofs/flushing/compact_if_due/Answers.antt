use Rattle.std.proofs.Common.{◌∙◌, ap}
use Rattle.flush_core.specs.Flusher.{Flushed}
use Rattle.engine_core.proofs.Rounds.{fell_flush, forgotten, may_flush, more, still_light}
use Rattle.engine_core.proofs.flushing.compact_if_due.Goals as goal

pub returns-in-Ok-clause-flushes : goal.returns-in-Ok-clause-flushes
returns-in-Ok-clause-flushes g c = more _ _ _ (may_flush g.D.Disk _ _ c.in-Ok.ensures.compacts.may) (forgotten _ _ c.forget_won.ensures)

pub returns-in-Ok-clause-light : goal.returns-in-Ok-clause-light
returns-in-Ok-clause-light g c = still_light c.compact_if_due.new.self c.forget_won.new.flusher c.forget_won.ensures c.in-Ok.ensures.compacts.light

pub returns-in-Ok-clause-cause : goal.returns-in-Ok-clause-cause
returns-in-Ok-clause-cause g c = ap (λ (f : Flushed g.row.D.Denot). g.D.Disk.failures f.disk) c.forget_won.ensures ∙ c.in-Ok.ensures.breaks.cause

pub returns-in-Err-clause-flushes : goal.returns-in-Err-clause-flushes
returns-in-Err-clause-flushes g c = fell_flush _ _ _ c.in-Err.ensures.breaks.outcome

pub returns-in-Err-clause-light : goal.returns-in-Err-clause-light
returns-in-Err-clause-light g c = tt

pub returns-in-Err-clause-cause : goal.returns-in-Err-clause-cause
returns-in-Err-clause-cause g c = c.in-Err.ensures.breaks.cause

pub returns-in-Err-clause-stops : goal.returns-in-Err-clause-stops
returns-in-Err-clause-stops g c = c.in-Err.ensures.breaks.stops
