use Rattle.std.proofs.Common.{◌∙◌, ◌≡◌, refl, subst, sym}
use Rattle.flush_core.specs.Backlogs.{IsLight}
use Rattle.flush_core.specs.Flusher.{Flushed}
use Rattle.engine_core.specs.Flushes.{Flushes}
use Rattle.engine_core.proofs.Rounds.{none, more}
use Rattle.engine_core.proofs.flushing.flush_loop.Goals.{then-pass+in_ok-flush, else-pass}
use Rattle.engine_core.proofs.flushing.flush_loop.Goals as goal

pub loop-turn-init : goal.loop-turn-init
loop-turn-init g c = (none _, refl, λ light. light)

pub flush-requires-clause-ring : goal.flush-requires-clause-ring
flush-requires-clause-ring g c = c.loop-turn.invariant.0.ring ∙ c.requires.ring

pub flush-requires-clause-executed : goal.flush-requires-clause-executed
flush-requires-clause-executed g c = c.loop-turn.invariant.0.executed c.requires.executed

pub returns-in_err-flush-clause-flushes : goal.returns-in_err-flush-clause-flushes
returns-in_err-flush-clause-flushes g c = more _ _ _ c.loop-turn.invariant.0 c.in_err-flush.ensures.flushes

pub returns-clause-mark : goal.returns-clause-mark
returns-clause-mark g c = c.mark.ensures.mark

pub loop-turn-preserved : goal.loop-turn-preserved
loop-turn-preserved g c =
    let was = c.args.flusher.now in
    let inv = c.loop-turn.invariant in
    let At : Flushed g.row.D.Denot → Type 0 = λ f. Flushes was f × (g.D.Disk.failures f.disk ≡ g.D.Disk.failures was.disk) × (IsLight was → IsLight f) in
    elim c.if-pass.branch [
      | then-pass+in_ok-flush w ↦ subst At (sym w.flusher-is) (more _ _ _ inv.0 w.in_ok-flush.ensures.flushes, w.in_ok-flush.ensures.cause ∙ inv.1, λ light. w.in_ok-flush.ensures.light)
      | else-pass w ↦ subst At (sym w.flusher-is) inv
    ]

pub returns-clause-light : goal.returns-clause-light
returns-clause-light g c = c.loop-turn.invariant.2
