use Rattle.std.proofs.Common.{◌≡◌, ◌++◌, ◌∙◌, ◌-◌, [], ℕ, Err, ap, refl, subst, sym}
use Rattle.std.proofs.lemmas.Result.{err_from_is_err_and}
use Rattle.area_core.specs.Areas.{commands}
use Rattle.flush_core.specs.declared.faults.FlushFault.{FlushFault}
use Rattle.flush_core.specs.declared.faults.FlushFault.TheVariants.{Full}
use Rattle.flush_core.specs.FlusherOutcomes.{IsTurn}
use Rattle.engine_core.proofs.Going.{come_none, come_turn, failed_some_way, filled, no_boxes, turned_some_way}
use Rattle.engine_core.proofs.command_queue.take_all.Goals as goal

pub loop-turn-init : goal.loop-turn-init
loop-turn-init g c = ([], 0, come_none c.args.flusher.now c.requires.idle, refl, λ honest. honest)

pub loop-turn-preserved : goal.loop-turn-preserved
loop-turn-preserved g c =
    let before = c.loop-turn.invariant in
    let turned = c.in_ok-turn.ensures.turns in
    (before.0 ++ commands turned.more, c.turn.new.self.stored - c.args.flusher.now.stored, come_turn c.args.flusher.now c.loop-turn.flusher c.turn.new.self before.0 before.1 turned.more c.requires.idle before.2 turned.turned c.in_ok-turn.ensures.breaks.outcome.1 (no_boxes c.turn.new.self.boxes (sym c.has_no_box.ensures ∙ c.if-not-has_no_box.false)), c.in_ok-turn.ensures.breaks.cause ∙ before.3, λ honest. c.turn.ensures.lasts.honest (before.4 honest))

pub returns-in_err-turn-clause-full : goal.returns-in_err-turn-clause-full
returns-in_err-turn-clause-full g c honest is =
    let before = c.loop-turn.invariant in
    let p = err_from_is_err_and c.from_residual.result c.from_residual.ensures.1 in
    let fault : c.in_err-turn.field-0.0 ≡ Full = cc (p.1, p.2, is) in
    let told = ap (λ (fault : FlushFault). Err fault) fault in
    filled c.args.flusher.now c.loop-turn.flusher c.turn.new.self before.0 before.1 _ c.requires.idle before.2 (subst (λ (fault : FlushFault). IsTurn {X = ℕ} c.loop-turn.flusher c.turn.new.self (Err fault)) fault c.in_err-turn.ensures.breaks.outcome)
    (c.in_err-turn.ensures.refuses.batch told).1 (c.in_err-turn.ensures.refuses.room.no_room (before.4 honest) told)

pub returns-in_err-turn-clause-fallen : goal.returns-in_err-turn-clause-fallen
returns-in_err-turn-clause-fallen g c =
    let before = c.loop-turn.invariant in
    let p = err_from_is_err_and c.from_residual.result c.from_residual.ensures.1 in
    rw (p.1) (failed_some_way ℕ c.args.flusher.now c.loop-turn.flusher c.turn.new.self before.0 before.1 c.in_err-turn.field-0.0 c.requires.idle before.2 c.in_err-turn.ensures.breaks.outcome)

pub returns-then-not-has_no_box-clause-fallen : goal.returns-then-not-has_no_box-clause-fallen
returns-then-not-has_no_box-clause-fallen g c =
    let before = c.loop-turn.invariant in
    let turned = c.in_ok-turn.ensures.turns in
    turned_some_way c.args.flusher.now c.loop-turn.flusher c.turn.new.self before.0 before.1 turned.more c.requires.idle before.2 turned.turned
