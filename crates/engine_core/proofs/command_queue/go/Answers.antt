use Rattle.std.proofs.Common.{◌≡◌, ◌≤◌, ◌∙◌, IfOk, arith, length, sym, subst}
use Rattle.std.proofs.lemmas.Result.{IfOk-weaker, err_from_is_err_and}
use Rattle.flush_core.specs.declared.faults.FlushFault.TheVariants.{Full}
use Rattle.flush_core.specs.Flusher.{Flushed}
use Rattle.flush_core.proofs.StoreFaults.{same_fault}
use Rattle.engine_core.specs.Faults.{IsOfRing, IsOutOfStep, IsStopCaused}
use Rattle.engine_core.specs.Going.{HasGoneFront}
use Rattle.engine_core.specs.Journals.{GoesThrough, IsFull}
use Rattle.engine_core.specs.Placed.{AreOwn, commands_of}
use Rattle.engine_core.proofs.Going.{filled_full, gone_all, gone_front}
use Rattle.engine_core.proofs.Placing.{commands_length, own_of}
use Rattle.engine_core.proofs.Resting.{keep_front}
use Rattle.engine_core.proofs.command_queue.go.Goals as goal

pub compare_all-requires-clause-ring : goal.compare_all-requires-clause-ring
compare_all-requires-clause-ring g c = c.take_until_stop-went.ensures.way.ring ∙ c.requires.ring

pub returns-clause-goes : goal.returns-clause-goes
returns-clause-goes g c =
    let cs = commands_of c.args.waiting.items in
    let old = c.args.flusher.now in
    let went = c.take_until_stop-went.new.flusher in
    let many : c.len-count.result ≡ length cs = omega (arith, c.len-count.ensures, commands_length c.args.waiting.items) in
    let front : HasGoneFront old went cs = gone_front old went c.next-first.result c.next.result c.len-count.result c.append_all.new.seats.items c.args.waiting.items c.next-first.ensures.next c.next.ensures.next
    (subst (λ n. n ≤ c.len-count.result) c.saturating_sub.ensures c.if-saturating_sub-count.false) many
    c.next-first.ensures.kept.opened c.next.ensures.kept.opened c.take_until_stop-went.ensures.way c.in_ok-append_all.ensures.placed c.compare_all.ensures.agree in
    subst (λ (f : Flushed g.row.D.Denot). IfOk c.take_until_stop-went.result (GoesThrough g.D.Disk old f c.compare_all.new.seats.items c.args.waiting.items)) (sym c.compare_all.ensures.flusher)
    (IfOk-weaker c.take_until_stop-went.result _ _ (λ all come. record {
      own = subst (λ seats. AreOwn seats c.args.waiting.items) (sym c.compare_all.ensures.seats) (own_of c.next-first.result c.append_all.new.seats.items c.args.waiting.items c.in_ok-append_all.ensures.placed);
      gone = λ yes.
          let gone = come yes in
          gone_all old went c.next-first.result c.append_all.new.seats.items gone.0 c.args.waiting.items c.next-first.ensures.next gone.2 (gone.1 ∙ many) c.in_ok-append_all.ensures.placed c.compare_all.ensures.agree;
      front = front;
      kept = λ honest. keep_front old went cs (g.D.Disk.images went.disk) c.requires.idle front (c.next.ensures.kept.each honest);
    }) c.take_until_stop-went.ensures.all)

pub returns-clause-full : goal.returns-clause-full
returns-clause-full g c honest is =
    let cs = commands_of c.args.waiting.items in
    let many : c.len-count.result ≡ length cs = omega (arith, c.len-count.ensures, commands_length c.args.waiting.items) in
    subst (λ (f : Flushed g.row.D.Denot). IsFull c.args.flusher.now.broker.state cs (g.D.Disk.content f.disk)) (sym c.compare_all.ensures.flusher)
    (filled_full c.args.flusher.now c.take_until_stop-went.new.flusher c.next-first.result c.next.result c.len-count.result c.append_all.new.seats.items c.args.waiting.items _ c.next-first.ensures.next c.next.ensures.next
    (subst (λ n. n ≤ c.len-count.result) c.saturating_sub.ensures c.if-saturating_sub-count.false) many (c.take_until_stop-went.ensures.full honest is) c.in_ok-append_all.ensures.placed c.compare_all.ensures.agree)

pub returns-clause-cause : goal.returns-clause-cause
returns-clause-cause g c =
    subst (λ (f : Flushed g.row.D.Denot). IsStopCaused (g.D.Disk.failures c.args.flusher.now.disk) (g.D.Disk.failures f.disk) c.take_until_stop-went.result) (sym c.compare_all.ensures.flusher) c.take_until_stop-went.ensures.cause

pub returns-in_err-append_all-clause-full : goal.returns-in_err-append_all-clause-full
returns-in_err-append_all-clause-full g c honest is =
    let p = err_from_is_err_and c.from_residual.result c.from_residual.ensures.1 in
    let fault : c.in_err-append_all.field-0.0 ≡ Full = cc (p.1, p.2, is) in
    absurd (subst IsOfRing fault c.in_err-append_all.ensures.fault)

pub returns-then-saturating_sub-count-clause-full : goal.returns-then-saturating_sub-count-clause-full
returns-then-saturating_sub-count-clause-full g c honest is = absurd (subst IsOutOfStep (same_fault c.out_of_step.result Full is) c.out_of_step.ensures.kind)

pub returns-then-saturating_sub-count-clause-cause : goal.returns-then-saturating_sub-count-clause-cause
returns-then-saturating_sub-count-clause-cause g c = record { calm = tt; stopped = tt; cause = c.out_of_step.ensures.cause _ _ c.take_until_stop-went.ensures.cause }
