use Rattle.std.proofs.Common.{◌≡◌, ◌∙◌, ap, arith, string_bytes, subst}
use Rattle.std.proofs.lemmas.Grind.{common_steps}
use Rattle.std.proofs.lemmas.Result.{err_from_is_err_and}
use Rattle.engine_core.specs.Queues.{IsTooFar, Progress, progress_of}
use Rattle.engine_core.proofs.Counting.{ComeToNone, come_to_no_more, come_to_none}
use Rattle.engine_core.proofs.Refusing.{refuses_one}
use Rattle.engine_core.proofs.Unfailed.{act_stays}
use Rattle.engine_core.proofs.running_script.do_acts.Goals as goal

pub loop-act-preserved : goal.loop-act-preserved
loop-act-preserved c =
    let before = c.loop-act.invariant in
    record {
      done = grind (arith, common_steps);
      durable = ap (λ (p : Progress). p.queue.durable) c.in_ok-number.ensures.ok ∙ act_stays c.args.connection (progress_of c.loop-act.number c.loop-act.queue.queue (string_bytes c.loop-act.text)) c.in-Some.act ∙ before.durable;
      calm = c.in_ok-number.ensures.calm ∙ before.calm;
      within = come_to_no_more IsTooFar c.args.connection _ _ c.loop-act.yielded c.in-Some.act before.within before.done c.in_ok-number.ensures.within;
      whole = grind (arith, common_steps);
      rest = grind (arith, common_steps);
    }

pub returns-clause-within : goal.returns-clause-within
returns-clause-within c =
    let all : c.loop-act.yielded ≡ c.args.acts.items = grind (arith, common_steps) in
    come_to_none IsTooFar c.args.connection _ _ (subst (ComeToNone c.args.connection IsTooFar _) all c.loop-act.invariant.within)

pub returns-in_err-number-clause-refuses : goal.returns-in_err-number-clause-refuses
returns-in_err-number-clause-refuses c =
    let p = err_from_is_err_and c.from_residual.result c.from_residual.ensures.1 in
    let before = c.loop-act.invariant in
    rw (p.1, p.2) (refuses_one c.args.connection _ (progress_of c.loop-act.number c.loop-act.queue.queue (string_bytes c.loop-act.text)) c.args.acts.items c.loop-act.yielded _ _ c.in-Some.act c.args.queue.now c.loop-act.queue c.do_act.new.queue _
    before.whole c.in-Some.ensures.steps.0 before.done before.durable before.calm c.in_err-number.ensures.refuses)
