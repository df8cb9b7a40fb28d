use Rattle.session_core.proofs.Acting.{more_done, more_stands}
use Rattle.session_core.proofs.session.answer_all.Goals as goal

pub loop-frame-preserved : goal.loop-frame-preserved
loop-frame-preserved c =
    let before = c.loop-frame.invariant in
    let now = c.in_ok-phase.ensures in
    record {
      done = more_done c.args.phase c.loop-frame.phase c.loop-frame.yielded c.in-Some.frame _ _ _ before.done before.stands now.acts;
      stands = more_stands c.args.phase c.loop-frame.phase c.in_ok-phase.phase c.loop-frame.yielded c.in-Some.frame before.stands now.phase;
    }
