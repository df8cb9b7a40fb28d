use Rattle.std.proofs.Common.{refl}
use Rattle.disk_core.proofs.Runs.{weaker}
use Rattle.recover_core.proofs.opening.open.Goals as goal

pub returns-in-Ok-clause-opens : goal.returns-in-Ok-clause-opens
returns-in-Ok-clause-opens g c =
    let did = c.open_area.ensures in
    let opened = c.in-Ok.ensures.opens in
    record {
      any_moment = λ honest. weaker g.D.Disk c.args.disk c.open_area.new.disk _ _ (did.any_moment honest) (λ image is. is.restart);
      header = λ honest. weaker g.D.Disk c.args.disk c.open_area.new.disk _ _ (did.any_moment honest) (λ image is. is.header);
      state = opened.restarted.state;
      stood = opened.restarted.stood;
      stands = opened.restarted.stands;
      compact = opened.restarted.alone;
      opened = refl;
      small = (opened.restarted.counted.small, opened.restarted.counted.whole);
      whole = opened.whole;
      cause = c.in-Ok.ensures.cause;
      lasts = did.lasts;
    }

pub returns-in-Err-clause-hands_back : goal.returns-in-Err-clause-hands_back
returns-in-Err-clause-hands_back g c =
    let did = c.open_area.ensures in
    let refused = c.in-Err.ensures.refuses in
    record {
      any_moment = λ honest. weaker g.D.Disk c.args.disk c.open_area.new.disk _ _ (did.any_moment honest) (λ image is. is.restart);
      header = λ honest. weaker g.D.Disk c.args.disk c.open_area.new.disk _ _ (did.any_moment honest) (λ image is. is.header);
      refused = refused.told;
      full = refused.full;
      unwritten = refused.unwritten;
      cause = c.in-Err.ensures.cause;
      lasts = did.lasts;
    }
