use Rattle.event_log.proofs.Added.{two_added}
use Rattle.event_log.proofs.object.put_crowd.Goals as goal

pub returns : goal.returns
returns c = two_added _ c.args.out.now c.put_limited.new.out c.put_place.new.out _ _ c.in_ok-put_limited.ensures c.put_place.ensures
