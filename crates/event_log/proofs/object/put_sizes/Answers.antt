use Rattle.event_log.proofs.Added.{two_added}
use Rattle.event_log.proofs.object.put_sizes.Goals as goal

pub returns : goal.returns
returns c = two_added _ c.args.out.now c.put_two.new.out c.put_two-2.new.out _ _ c.in_ok-put_two.ensures c.put_two-2.ensures
