use Rattle.event_log.proofs.Added.{two_added}
use Rattle.event_log.proofs.object.put_start.Goals as goal

pub returns : goal.returns
returns c = two_added _ c.args.out.now c.put_number.new.out c.put_sizes.new.out _ _ c.in_ok-put_number.ensures c.put_sizes.ensures
