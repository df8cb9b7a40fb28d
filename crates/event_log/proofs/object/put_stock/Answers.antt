use Rattle.event_log.proofs.Added.{two_added}
use Rattle.event_log.proofs.object.put_stock.Goals as goal

pub returns : goal.returns
returns c = two_added _ c.args.out.now c.put_two.new.out c.put_journal.new.out _ _ c.in_ok-put_two.ensures c.put_journal.ensures
