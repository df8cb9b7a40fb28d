use Rattle.std.proofs.Common.{rules}
use Rattle.server_core.proofs.Counting.{served_on}
use Rattle.server_core.proofs.Sweeping.{all_done, left_on, next_may, one_more_done}
use Rattle.server_core.proofs.event_loop.sweep_all.Goals as goal

pub sweep-requires : goal.sweep-requires
sweep-requires g c = record {
  follows = next_may c.args.sweep c.args.services.now.items c.loop-desk.services.items c.loop-desk.desk c.index_mut.result.now (search rules) (search rules) c.requires.follows c.loop-desk.invariant.left;
}

pub loop-desk-preserved : goal.loop-desk-preserved
loop-desk-preserved g c = record {
  done = one_more_done c.args.sweep c.loop-desk.services.items c.loop-desk.desk c.sweep.new.self (search rules) c.sweep.ensures.swept c.loop-desk.invariant.done;
  left = left_on c.args.services.now.items c.loop-desk.services.items c.loop-desk.desk c.sweep.new.self (search rules) c.loop-desk.invariant.left;
  ring = λ ring before. served_on ring c.loop-desk.services.items c.loop-desk.desk c.index_mut.result.now c.sweep.new.self (search rules) (search rules) (c.loop-desk.invariant.ring ring before);
  count = search rules;
}

pub returns-clause-done : goal.returns-clause-done
returns-clause-done g c = all_done c.args.sweep _ (search rules)
