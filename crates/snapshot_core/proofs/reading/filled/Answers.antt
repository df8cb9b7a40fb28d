use Rattle.snapshot_core.proofs.Appended.{one_more}
use Rattle.snapshot_core.proofs.reading.filled.Goals as goal

pub loop-key-preserved-in_ok-insert : goal.loop-key-preserved-in_ok-insert
loop-key-preserved-in_ok-insert g c =
    one_more g.K.Ord.cmp g.met.K.Ord.total c.loop-key.map.entries c.insert.new.self.entries c.in-Some.key c.in-Some.value c.loop-key.key-iterator.rest.items c.next.new.self.rest.items c.args.items.items c.requires c.loop-key.invariant c.in-Some.ensures.steps.0 c.in_ok-insert.ensures.entries

pub loop-key-preserved : goal.loop-key-preserved
loop-key-preserved g c =
    one_more g.K.Ord.cmp g.met.K.Ord.total c.loop-key.map.entries c.insert.new.self.entries c.in-Some.key c.in-Some.value c.loop-key.key-iterator.rest.items c.next.new.self.rest.items c.args.items.items c.requires c.loop-key.invariant c.in-Some.ensures.steps.0 c.in_ok-insert.ensures.entries
