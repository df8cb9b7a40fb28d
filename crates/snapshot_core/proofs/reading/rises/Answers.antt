use Rattle.std.proofs.Common.{◌∙◌, sym, ap, arith}
use Rattle.std.specs.Map.{keys_of}
use Rattle.std.specs.Ordering.{is_lt}
use Rattle.snapshot_core.proofs.RisingLists.{entries_fall, rises_from, sorted_near}
use Rattle.snapshot_core.proofs.reading.rises.Goals as goal

pub returns-then-not-is_lt-clause-test : goal.returns-then-not-is_lt-clause-test
returns-then-not-is_lt-clause-test g c =
    let over = sym (ap is_lt c.cmp.ensures) ∙ sym c.is_lt.ensures ∙ c.if-not-is_lt.true in
    sym (entries_fall g.K.Ord.cmp c.args.items.now c.loop-place.place c.index-items-place.result c.index-items-place-in-loop-place.result (omega arith) c.loop-place-test.true over)

pub returns-clause-test : goal.returns-clause-test
returns-clause-test g c =
    sym (rises_from g.K.Ord.cmp (keys_of c.args.items.now) (sorted_near g.K.Ord.cmp g.met.K.Ord.total c.args.items.now (λ k d within. c.loop-place.invariant k d (omega arith))))

pub returns-clause-rising : goal.returns-clause-rising
returns-clause-rising g c _ =
    sorted_near g.K.Ord.cmp g.met.K.Ord.total c.args.items.now (λ k d within. c.loop-place.invariant k d (omega arith))
