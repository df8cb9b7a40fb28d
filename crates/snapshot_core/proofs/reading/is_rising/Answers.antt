use Rattle.std.proofs.Common.{◌-◌, ◌∙◌, get_or, sym, ap, arith}
use Rattle.std.specs.Cmp.{Some-then}
use Rattle.std.specs.Ordering.{is_lt, is_some_and, nat_cmp}
use Rattle.snapshot_core.proofs.RisingLists.{from_rising, messages_fall, rising_near}
use Rattle.snapshot_core.proofs.reading.is_rising.Goals as goal

pub returns-then-lt-clause-test : goal.returns-then-lt-clause-test
returns-then-lt-clause-test c =
    let d = c.index-messages-place-in-loop-place.result in
    let e = c.index-messages-place.result in
    let a = (get_or c.args.messages.now (c.loop-place.place - 1) d).number in
    let b = (get_or c.args.messages.now c.loop-place.place e).number in
    let under = sym (ap (is_some_and is_lt) (Some-then (nat_cmp b.command a.command) (nat_cmp b.place a.place))) ∙ sym c.lt.ensures ∙ c.if-lt.true in
    sym (messages_fall c.args.messages.now c.loop-place.place d e (omega arith) c.loop-place-test.true under)

pub returns-clause-test : goal.returns-clause-test
returns-clause-test c =
    sym (from_rising c.args.messages.now (rising_near c.args.messages.now (λ k d within. c.loop-place.invariant k d (omega arith))))

pub returns-clause-rising : goal.returns-clause-rising
returns-clause-rising c _ =
    rising_near c.args.messages.now (λ k d within. c.loop-place.invariant k d (omega arith))
