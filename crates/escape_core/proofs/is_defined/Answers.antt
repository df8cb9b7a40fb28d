use Rattle.std.proofs.Common.{arith, rules}
use Rattle.escape_core.proofs.Reading.{defined_escape, defined_next, defined_end}
use Rattle.escape_core.proofs.is_defined.Goals as goal
use Rattle.escape_core.proofs.is_defined.Goals.{then-in_escape+else-is_none, else-in_escape}

pub loop-b-preserved : goal.loop-b-preserved
loop-b-preserved c =
    let bytes = c.args.bytes.now in
    let i = c.loop-b.b-index in
    elim c.if-in_escape.branch [
      | then-in_escape+else-is_none w ↦ defined_escape bytes _ _ i (omega arith) w.if-in_escape.true w.in_escape-is (search rules) c.loop-b.invariant
      | else-in_escape w ↦ defined_next bytes _ _ i (omega arith) w.if-in_escape.false w.in_escape-is c.loop-b.invariant
    ]

pub returns : goal.returns
returns c = defined_end c.args.bytes.now c.loop-b.in_escape c.loop-b.b-index c.loop-b-test.false c.loop-b.invariant
