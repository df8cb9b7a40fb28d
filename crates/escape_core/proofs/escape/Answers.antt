use Rattle.std.proofs.Common.{rules}
use Rattle.escape_core.proofs.Reading.{escaped_next}
use Rattle.escape_core.proofs.escape.Goals as goal

pub loop-b-preserved : goal.loop-b-preserved
loop-b-preserved c = escaped_next c.args.text.now _ _ c.loop-b.b-index c.loop-b-test.true c.loop-b.invariant (search rules)
