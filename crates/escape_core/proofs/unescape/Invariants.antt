use Rattle.escape_core.proofs.Reading.{IsReadTo}
use Rattle.escape_core.proofs.unescape.Given as goal

abbrev pub invariant-loop-b : goal.invariant-loop-b
invariant-loop-b l = IsReadTo l.bytes l.text.items l.in_escape l.b-index
