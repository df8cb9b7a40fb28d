use Rattle.escape_core.proofs.Reading.{IsDefinedTo}
use Rattle.escape_core.proofs.is_defined.Given as goal

abbrev pub invariant-loop-b : goal.invariant-loop-b
invariant-loop-b l = IsDefinedTo l.bytes l.in_escape l.b-index
