use Rattle.disk_core.specs.Spans.{IsHeldIn}
use Rattle.disk_core.proofs.span.release_all.Given as goal

abbrev pub invariant-loop-span : goal.invariant-loop-span
invariant-loop-span l = IsHeldIn l.span-index l.spans l.held
