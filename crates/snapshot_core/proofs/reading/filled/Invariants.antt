use Rattle.std.proofs.Common.{◌≡◌, ◌++◌}
use Rattle.snapshot_core.proofs.reading.filled.Given as goal

abbrev pub invariant-loop-key : goal.invariant-loop-key
invariant-loop-key g l = l.map.entries ++ l.key-iterator.rest.items ≡ l.fn.items.items
