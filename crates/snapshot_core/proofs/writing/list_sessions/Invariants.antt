use Rattle.std.proofs.Common.{◌≡◌, ◌++◌}
use Rattle.std.specs.List.{AllByRecursion, flat_map}
use Rattle.snapshot_core.specs.Snapshots.{IsSession, listed, session}
use Rattle.snapshot_core.specs.Parts.{written}
use Rattle.snapshot_core.proofs.writing.list_sessions.Given as goal

abbrev pub invariant-loop-number : goal.invariant-loop-number
invariant-loop-number l = record {
  put : written l.parts.items ++ flat_map session l.number-iterator ≡ written l.fn.parts.items ++ listed session l.sessions.entries;
  form : AllByRecursion IsSession l.number-iterator → AllByRecursion IsSession l.sessions.entries;
}
