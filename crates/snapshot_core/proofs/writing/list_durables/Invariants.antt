use Rattle.std.proofs.Common.{◌≡◌, ◌++◌}
use Rattle.std.specs.List.{AllByRecursion, flat_map}
use Rattle.command_core.specs.Destinations.{IsDestination}
use Rattle.broker_core.specs.Names.{name_cmp}
use Rattle.broker_core.specs.Waiting.{line_at}
use Rattle.snapshot_core.specs.Snapshots.{IsLine, IsName, durable, listed}
use Rattle.snapshot_core.specs.Parts.{written}
use Rattle.snapshot_core.proofs.writing.list_durables.Given as goal

abbrev pub invariant-loop-name : goal.invariant-loop-name
invariant-loop-name l = record {
  put : written l.parts.items ++ flat_map (durable l.shared) l.name-iterator ≡ written l.fn.parts.items ++ listed (durable l.shared) l.durables.entries;
  form : AllByRecursion (λ e. IsName e.0 × IsDestination e.1) l.name-iterator → AllByRecursion (λ e. IsName e.0 × IsDestination e.1) l.durables.entries;
  lines : AllByRecursion (λ e. IsLine (line_at name_cmp e.0 l.shared.names)) l.name-iterator → AllByRecursion (λ e. IsLine (line_at name_cmp e.0 l.shared.names)) l.durables.entries;
}
