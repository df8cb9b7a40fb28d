use Rattle.std.proofs.Common.{◌≡◌, ◌++◌, string_bytes}
use Rattle.std.specs.List.{flat_map}
use Rattle.engine_core.specs.Queues.{line_of_out}
use Rattle.engine_core.proofs.printing.print_outs.Given as goal

abbrev pub invariant-loop-out : goal.invariant-loop-out
invariant-loop-out l = record {
  same : (l.journal.state ≡ l.fn.journal.state) × (l.journal.disk ≡ l.fn.journal.disk);
  durable : l.journal.durable ≡ l.fn.journal.durable;
  text : string_bytes l.text ≡ string_bytes l.fn.text ++ flat_map (line_of_out l.openers.entries) l.yielded;
}
