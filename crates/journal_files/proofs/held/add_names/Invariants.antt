use Rattle.std.proofs.Common.{◌≡◌, ◌++◌, map}
use Rattle.journal_files.specs.Held.{names_waiting, waits_of}
use Rattle.journal_files.proofs.held.add_names.Given as goal

abbrev pub invariant-loop-name : goal.invariant-loop-name
invariant-loop-name l = map waits_of l.lots.items ++ names_waiting l.name-iterator l.lines.entries ≡ map waits_of l.fn.lots.items ++ names_waiting l.durables.entries l.lines.entries
