use Rattle.std.specs.List.{AllByRecursion}
use Rattle.command_line.specs.Calls.{MayBeGiven}
use Rattle.command_line.proofs.calling.headers_in.Given as goal

abbrev pub invariant-loop-text : goal.invariant-loop-text
invariant-loop-text l = AllByRecursion (λ header. MayBeGiven header.0.now) l.headers.items
