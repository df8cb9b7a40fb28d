use Rattle.std.proofs.Common.{◌≡◌, ◌++◌}
use Rattle.std.specs.List.{flat_map}
use Rattle.journal_files.specs.HeldObjects.{name_object}
use Rattle.journal_files.proofs.held.put_each_name.Given as goal

abbrev pub invariant-loop-name : goal.invariant-loop-name
invariant-loop-name l = record {
  before : l.out.before ≡ l.fn.out.before;
  tokens : l.out.tokens ++ flat_map (name_object l.lines.entries) l.name-iterator ≡ l.fn.out.tokens ++ flat_map (name_object l.lines.entries) l.durables.entries;
}
