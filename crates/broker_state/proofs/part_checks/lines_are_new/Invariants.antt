use Rattle.std.proofs.Common.{◌≡◌, ◌+◌}
use Rattle.std.specs.List.Sorted.{IsStrictlySortedBy}
use Rattle.std.specs.Map.{keys_of}
use Rattle.line_core.specs.declared.message.MessageNumber.{MessageNumber}
use Rattle.broker_state.specs.Seen.{count_of, seen_at}
use Rattle.broker_state.specs.Waiting.{line_at}
use Rattle.broker_state.proofs.part_checks.lines_are_new.Given as goal

abbrev pub invariant-loop-key : goal.invariant-loop-key
invariant-loop-key g l = record {
  noted : (q : g.row.K.Denot) (number : MessageNumber) → seen_at g.K.Ord.cmp l.seen q number + count_of number (line_at g.K.Ord.cmp q l.key-iterator)
      ≡ seen_at g.K.Ord.cmp l.fn.seen q number + count_of number (line_at g.K.Ord.cmp q l.lines.entries);
  rising : IsStrictlySortedBy g.K.Ord.cmp (keys_of l.key-iterator);
}
