use Rattle.std.proofs.Common.{◌≡◌, ◌+◌, cond, take}
use Rattle.std.specs.BTreeMap.{is_at}
use Rattle.line_core.specs.declared.message.MessageNumber.{MessageNumber}
use Rattle.broker_state.specs.Seen.{count_of, seen_at}
use Rattle.broker_state.proofs.part_checks.line_is_new.Given as goal

abbrev pub invariant-loop-at : goal.invariant-loop-at
invariant-loop-at g l = (q : g.row.K.Denot) (number : MessageNumber) → seen_at g.K.Ord.cmp l.seen q number
    ≡ seen_at g.K.Ord.cmp l.fn.seen q number + cond (is_at (g.K.Ord.cmp q) l.key) (count_of number (take l.at l.line)) 0
