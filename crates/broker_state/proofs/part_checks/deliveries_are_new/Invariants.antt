use Rattle.std.proofs.Common.{◌≡◌, ◌+◌, cond, count_by, take}
use Rattle.std.specs.BTreeMap.{is_at}
use Rattle.line_core.specs.Lines.{is_same}
use Rattle.line_core.specs.declared.message.MessageNumber.{MessageNumber}
use Rattle.broker_state.specs.Seen.{seen_at}
use Rattle.broker_state.proofs.part_checks.deliveries_are_new.Given as goal

abbrev pub invariant-loop-message : goal.invariant-loop-message
invariant-loop-message g l = (q : g.row.K.Denot) (number : MessageNumber) → seen_at g.K.Ord.cmp l.seen q number
    ≡ seen_at g.K.Ord.cmp l.fn.seen q number
    + cond (is_at (g.K.Ord.cmp q) l.key) (count_by (λ d. is_same number d.1.number) (take l.message-index l.deliveries)) 0
