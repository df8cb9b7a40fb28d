use Rattle.std.proofs.Common.{◌≡◌, ◌≤◌}
use Rattle.std.specs.Prelude.{vec_len, vec_capacity}
use Rattle.claim_core.specs.Seats.{new_flushing}
use Rattle.claim_core.proofs.Starting.{AllNew, Numbered}
use Rattle.claim_core.proofs.ring.Ring.deal_all.Given as goal

abbrev pub invariant-loop-number : goal.invariant-loop-number
invariant-loop-number g l =
    (vec_len l.seats ≡ l.number) × (g.row.SEATS ≤ vec_capacity l.seats) × (l.flush ≡ new_flushing l.self l.fn.flush.base l.number)
    × AllNew l.self l.fn.flush.base l.seats.items × Numbered l.seats.items
