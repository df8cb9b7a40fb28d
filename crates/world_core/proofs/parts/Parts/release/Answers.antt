use Rattle.std.proofs.Common.{◌<◌, IsSomeAnd, slice_get, ℕ, List, ap, refl}
use Rattle.world_core.specs.Events.{AreThere}
use Rattle.world_core.specs.Parts.{value_of}
use Rattle.world_core.proofs.Telling.{fails_where, holds_where}
use Rattle.world_core.proofs.parts.Parts.release.Goals as goal

pub returns-then-not-are_there-clause-ok : goal.returns-then-not-are_there-clause-ok
returns-then-not-are_there-clause-ok c r x =
    (λ may. fails_where c.are_there.result (AreThere c.args.self.now.phase) c.are_there.ensures c.if-not-are_there.true may.0, refl)

pub returns-then-not-has_seen-clause-ok : goal.returns-then-not-has_seen-clause-ok
returns-then-not-has_seen-clause-ok c r x =
    (λ may. fails_where c.has_seen.result (IsSomeAnd (slice_get c.args.self.now.seats.items c.args.j) (λ seat. c.args.n < seat.seen)) c.has_seen.ensures c.if-not-has_seen.true may.1, refl)

pub returns-clause-ok : goal.returns-clause-ok
returns-clause-ok c r x =
    let w = value_of c.args.self.now in (
      (
        holds_where c.are_there.result (AreThere w.phase) c.are_there.ensures c.if-not-are_there.false,
        holds_where c.has_seen.result (IsSomeAnd (slice_get w.seats c.args.j) (λ seat. c.args.n < seat.seen)) c.has_seen.ensures c.if-not-has_seen.false,
      ),
      ap (λ (l : List ℕ). record w { released = l }) c.in_ok-push.ensures.items,
    )
