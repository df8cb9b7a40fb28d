use Rattle.std.proofs.Common.{◌≡◌, ◌<◌, ◌∙◌, ap, arith, length, set, slice_set, subst, sym, true}
use Rattle.atomic_table.proofs.Lists.{at_index}
use Rattle.claim_core.specs.Seats.{SessionSeatValue}
use Rattle.engine_core.specs.Journals.{JournalValue}
use Rattle.engine_core.specs.Placed.{IsReadBy}
use Rattle.engine_core.proofs.Resting.{still_rest}
use Rattle.engine_core.proofs.journal.Journal.release.Goals as goal

pub release-requires : goal.release-requires
release-requires g c =
    let whole : c.self.inside.whole ≡ true = sym c.replace.ensures.value ∙ c.if-not-replace.false in
    let at = at_index c.self.inside.seats.items _ c.index_mut.result.now (omega (arith, c.if-place-len.false, c.len.ensures)) c.index_mut.ensures.value in
    (omega arith, (omega arith, (c.self.invariant whole).seats_are _ c.index_mut.result.now at))

pub invariant_of-self-in-Ok : goal.invariant_of-self-in-Ok
invariant_of-self-in-Ok g c = λ again.
    let whole : c.self.inside.whole ≡ true = sym c.replace.ensures.value ∙ c.if-not-replace.false in
    still_rest _ _ _ _ _ _ (at_index c.self.inside.seats.items _ c.index_mut.result.now (omega (arith, c.if-place-len.false, c.len.ensures)) c.index_mut.ensures.value)
    (ap (λ (s : SessionSeatValue). s.ring) c.release.ensures.seen) (c.self.invariant whole)

pub returns-in-Ok-clause-seat : goal.returns-in-Ok-clause-seat
returns-in-Ok-clause-seat g c =
    let seats = c.self.inside.seats.items in
    let some : c.args.connection < length seats = omega (arith, c.if-place-len.false, c.len.ensures) in
    subst (λ (j : JournalValue g.row.D.Denot). IsReadBy c.args.connection c.args.out.number j.seats (slice_set seats c.args.connection c.release.new.seat)) c.self.view_is
    (record {
      seat = c.index_mut.result.now;
      at = at_index seats c.args.connection c.index_mut.result.now some c.index_mut.ensures.value;
      mark = c.release.new.seat.seen;
      under = c.in-Ok.ensures.released.1;
      is = ap (set seats c.args.connection) c.release.ensures.seen;
    })
