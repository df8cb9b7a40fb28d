use Rattle.std.proofs.Common.{arith, refl, sym, ap, ◌∙◌, ◌∷◌, ◌%◌, Some, length-append, []}
use Rattle.atomic_table.specs.Table.{rest}
use Rattle.claim_core.specs.Seats.{owner_of}
use Rattle.claim_core.proofs.seats.FlushSeat.pick.Goals as goal

pub exchange-entry-requires : goal.exchange-entry-requires
exchange-entry-requires g c = let seat = c.self.inside in let kept = c.self.invariant in let did = c.hold.ensures.told.1 c.if-hold-ticket.false (owner_of seat.table_seat.me.0) kept.owns in
    (c.hold.ensures.ring ∙ (ap (λ s. s.ring) c.self.view_is ∙ c.requires.fits.0), (Some did.0, did.1 ∙ (λ i. (sym kept.next_is i % c.requires.places.0 i, Some did.0) ∷ sym (ap rest did.1) i)))

pub free-requires-clause-owner : goal.free-requires-clause-owner
free-requires-clause-owner g c = let seat = c.self.inside in let kept = c.self.invariant in let o = owner_of seat.table_seat.me.0 in let did = c.hold.ensures.told.1 c.if-hold-ticket.false o kept.owns in let now = c.exchange-entry.ensures.3 in
    (_, _, ap (λ m. m.0) now ∙ did.2, refl, omega (arith, kept.next_is, length-append o.taken (did.0.command ∷ [])), ap (λ m. m.1) now)
