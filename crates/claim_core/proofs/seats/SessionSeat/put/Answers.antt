use Rattle.std.proofs.Common.{arith, refl, sym, ap, subst, ◌∙◌, ◌∷◌, [], ◌++◌, ◌%◌, ◌≤◌, None}
use Rattle.atomic_table.specs.Table.{rest}
use Rattle.claim_core.specs.declared.views.View.TheVariants.{Claims}
use Rattle.claim_core.specs.Counts.{open_of}
use Rattle.claim_core.specs.Steps.{IsLast}
use Rattle.claim_core.specs.Seats.{SessionSeatValue, claimer_of, session_value, with_own}
use Rattle.claim_core.proofs.Waiting.{open_snoc, kept_waiting}
use Rattle.claim_core.proofs.seats.SessionSeat.put.Goals as goal

pub ready-requires-clause-claimed : goal.ready-requires-clause-claimed
ready-requires-clause-claimed g c = let seat = c.self.inside in let d = claimer_of seat.table_seat.me.0 in let told = c.claim-ticket.ensures.told in
    (_, d.own, _, (told.2 d c.self.invariant.claims).0, refl, refl, told.0 ∙ (λ i. (c.claim-ticket.result % c.requires.places.0 i, None) ∷ seat.table_seat.me.1))

pub push_reserved-requires : goal.push_reserved-requires
push_reserved-requires g c = omega (arith, kept_waiting _ _ c.self.inside.table_seat.me.0 _ _ c.self.view_is c.self.invariant.waits_is, c.self.invariant.room, c.requires.room.1)

pub invariant_of-self : goal.invariant_of-self
invariant_of-self g c = let seat = c.self.inside in let d = claimer_of seat.table_seat.me.0 in let told = c.claim-ticket.ensures.told in let q = told.2 d c.self.invariant.claims in let did = c.ready.ensures.told in let view = did.1 _ q.0 in
    record {
      claims = view ∙ sym (ap (λ v. Claims (claimer_of v)) view);
      nothing_out = did.0 ∙ (ap rest told.0 ∙ c.self.invariant.nothing_out);
      idle = ap (λ v. (claimer_of v).pending) view;
      waits_is = c.push_reserved.ensures.items ∙ (ap (λ l. l ++ c.claim-ticket.result ∷ []) c.self.invariant.waits_is ∙ (sym (open_snoc d.seen d.own (c.claim-ticket.result, c.args.entry.command) q.1) ∙ sym (ap (λ v. open_of (claimer_of v).seen (claimer_of v).own) view)));
      room = omega (arith, c.self.invariant.room, c.push_reserved.ensures.capacity);
    }

pub returns-clause-added : goal.returns-clause-added
returns-clause-added g c = let seat = c.self.inside in let d = claimer_of seat.table_seat.me.0 in let q = c.claim-ticket.ensures.told.2 d c.self.invariant.claims in let view = c.ready.ensures.told.1 _ q.0 in let ring = c.ready.ensures.ring ∙ c.claim-ticket.ensures.ring in
    (λ i. session_value (ring i) seat.number (view i)) ∙ ap (λ s. with_own s c.claim-ticket.result c.args.entry.command) c.self.view_is

pub returns-clause-unseen : goal.returns-clause-unseen
returns-clause-unseen g c = let q = c.claim-ticket.ensures.told.2 (claimer_of c.self.inside.table_seat.me.0) c.self.invariant.claims in subst (λ (s : SessionSeatValue). s.seen ≤ c.claim-ticket.result) c.self.view_is q.1

pub returns-clause-last : goal.returns-clause-last
returns-clause-last g c = let q = c.claim-ticket.ensures.told.2 (claimer_of c.self.inside.table_seat.me.0) c.self.invariant.claims in subst (λ (s : SessionSeatValue). IsLast c.claim-ticket.result s.own) c.self.view_is q.2
