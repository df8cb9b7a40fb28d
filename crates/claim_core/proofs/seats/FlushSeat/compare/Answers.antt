use Rattle.std.proofs.Common.{[], ◌∷◌, refl, ap, ◌∙◌}
use Rattle.claim_core.specs.Steps.{joined_to}
use Rattle.claim_core.specs.Seats.{claimer_from, owner_of, owner_with}
use Rattle.claim_core.proofs.History.{agree, gathered}
use Rattle.claim_core.proofs.seats.FlushSeat.compare.Goals as goal

pub gather-requires-clause-owner : goal.gather-requires-clause-owner
gather-requires-clause-owner g c = (owner_of c.self.inside.table_seat.me.0, ap (λ m. m.0) c.stand_in-nobody.ensures.told ∙ c.self.invariant.owns)

pub load_tail-tail-requires-clause-owner : goal.load_tail-tail-requires-clause-owner
load_tail-tail-requires-clause-owner g c = (
  owner_with c.args.self.now (c.args.seat.now ∷ []),
  gathered _ _ _ _ _ _ _ _ _ _ _ _ _ _ c.self.invariant c.seat.invariant c.self.view_is c.seat.view_is
      (ap (λ m. m.0) c.gather.ensures.told ∙ (λ i. joined_to (ap (λ m. m.0) c.stand_in-nobody.ensures.told i) (ap (λ p. p.me.0) c.replace-table_seat.ensures.value i))),
)

pub hand_back-requires-clause-owner : goal.hand_back-requires-clause-owner
hand_back-requires-clause-owner g c = (
  owner_with c.args.self.now (c.args.seat.now ∷ []),
  claimer_from c.args.seat.now,
  [],
  ap (λ m. m.0) c.load_tail-tail.ensures.told.0
      ∙ gathered _ _ _ _ _ _ _ _ _ _ _ _ _ _ c.self.invariant c.seat.invariant c.self.view_is c.seat.view_is
      (ap (λ m. m.0) c.gather.ensures.told ∙ (λ i. joined_to (ap (λ m. m.0) c.stand_in-nobody.ensures.told i) (ap (λ p. p.me.0) c.replace-table_seat.ensures.value i))),
  refl,
)

pub returns-clause-agree : goal.returns-clause-agree
returns-clause-agree g c = agree c.args.self.now c.args.seat.now c.load_tail-tail.result
    (c.load_tail-tail.ensures.told.1 _
    (gathered _ _ _ _ _ _ _ _ _ _ _ _ _ _ c.self.invariant c.seat.invariant c.self.view_is c.seat.view_is
    (ap (λ m. m.0) c.gather.ensures.told ∙ (λ i. joined_to (ap (λ m. m.0) c.stand_in-nobody.ensures.told i) (ap (λ p. p.me.0) c.replace-table_seat.ensures.value i)))))
