use Rattle.std.proofs.Common.{◌≡◌, ◌∙◌, ap, false, subst}
use Rattle.broker_core.specs.States.{BrokerValue, State}
use Rattle.recover_core.specs.Compactions.{HasNoRoomFor}
use Rattle.recover_core.specs.Stores.{size_of}
use Rattle.flush_core.specs.Batches.{state_at}
use Rattle.flush_core.specs.Flusher.{Flushed, IsFlusher, state_stored}
use Rattle.flush_core.proofs.CompactionLeaves.{given_state}
use Rattle.flush_core.proofs.flusher.Flusher.has_room_for_state.Goals as goal

pub fits_state-requires : goal.fits_state-requires
fits_state-requires g c = record { whole = ap (λ (b : BrokerValue). b.broken) (c.self.invariant.0.running (ap (λ (f : Flushed g.row.D.Denot). f.broken) c.self.view_is ∙ c.requires.done.0)).broker }

pub returns-clause-none : goal.returns-clause-none
returns-clause-none g c = λ no.
    let it = c.self.inside in
    let whole : it.broken ≡ false = ap (λ (f : Flushed g.row.D.Denot). f.broken) c.self.view_is ∙ c.requires.done.0 in
    let same : it.broker.state ≡ state_at it.opening.value.state it.seat it.stored = given_state g.D.Disk.honest g.D.Disk.images _ c.args.self.now c.self.view_is c.self.invariant.0 whole c.requires.done.1 in
    subst (λ (f : Flushed g.row.D.Denot). HasNoRoomFor f.size (state_stored f)) c.self.view_is
    (subst (λ (s : State). HasNoRoomFor (size_of it.journal) s) same (c.fits_state.ensures.no no))

pub returns-clause-kept : goal.returns-clause-kept
returns-clause-kept g c = subst (λ (f : Flushed g.row.D.Denot). IsFlusher g.D.Disk.honest g.D.Disk.images f) c.self.view_is c.self.invariant.0
