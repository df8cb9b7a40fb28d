use Rattle.std.proofs.Common.{◌≡◌, ◌<◌, ◌≤◌, ◌∙◌, ap, arith, false, subst, sym}
use Rattle.std.proofs.lemmas.Bool.{leb-false, leb-true}
use Rattle.broker_core.specs.States.{State}
use Rattle.flush_core.specs.Backlogs.{IsLight, backlog, cost_of, most_cost}
use Rattle.flush_core.specs.Batches.{between, state_at}
use Rattle.flush_core.specs.Flusher.{Flushed, state_stored}
use Rattle.flush_core.proofs.CompactionLeaves.{given_state}
use Rattle.flush_core.proofs.BacklogCounts.{counted_due, counted_light}
use Rattle.flush_core.proofs.flusher.Flusher.is_due.Goals as goal

pub returns : goal.returns
returns g c = record {
  light = λ no.
      let it = c.self.inside in
      let whole : it.broken ≡ false = ap (λ (f : Flushed g.row.D.Denot). f.broken) c.self.view_is ∙ c.requires.done.0 in
      let executed : it.executed ≡ it.stored = subst (λ (f : Flushed g.row.D.Denot). f.executed ≡ f.stored) (sym c.self.view_is) c.requires.done.1 in
      let same : it.broker.state ≡ state_at it.opening.value.state it.seat it.stored = given_state g.D.Disk.honest g.D.Disk.images _ c.args.self.now c.self.view_is c.self.invariant.0 whole c.requires.done.1 in
      subst (λ (f : Flushed g.row.D.Denot). IsLight f) c.self.view_is
      (subst (λ (s : State). cost_of (state_at it.opening.value.state it.seat it.counted_from) (between it.seat it.counted_from it.stored) < most_cost s) same
      (counted_light it.opening.value.state it.seat it.counted_from it.executed it.stored it.counted it.broker.state executed (omega (arith, leb-false c.most_cost.result it.counted no, c.most_cost.ensures)) (c.self.invariant.4 whole)));
  due = λ yes.
      let it = c.self.inside in
      let whole : it.broken ≡ false = ap (λ (f : Flushed g.row.D.Denot). f.broken) c.self.view_is ∙ c.requires.done.0 in
      let executed : it.executed ≡ it.stored = subst (λ (f : Flushed g.row.D.Denot). f.executed ≡ f.stored) (sym c.self.view_is) c.requires.done.1 in
      let same : it.broker.state ≡ state_at it.opening.value.state it.seat it.stored = given_state g.D.Disk.honest g.D.Disk.images _ c.args.self.now c.self.view_is c.self.invariant.0 whole c.requires.done.1 in
      subst (λ (f : Flushed g.row.D.Denot). most_cost (state_stored f) ≤ backlog f) c.self.view_is
      (subst (λ (s : State). most_cost s ≤ cost_of (state_at it.opening.value.state it.seat it.counted_from) (between it.seat it.counted_from it.stored)) same
      (counted_due it.opening.value.state it.seat it.counted_from it.executed it.stored it.counted it.broker.state executed (omega (arith, leb-true c.most_cost.result it.counted yes, c.most_cost.ensures)) (c.self.invariant.4 whole)));
}
