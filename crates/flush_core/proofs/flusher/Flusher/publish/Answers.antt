use Rattle.std.proofs.Common.{arith, ap, length, sym, subst, ◌∙◌, ◌≡◌, List, false}
use Rattle.std.specs.Prelude.{is_none}
use Rattle.outbox_core.specs.Giving.{AreGiven, box_of}
use Rattle.claim_core.specs.Seats.{FlushSeatValue}
use Rattle.command_core.specs.Outs.{OutValue}
use Rattle.recover_core.specs.Standing.{StandFor}
use Rattle.flush_core.specs.Batches.{state_at}
use Rattle.flush_core.specs.FlusherFields.{flushed_of}
use Rattle.flush_core.specs.Flusher.{AreUnder, Flushed}
use Rattle.flush_core.specs.FlusherOutcomes.{publishing, standing}
use Rattle.flush_core.proofs.BacklogCounts.{counts_marked}
use Rattle.flush_core.proofs.FlusherKeeps.{held_marked, publishes}
use Rattle.flush_core.proofs.flusher.Flusher.publish.Goals as goal

pub give-requires-clause-room : goal.give-requires-clause-room
give-requires-clause-room g c =
    let whole : c.self.inside.broken ≡ false = ap (λ (f : Flushed g.row.D.Denot). f.broken) c.self.view_is ∙ c.requires.whole in
    record { behind = (c.self.invariant.1 whole).room_is; none = (c.self.invariant.2 whole).none; beside = (c.self.invariant.2 whole).room_is }

pub invariant_of-self : goal.invariant_of-self
invariant_of-self g c =
    let it = c.self.inside in
    let f = flushed_of it in
    let whole : it.broken ≡ false = ap (λ (f : Flushed g.row.D.Denot). f.broken) c.self.view_is ∙ c.requires.whole in
    let executed : it.executed ≡ it.stored = subst (λ (f : Flushed g.row.D.Denot). f.executed ≡ f.stored) (sym c.self.view_is) c.requires.executed in
    let waiting = ap (λ (l : List OutValue). length l) c.give.ensures.none.0 in (
      publishes g.D.Disk.honest g.D.Disk.images f c.raise.new.seat c.give.new.self.boxes c.give.new.self.ended.items c.give.new.self.past.items (λ (out : OutValue). is_none (box_of out.session (standing f))) c.give.new.self.waiting.items c.give.new.self.left.items
          c.raise.ensures c.give.ensures.none.0 c.give.ensures.left executed whole c.self.invariant.0,
      λ w. held_marked it.seat c.raise.new.seat it.stored it.stored it.executed _ it.batch.items it.done.items it.bytes _ _ _ _ _ _ c.raise.ensures
          (λ some. omega (arith, waiting, c.give.new.self.left.ok.0, c.give.new.self.left.ok.1)) (c.self.invariant.1 w),
      λ w. record { none = ap (λ (l : List OutValue). length l) c.give.ensures.none.1; room_is = omega (arith, waiting) },
      c.self.invariant.3,
      λ w. counts_marked it.opening.value.state it.seat c.raise.new.seat it.stored _ _ _ c.raise.ensures (c.self.invariant.4 w),
    )

pub returns-clause-published : goal.returns-clause-published
returns-clause-published g c =
    let it = c.self.inside in
    let f = flushed_of it in
    (λ i. record f { seat = c.raise.ensures i; boxes = c.give.new.self.boxes; ended = c.give.ensures.ended.0 i; past = c.give.ensures.ended.1 i; waiting = c.give.ensures.none.0 i; left = c.give.ensures.left i })
    ∙ ap (λ (f : Flushed g.row.D.Denot). publishing f c.give.new.self.boxes) c.self.view_is

pub returns-clause-given : goal.returns-clause-given
returns-clause-given g c =
    subst (λ (f : Flushed g.row.D.Denot). AreGiven f.waiting (standing f) c.give.new.self.boxes) c.self.view_is c.give.ensures.given

pub returns-clause-held : goal.returns-clause-held
returns-clause-held g c =
    let it = c.self.inside in
    let whole : it.broken ≡ false = ap (λ (f : Flushed g.row.D.Denot). f.broken) c.self.view_is ∙ c.requires.whole in
    subst (λ (s : FlushSeatValue). g.D.Disk.honest it.journal.disk → StandFor (g.D.Disk.images it.journal.disk) (state_at it.opening.value.state s s.published)) (sym c.raise.ensures)
    (c.self.invariant.0.running whole).stands

pub give-requires-clause-under : goal.give-requires-clause-under
give-requires-clause-under g c =
    let it = c.self.inside in
    let whole : it.broken ≡ false = ap (λ (f : Flushed g.row.D.Denot). f.broken) c.self.view_is ∙ c.requires.whole in
    let executed : it.executed ≡ it.stored = subst (λ (f : Flushed g.row.D.Denot). f.executed ≡ f.stored) (sym c.self.view_is) c.requires.executed in
    subst (λ (s : FlushSeatValue). AreUnder s.published it.outlet.waiting.items) (sym c.raise.ensures)
    (subst (λ n. AreUnder n it.outlet.waiting.items) executed (c.self.invariant.0.running whole).waiting)
