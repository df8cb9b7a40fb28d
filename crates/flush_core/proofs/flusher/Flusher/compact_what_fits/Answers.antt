use Rattle.std.proofs.Common.{◌∙◌, ap, inr, subst, sym}
use Rattle.recover_core.specs.Compactions.{HasNoRoomFor}
use Rattle.flush_core.specs.FlusherCalls.{is_too_long}
use Rattle.flush_core.specs.Flusher.{Flushed, state_stored}
use Rattle.flush_core.proofs.DiskCalls.{lasts_same}
use Rattle.flush_core.proofs.CompactionDue.{counted_so, may_so, moments_same, none_so}
use Rattle.flush_core.proofs.flusher.Flusher.compact_what_fits.Goals as goal

pub returns-then-has_room_for_state-clause-any_moment : goal.returns-then-has_room_for_state-clause-any_moment
returns-then-has_room_for_state-clause-any_moment g c = c.compact_journal.ensures.any_moment

pub returns-then-has_room_for_state-clause-refuses : goal.returns-then-has_room_for_state-clause-refuses
returns-then-has_room_for_state-clause-refuses g c = c.compact_journal.ensures.refuses

pub returns-then-has_room_for_state-clause-breaks : goal.returns-then-has_room_for_state-clause-breaks
returns-then-has_room_for_state-clause-breaks g c = c.compact_journal.ensures.breaks

pub returns-then-has_room_for_state-clause-lasts : goal.returns-then-has_room_for_state-clause-lasts
returns-then-has_room_for_state-clause-lasts g c = c.compact_journal.ensures.lasts

pub returns-then-has_room_for_state-clause-compacts : goal.returns-then-has_room_for_state-clause-compacts
returns-then-has_room_for_state-clause-compacts g c = may_so g.D.Disk c.args.self.now c.compact_journal.new.self c.compact_journal.result c.compact_journal.ensures.compacts

pub returns-then-has_room_for_state-clause-none : goal.returns-then-has_room_for_state-clause-none
returns-then-has_room_for_state-clause-none g c = none_so g.D.Disk c.args.self.now c.compact_journal.new.self c.compact_journal.result c.compact_journal.ensures.compacts

pub returns-then-has_room_for_state-clause-counted : goal.returns-then-has_room_for_state-clause-counted
returns-then-has_room_for_state-clause-counted g c = counted_so g.D.Disk c.args.self.now c.compact_journal.new.self c.compact_journal.result c.compact_journal.ensures.compacts

pub returns-clause-any_moment : goal.returns-clause-any_moment
returns-clause-any_moment g c =
    moments_same g.D.Disk c.args.self.now c.count_afresh.new.self (ap (λ (f : Flushed g.row.D.Denot). f.disk) c.count_afresh.ensures) c.has_room_for_state.ensures.kept (g.met.D.Disk.only_now c.args.self.now.disk)

pub returns-clause-compacts : goal.returns-clause-compacts
returns-clause-compacts g c = is_too_long (c.has_room_for_state.ensures.none c.if-has_room_for_state.false) c.count_afresh.ensures

pub returns-clause-none : goal.returns-clause-none
returns-clause-none g c = inr (subst (λ (f : Flushed g.row.D.Denot). HasNoRoomFor f.size (state_stored f)) (sym c.count_afresh.ensures) (c.has_room_for_state.ensures.none c.if-has_room_for_state.false))

pub returns-clause-counted : goal.returns-clause-counted
returns-clause-counted g c = ap (λ (f : Flushed g.row.D.Denot). f.last.counted) c.count_afresh.ensures ∙ sym (ap (λ (f : Flushed g.row.D.Denot). f.stored) c.count_afresh.ensures)

pub returns-clause-refuses : goal.returns-clause-refuses
returns-clause-refuses g c = record { full = λ is. absurd (cc is); no_room = λ honest is. absurd (cc is) }

pub returns-clause-breaks : goal.returns-clause-breaks
returns-clause-breaks g c = record {
  outcome = (c.requires.done.0, ap (λ (f : Flushed g.row.D.Denot). f.broken) c.count_afresh.ensures ∙ c.requires.done.0);
  stops = tt;
  cause = ap (λ (f : Flushed g.row.D.Denot). g.D.Disk.failures f.disk) c.count_afresh.ensures;
}

pub returns-clause-lasts : goal.returns-clause-lasts
returns-clause-lasts g c = lasts_same g.D.Disk c.args.self.now.disk c.count_afresh.new.self.disk (ap (λ (f : Flushed g.row.D.Denot). f.disk) c.count_afresh.ensures)
