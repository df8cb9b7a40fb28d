use Rattle.std.proofs.Common.{inl, refl}
use Rattle.flush_core.specs.FlusherCalls.{FlushBreaks}
use Rattle.flush_core.proofs.DiskCalls.{lasts_same}
use Rattle.flush_core.proofs.BatchFitsThen.{calm_so, on_err, stays_so, was_compacted}
use Rattle.flush_core.proofs.flusher.Flusher.win_room.Goals as goal

pub returns-then-has_room-clause-any_moment : goal.returns-then-has_room-clause-any_moment
returns-then-has_room-clause-any_moment g c = λ honest whole.
    stays_so g.D.Disk c.args.self.now c.has_room.ensures.kept whole (g.met.D.Disk.only_now c.args.self.now.disk) honest

pub returns-then-has_room-clause-wins : goal.returns-then-has_room-clause-wins
returns-then-has_room-clause-wins g c = record {
  made = inl (record { same = refl; fits = c.has_room.ensures.fits c.if-has_room.true });
  needed = tt;
}

pub returns-then-has_room-clause-refuses : goal.returns-then-has_room-clause-refuses
returns-then-has_room-clause-refuses g c = record { full = λ is. absurd (cc is); no_room = λ honest is. absurd (cc is) }

pub returns-then-has_room-clause-breaks : goal.returns-then-has_room-clause-breaks
returns-then-has_room-clause-breaks g c = tt

pub returns-then-has_room-clause-calm : goal.returns-then-has_room-clause-calm
returns-then-has_room-clause-calm g c = refl

pub returns-then-has_room-clause-lasts : goal.returns-then-has_room-clause-lasts
returns-then-has_room-clause-lasts g c = lasts_same g.D.Disk c.args.self.now.disk c.args.self.now.disk refl

pub returns-else-has_room-clause-wins : goal.returns-else-has_room-clause-wins
returns-else-has_room-clause-wins g c =
    was_compacted g.D.Disk c.args.self.now c.compact_journal.new.self c.compact_journal.result c.requires.done.0
    (c.has_room.ensures.long c.if-has_room.false) c.compact_journal.ensures.compacts

pub returns-else-has_room-clause-refuses : goal.returns-else-has_room-clause-refuses
returns-else-has_room-clause-refuses g c = c.compact_journal.ensures.refuses

pub returns-else-has_room-clause-breaks : goal.returns-else-has_room-clause-breaks
returns-else-has_room-clause-breaks g c =
    on_err c.compact_journal.result (FlushBreaks g.D.Disk c.args.self.now c.compact_journal.new.self c.compact_journal.result) c.compact_journal.ensures.breaks

pub returns-else-has_room-clause-calm : goal.returns-else-has_room-clause-calm
returns-else-has_room-clause-calm g c = calm_so g.D.Disk c.args.self.now c.compact_journal.new.self c.compact_journal.result c.compact_journal.ensures.breaks
