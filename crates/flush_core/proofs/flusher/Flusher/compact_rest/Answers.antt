use Rattle.std.proofs.Common.{◌≡◌, ◌∙◌, false, inl, refl, sym, true}
use Rattle.flush_core.specs.FlusherCalls.{is_left}
use Rattle.flush_core.proofs.DiskCalls.{lasts_same}
use Rattle.flush_core.proofs.CompactionDue.{moments_same}
use Rattle.flush_core.proofs.flusher.Flusher.compact_rest.Goals as goal

pub returns-then-is_broken-clause-any_moment : goal.returns-then-is_broken-clause-any_moment
returns-then-is_broken-clause-any_moment g c =
    let broken : c.args.self.now.broken ≡ true = sym c.is_broken.ensures.value ∙ c.if-is_broken.true in
    λ h whole. absurd (cc (broken, whole))

pub returns-then-is_broken-clause-compacts : goal.returns-then-is_broken-clause-compacts
returns-then-is_broken-clause-compacts g c = tt

pub returns-then-is_broken-clause-none : goal.returns-then-is_broken-clause-none
returns-then-is_broken-clause-none g c = tt

pub returns-then-is_broken-clause-refuses : goal.returns-then-is_broken-clause-refuses
returns-then-is_broken-clause-refuses g c = record { full = λ is. absurd (cc is); no_room = λ honest is. absurd (cc is) }

pub returns-then-is_broken-clause-breaks : goal.returns-then-is_broken-clause-breaks
returns-then-is_broken-clause-breaks g c =
    let broken : c.args.self.now.broken ≡ true = sym c.is_broken.ensures.value ∙ c.if-is_broken.true in
    record { outcome = (broken, refl); stops = (broken, c.is_broken.ensures.kept.stopped broken); cause = refl }

pub returns-then-is_broken-clause-lasts : goal.returns-then-is_broken-clause-lasts
returns-then-is_broken-clause-lasts g c = lasts_same g.D.Disk c.args.self.now.disk c.args.self.now.disk refl

pub compact_what_fits-requires-clause-done : goal.compact_what_fits-requires-clause-done
compact_what_fits-requires-clause-done g c =
    let whole : c.args.self.now.broken ≡ false = sym c.is_broken.ensures.value ∙ c.if-is_broken.false in
    (whole, c.requires.executed whole)

pub returns-clause-any_moment : goal.returns-clause-any_moment
returns-clause-any_moment g c = c.compact_what_fits.ensures.any_moment

pub returns-clause-compacts : goal.returns-clause-compacts
returns-clause-compacts g c = c.compact_what_fits.ensures.compacts

pub returns-clause-none : goal.returns-clause-none
returns-clause-none g c = c.compact_what_fits.ensures.none

pub returns-clause-refuses : goal.returns-clause-refuses
returns-clause-refuses g c = c.compact_what_fits.ensures.refuses

pub returns-clause-breaks : goal.returns-clause-breaks
returns-clause-breaks g c = c.compact_what_fits.ensures.breaks

pub returns-clause-lasts : goal.returns-clause-lasts
returns-clause-lasts g c = c.compact_what_fits.ensures.lasts

pub returns-then-repeats_nothing-clause-any_moment : goal.returns-then-repeats_nothing-clause-any_moment
returns-then-repeats_nothing-clause-any_moment g c = moments_same g.D.Disk c.args.self.now c.args.self.now refl c.is_broken.ensures.kept (g.met.D.Disk.only_now c.args.self.now.disk)

pub returns-then-repeats_nothing-clause-compacts : goal.returns-then-repeats_nothing-clause-compacts
returns-then-repeats_nothing-clause-compacts g c = is_left refl

pub returns-then-repeats_nothing-clause-refuses : goal.returns-then-repeats_nothing-clause-refuses
returns-then-repeats_nothing-clause-refuses g c = record { full = λ is. absurd (cc is); no_room = λ honest is. absurd (cc is) }

pub returns-then-repeats_nothing-clause-breaks : goal.returns-then-repeats_nothing-clause-breaks
returns-then-repeats_nothing-clause-breaks g c =
    let whole : c.args.self.now.broken ≡ false = sym c.is_broken.ensures.value ∙ c.if-is_broken.false in
    record { outcome = (whole, whole); stops = tt; cause = refl }

pub returns-then-repeats_nothing-clause-lasts : goal.returns-then-repeats_nothing-clause-lasts
returns-then-repeats_nothing-clause-lasts g c = lasts_same g.D.Disk c.args.self.now.disk c.args.self.now.disk refl

pub returns-then-repeats_nothing-clause-none : goal.returns-then-repeats_nothing-clause-none
returns-then-repeats_nothing-clause-none g c = inl (c.repeats_nothing.ensures c.if-repeats_nothing.true)
