use Rattle.std.proofs.Common.{◌≡◌, ◌∙◌, false, refl, sym, true}
use Rattle.flush_core.specs.FlusherCalls.{is_left}
use Rattle.flush_core.proofs.DiskCalls.{lasts_same}
use Rattle.flush_core.proofs.CompactionDue.{due_so, moments_same}
use Rattle.flush_core.proofs.flusher.Flusher.compact_if_due.Goals as goal

pub returns-then-is_broken-clause-any_moment : goal.returns-then-is_broken-clause-any_moment
returns-then-is_broken-clause-any_moment g c =
    let broken : c.args.self.now.broken ≡ true = sym c.is_broken.ensures.value ∙ c.if-is_broken.true in
    λ h whole. absurd (cc (broken, whole))

pub returns-then-is_broken-clause-compacts : goal.returns-then-is_broken-clause-compacts
returns-then-is_broken-clause-compacts g c = tt

pub returns-then-is_broken-clause-refuses : goal.returns-then-is_broken-clause-refuses
returns-then-is_broken-clause-refuses g c = record { full = λ is. absurd (cc is); no_room = λ honest is. absurd (cc is) }

pub returns-then-is_broken-clause-breaks : goal.returns-then-is_broken-clause-breaks
returns-then-is_broken-clause-breaks g c =
    let broken : c.args.self.now.broken ≡ true = sym c.is_broken.ensures.value ∙ c.if-is_broken.true in
    record { outcome = (broken, refl); stops = (broken, c.is_broken.ensures.kept.stopped broken); cause = refl }

pub returns-then-is_broken-clause-lasts : goal.returns-then-is_broken-clause-lasts
returns-then-is_broken-clause-lasts g c = lasts_same g.D.Disk c.args.self.now.disk c.args.self.now.disk refl

pub compact_what_fits-requires-clause-done : goal.compact_what_fits-requires-clause-done
compact_what_fits-requires-clause-done g c =
    let whole : c.args.self.now.broken ≡ false = sym c.is_broken.ensures.value ∙ c.if-is_broken.false in
    (whole, c.requires.executed whole)

pub is_due-requires : goal.is_due-requires
is_due-requires g c =
    let whole : c.args.self.now.broken ≡ false = sym c.is_broken.ensures.value ∙ c.if-is_broken.false in
    record { done = (whole, c.requires.executed whole) }

pub returns-then-is_due-clause-any_moment : goal.returns-then-is_due-clause-any_moment
returns-then-is_due-clause-any_moment g c = c.compact_what_fits.ensures.any_moment

pub returns-then-is_due-clause-compacts : goal.returns-then-is_due-clause-compacts
returns-then-is_due-clause-compacts g c = due_so g.D.Disk c.args.self.now c.compact_what_fits.new.self c.compact_what_fits.result c.compact_what_fits.ensures.compacts c.compact_what_fits.ensures.counted (c.is_due.ensures.due c.if-is_due.true)

pub returns-then-is_due-clause-refuses : goal.returns-then-is_due-clause-refuses
returns-then-is_due-clause-refuses g c = c.compact_what_fits.ensures.refuses

pub returns-then-is_due-clause-breaks : goal.returns-then-is_due-clause-breaks
returns-then-is_due-clause-breaks g c = c.compact_what_fits.ensures.breaks

pub returns-then-is_due-clause-lasts : goal.returns-then-is_due-clause-lasts
returns-then-is_due-clause-lasts g c = c.compact_what_fits.ensures.lasts

pub returns-clause-any_moment : goal.returns-clause-any_moment
returns-clause-any_moment g c = moments_same g.D.Disk c.args.self.now c.args.self.now refl c.is_broken.ensures.kept (g.met.D.Disk.only_now c.args.self.now.disk)

pub returns-clause-compacts : goal.returns-clause-compacts
returns-clause-compacts g c = record { may = is_left refl; light = c.is_due.ensures.light c.if-is_due.false; needed = λ light. refl }

pub returns-clause-refuses : goal.returns-clause-refuses
returns-clause-refuses g c = record { full = λ is. absurd (cc is); no_room = λ honest is. absurd (cc is) }

pub returns-clause-breaks : goal.returns-clause-breaks
returns-clause-breaks g c =
    let whole : c.args.self.now.broken ≡ false = sym c.is_broken.ensures.value ∙ c.if-is_broken.false in
    record { outcome = (whole, whole); stops = tt; cause = refl }

pub returns-clause-lasts : goal.returns-clause-lasts
returns-clause-lasts g c = lasts_same g.D.Disk c.args.self.now.disk c.args.self.now.disk refl
