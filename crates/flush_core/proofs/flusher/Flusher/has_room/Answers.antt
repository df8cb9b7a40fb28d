use Rattle.std.proofs.Common.{◌∙◌, ◌≡◌, ◌≤◌, ◌<◌, ◌+◌, ℕ, inl, inr, ap, length, subst, sym, false}
use Rattle.std.proofs.lemmas.Bool.{cases_lt, false≢true}
use Rattle.area_core.specs.Areas.{records}
use Rattle.recover_core.specs.Stores.{size_of, used_of}
use Rattle.flush_core.specs.Batches.{from_on}
use Rattle.flush_core.specs.Flusher.{Flushed, IsFlusher, gathered}
use Rattle.flush_core.specs.Room.{Fits, IsTooLong}
use Rattle.flush_core.proofs.flusher.Flusher.has_room.Goals as goal

pub returns-clause-fits : goal.returns-clause-fits
returns-clause-fits g c = λ t.
    let it = c.self.inside in
    let held = c.self.invariant.1 (ap (λ (f : Flushed g.row.D.Denot). f.broken) c.self.view_is ∙ c.requires.whole) in
    let is : it.bytes ≡ length (records (from_on it.seat it.stored)) = held.bytes_is ∙ ap (λ l. length (records l)) held.batch_is in
    subst (λ (f : Flushed g.row.D.Denot). Fits f.size f.used (gathered f)) c.self.view_is
    (subst (λ (n : ℕ). used_of it.journal + 9 + n ≤ size_of it.journal) is (c.fits.ensures.0 t))

pub returns-clause-long : goal.returns-clause-long
returns-clause-long g c = λ t.
    let it = c.self.inside in
    let held = c.self.invariant.1 (ap (λ (f : Flushed g.row.D.Denot). f.broken) c.self.view_is ∙ c.requires.whole) in
    let is : it.bytes ≡ length (records (from_on it.seat it.stored)) = held.bytes_is ∙ ap (λ l. length (records l)) held.batch_is in
    let long : size_of it.journal < used_of it.journal + 9 + it.bytes = elim (cases_lt (size_of it.journal) (used_of it.journal + 9 + it.bytes)) [
      | inl less ↦ less
      | inr fits ↦ absurd (false≢true (sym t ∙ c.fits.ensures.1 fits))
    ] in
    subst (λ (f : Flushed g.row.D.Denot). IsTooLong f.size f.used (gathered f)) c.self.view_is
    (subst (λ (n : ℕ). size_of it.journal < used_of it.journal + 9 + n) is long)

pub returns-clause-kept : goal.returns-clause-kept
returns-clause-kept g c = subst (λ (f : Flushed g.row.D.Denot). IsFlusher g.D.Disk.honest g.D.Disk.images f) c.self.view_is c.self.invariant.0
