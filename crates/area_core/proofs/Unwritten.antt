-- Where nothing was written yet, and where a step was refused.
use Rattle.std.proofs.Common.{inl, ℕ, List, Result, Ok, Err, OnErr, refl, arith}
use Rattle.disk_core.specs.declared.disk.Disk.{Ghosts}
use Rattle.disk_core.specs.Moments.{LeavesOnly}
use Rattle.area_core.specs.Reading.{Quiet, ReadsOnly}

module _ {D : Type 0} (disk : Ghosts D) (now : D) (only : (c : List ℕ) → disk.images_since now (disk.moment now) c → disk.images now c) where
  -- a stop leaves one of the images
  pub untouched : (P : List ℕ → Type 0) → ((c : List ℕ) → disk.images now c → P c) → LeavesOnly disk.moment disk.images_since now now P
  untouched P has = record { later = omega arith; each = λ c since. has c (only c since); before = λ t c le since. inl since }

  pub quiet_yet : Quiet disk now now
  quiet_yet = record { content = refl; images = record { no_more = λ c image. image; no_fewer = λ c image. image }; leaves = untouched (disk.images now) (λ c image. image) }

  pub reads_yet : ReadsOnly disk now now
  reads_yet = record { quiet = λ honest. quiet_yet; size = refl; honest = λ h. h; was_honest = λ h. h }

-- what holds whatever the answer is holds where it is a refusal
pub on_err : {T E P : Type 0} (answer : Result T E) → P → OnErr answer P
on_err (Ok done) p = tt
on_err (Err fault) p = p
