-- What calls leave of a disk, one after another.
use Rattle.std.proofs.Common.{◌≡◌, refl, sym, subst, ◌∙◌}
use Rattle.disk_core.specs.declared.disk.Disk.{Ghosts}
use Rattle.disk_core.specs.Calls.{Lasts}

module _ {D : Type 0} (disk : Ghosts D) where
  -- the disk is as it was
  pub lasts_same : (old new : D) → new ≡ old → Lasts disk old new
  lasts_same old new same = subst (λ (d : D). Lasts disk old d) (sym same) (record { size = refl; honest = λ h. h; was_honest = λ h. h })

  pub lasts_more : (old mid new : D) → Lasts disk old mid → Lasts disk mid new → Lasts disk old new
  lasts_more old mid new one other = record { size = other.size ∙ one.size; honest = λ h. other.honest (one.honest h); was_honest = λ h. one.was_honest (other.was_honest h) }
