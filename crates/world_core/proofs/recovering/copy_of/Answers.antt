use Rattle.std.proofs.Common.{◌≡◌, ◌∙◌, ◌+◌, ◌++◌, ◌≤◌, ℕ, List, length, ap, arith}
use Rattle.std.proofs.lemmas.List.{append-nil, drop_all, length-replicate}
use Rattle.disk_core.specs.Images.{patched}
use Rattle.disk_core.specs.Memory.{Memory}
use Rattle.world_core.proofs.recovering.copy_of.Goals as goal

-- what is as long is written over
written_over : (new old : List ℕ) → length old ≤ length new → patched 0 new old ≡ new
written_over new old le = ap (λ (l : List ℕ). new ++ l) (drop_all (0 + length new) old (omega (arith, le))) ∙ append-nil new

pub write_at-requires : goal.write_at-requires
write_at-requires c =
    omega (arith, ap (λ (m : Memory). length m.content) c.in_ok-disk.ensures.fresh, length-replicate {A = ℕ} (length c.args.content.now) 0)

pub returns-in-Ok : goal.returns-in-Ok
returns-in-Ok c =
    let same = ap (λ (m : Memory). length m.content) c.in_ok-disk.ensures.fresh ∙ length-replicate {A = ℕ} (length c.args.content.now) 0 in
    ap (λ (m : Memory). m.content) c.in-Ok.ensures.ok ∙ written_over c.args.content.now c.in_ok-disk.disk.content (omega (arith, same))
