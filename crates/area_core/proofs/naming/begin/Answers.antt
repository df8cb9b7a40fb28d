use Rattle.std.proofs.Common.{◌≡◌, ◌≤◌, ◌+◌, ◌++◌, ℕ, List, drop, take, length, replicate, sym, ◌∙◌, ap, subst, refl, arith}
use Rattle.std.specs.Int.{w64, to_be_bytes}
use Rattle.std.proofs.lemmas.Result.{on_ok_weaker}
use Rattle.disk_core.specs.Images.{patched}
use Rattle.disk_core.proofs.Runs.{joined}
use Rattle.disk_core.proofs.Torn.{torn_patched}
use Rattle.area_core.specs.Damage.{IsNoJournal}
use Rattle.area_core.specs.Making.{IsUnnaming}
use Rattle.area_core.specs.Puts.{IsStable}
use Rattle.area_core.proofs.Named.{begun, behind, torn_none}
use Rattle.area_core.proofs.naming.begin.Goals as goal

pub returns-clause-any_moment : goal.returns-clause-any_moment
returns-clause-any_moment g c only honest =
    let later = c.unname.ensures.lasts.honest honest in
    joined g.D.Disk c.args.disk.now c.unname.new.disk c.put.new.disk (IsUnnaming (g.D.Disk.content c.args.disk.now)) (c.unname.ensures.any_moment only honest)
    (behind g.D.Disk (g.D.Disk.content c.args.disk.now) (λ _. ⊥) c.unname.new.disk c.put.new.disk 8 _ (omega arith) (c.in_ok-unname.ensures.unnamed honest) (c.in_ok-unname.ensures.only honest only) (c.put.ensures.any_moment later))

pub returns-clause-begun : goal.returns-clause-begun
returns-clause-begun g c honest =
    let later = c.unname.ensures.lasts.honest honest in
    let d = g.D.Disk.content c.unname.new.disk in
    let rest : List ℕ = c.rest_of.result in
    let is : rest ≡ to_be_bytes w64 c.args.area_bytes ++ replicate 16 0 = c.rest_of.ensures in
    let long : length rest ≡ 24 = ap (λ (l : List ℕ). length l) is in
    let room : 8 + length rest ≤ length d = omega (arith, c.requires, long, c.unname.ensures.lasts.size) in
    on_ok_weaker c.put.result
    (λ (stable : IsStable g.D.Disk c.put.new.disk (patched 8 rest d)). record {
      unnamed = subst (λ (l : List ℕ). IsNoJournal l) (sym stable.content) (torn_none 8 (length rest) d (patched 8 rest d) (omega arith) (torn_patched 8 (length rest) rest d refl room) (c.in_ok-unname.ensures.unnamed honest));
      sized = ap (λ (l : List ℕ). take 24 (drop 8 l)) stable.content ∙ begun c.args.area_bytes rest d is (omega (arith, c.requires, c.unname.ensures.lasts.size));
      only = λ image here. stable.only image here ∙ sym stable.content;
    })
    (c.put.ensures.stable later)
