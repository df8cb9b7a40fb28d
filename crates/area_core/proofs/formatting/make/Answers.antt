use Rattle.std.proofs.Common.{rules, ◌≡◌, ◌+◌, ◌*◌, ◌<◌, ◌≤◌, ◌^◌, [], ℕ, List, length, ◌∙◌, subst, sym, arith}
use Rattle.disk_core.specs.Images.{Only}
use Rattle.disk_core.proofs.Runs.{joined}
use Rattle.area_core.specs.declared.version.Version.TheVariants.{Two}
use Rattle.area_core.specs.Journals.{Reads}
use Rattle.area_core.specs.Making.{IsMaking, IsUnnamed, IsUnnaming}
use Rattle.area_core.proofs.Named.{behind, filled, made, unnaming}
use Rattle.area_core.proofs.formatting.make.Goals as goal

pub returns-in_err-begin-clause-any_moment : goal.returns-in_err-begin-clause-any_moment
returns-in_err-begin-clause-any_moment g c only honest =
    unnaming g.D.Disk _ _ c.args.disk.now c.begin.new.disk (c.begin.ensures.any_moment only honest)

pub returns-in_err-write_first-clause-any_moment : goal.returns-in_err-write_first-clause-any_moment
returns-in_err-write_first-clause-any_moment g c only honest =
    let begun = c.in_ok-begin.ensures.begun honest in
    let before = g.D.Disk.content c.args.disk.now in
    let whole = Reads Two c.args.area_bytes 0 (g.P.Pieces.coming c.args.snapshot.now) [] in
    unnaming g.D.Disk before whole c.args.disk.now c.write_first.new.disk
    (joined g.D.Disk c.args.disk.now c.begin.new.disk c.write_first.new.disk (IsUnnaming before) (c.begin.ensures.any_moment only honest)
    (behind g.D.Disk before whole c.begin.new.disk c.write_first.new.disk 32 c.args.area_bytes (omega arith) begun.unnamed begun.only (c.write_first.ensures.any_moment (c.begin.ensures.lasts.honest honest))))

pub returns-in_err-write_first-clause-lasts : goal.returns-in_err-write_first-clause-lasts
returns-in_err-write_first-clause-lasts g c =
    let a = c.begin.ensures.lasts in
    let b = c.write_first.ensures.lasts in
    record { size = b.size ∙ a.size; honest = λ h. b.honest (a.honest h); was_honest = λ h. a.was_honest (b.was_honest h) }

pub returns-in_err-end-clause-any_moment : goal.returns-in_err-end-clause-any_moment
returns-in_err-end-clause-any_moment g c only honest =
    let size : ℕ = c.args.area_bytes in
    let snapshot : List ℕ = g.P.Pieces.coming c.args.snapshot.now in
    let before = g.D.Disk.content c.args.disk.now in
    let begun = c.in_ok-begin.ensures.begun honest in
    let honest_1 = c.begin.ensures.lasts.honest honest in
    let d = g.D.Disk.content c.begin.new.disk in
    let wrote = c.in_ok-write_first.ensures.stable honest_1 in
    let long : length snapshot + 9 ≤ size = search rules in
    let seven : length snapshot < 2 ^ 56 = search rules in
    let least : 4096 ≤ size = search rules in
    let fits : 32 + 2 * size ≤ length before = search rules in
    let most : 32 + 2 * size < 2 ^ 64 = search rules in
    let all : IsUnnamed size snapshot (g.D.Disk.content c.write_first.new.disk) = subst (λ (l : List ℕ). IsUnnamed size snapshot l) (sym wrote.content)
    (filled size snapshot d begun.sized seven long least most (omega (arith, fits, c.begin.ensures.lasts.size))) in
    let whole = Reads Two size 0 snapshot [] in
    joined g.D.Disk c.args.disk.now c.write_first.new.disk c.end.new.disk (IsMaking before whole)
    (unnaming g.D.Disk before whole c.args.disk.now c.write_first.new.disk
    (joined g.D.Disk c.args.disk.now c.begin.new.disk c.write_first.new.disk (IsUnnaming before) (c.begin.ensures.any_moment only honest)
    (behind g.D.Disk before whole c.begin.new.disk c.write_first.new.disk 32 c.args.area_bytes (omega arith) begun.unnamed begun.only (c.write_first.ensures.any_moment honest_1))))
    (c.end.ensures.any_moment size snapshot before (subst (λ (l : List ℕ). Only l (g.D.Disk.images c.write_first.new.disk)) (sym wrote.content) wrote.only) all (c.write_first.ensures.lasts.honest honest_1))

pub returns-clause-any_moment : goal.returns-clause-any_moment
returns-clause-any_moment g c only honest =
    let size : ℕ = c.args.area_bytes in
    let snapshot : List ℕ = g.P.Pieces.coming c.args.snapshot.now in
    let before = g.D.Disk.content c.args.disk.now in
    let begun = c.in_ok-begin.ensures.begun honest in
    let honest_1 = c.begin.ensures.lasts.honest honest in
    let d = g.D.Disk.content c.begin.new.disk in
    let wrote = c.in_ok-write_first.ensures.stable honest_1 in
    let long : length snapshot + 9 ≤ size = search rules in
    let seven : length snapshot < 2 ^ 56 = search rules in
    let least : 4096 ≤ size = search rules in
    let fits : 32 + 2 * size ≤ length before = search rules in
    let most : 32 + 2 * size < 2 ^ 64 = search rules in
    let all : IsUnnamed size snapshot (g.D.Disk.content c.write_first.new.disk) = subst (λ (l : List ℕ). IsUnnamed size snapshot l) (sym wrote.content)
    (filled size snapshot d begun.sized seven long least most (omega (arith, fits, c.begin.ensures.lasts.size))) in
    let whole = Reads Two size 0 snapshot [] in
    joined g.D.Disk c.args.disk.now c.write_first.new.disk c.end.new.disk (IsMaking before whole)
    (unnaming g.D.Disk before whole c.args.disk.now c.write_first.new.disk
    (joined g.D.Disk c.args.disk.now c.begin.new.disk c.write_first.new.disk (IsUnnaming before) (c.begin.ensures.any_moment only honest)
    (behind g.D.Disk before whole c.begin.new.disk c.write_first.new.disk 32 c.args.area_bytes (omega arith) begun.unnamed begun.only (c.write_first.ensures.any_moment honest_1))))
    (c.end.ensures.any_moment size snapshot before (subst (λ (l : List ℕ). Only l (g.D.Disk.images c.write_first.new.disk)) (sym wrote.content) wrote.only) all (c.write_first.ensures.lasts.honest honest_1))

pub returns-clause-makes : goal.returns-clause-makes
returns-clause-makes g c honest =
    let size : ℕ = c.args.area_bytes in
    let snapshot : List ℕ = g.P.Pieces.coming c.args.snapshot.now in
    let before = g.D.Disk.content c.args.disk.now in
    let begun = c.in_ok-begin.ensures.begun honest in
    let honest_1 = c.begin.ensures.lasts.honest honest in
    let d = g.D.Disk.content c.begin.new.disk in
    let wrote = c.in_ok-write_first.ensures.stable honest_1 in
    let long : length snapshot + 9 ≤ size = search rules in
    let seven : length snapshot < 2 ^ 56 = search rules in
    let least : 4096 ≤ size = search rules in
    let fits : 32 + 2 * size ≤ length before = search rules in
    let most : 32 + 2 * size < 2 ^ 64 = search rules in
    let all : IsUnnamed size snapshot (g.D.Disk.content c.write_first.new.disk) = subst (λ (l : List ℕ). IsUnnamed size snapshot l) (sym wrote.content)
    (filled size snapshot d begun.sized seven long least most (omega (arith, fits, c.begin.ensures.lasts.size))) in
    made size snapshot (g.D.Disk.content c.write_first.new.disk) all g.D.Disk c.end.new.disk (c.in_ok-end.ensures.stable (c.write_first.ensures.lasts.honest honest_1))
