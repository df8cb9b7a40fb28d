use Rattle.std.proofs.Common.{rules, ap, ◌≡◌, ◌+◌, ◌*◌, ◌<◌, ◌≤◌, ◌^◌, [], ℕ, List, length, ◌∙◌, subst, sym, arith}
use Rattle.disk_core.specs.Images.{Only, patched}
use Rattle.disk_core.proofs.Runs.{joined}
use Rattle.area_core.specs.declared.version.Version.TheVariants.{Two}
use Rattle.area_core.specs.Areas.{closed_snapshot, first_snapshot}
use Rattle.area_core.specs.Journals.{Reads}
use Rattle.area_core.specs.Making.{IsMaking, IsUnnamed, IsUnnaming, Makes}
use Rattle.area_core.proofs.Named.{behind, filled, made, unnaming}
use Rattle.area_core.proofs.formatting.format.Goals as goal

pub returns-in_err-begin-clause-any_moment : goal.returns-in_err-begin-clause-any_moment
returns-in_err-begin-clause-any_moment g c only honest =
    unnaming g.D.Disk _ _ c.args.disk.now c.begin.new.disk (c.begin.ensures.any_moment only honest)

pub returns-in_err-put-clause-any_moment : goal.returns-in_err-put-clause-any_moment
returns-in_err-put-clause-any_moment g c only honest =
    let begun = c.in_ok-begin.ensures.begun honest in
    let before = g.D.Disk.content c.args.disk.now in
    let whole = Reads Two c.args.area_bytes 0 first_snapshot [] in
    unnaming g.D.Disk before whole c.args.disk.now c.put.new.disk
    (joined g.D.Disk c.args.disk.now c.begin.new.disk c.put.new.disk (IsUnnaming before) (c.begin.ensures.any_moment only honest)
    (behind g.D.Disk before whole c.begin.new.disk c.put.new.disk 32 _ (omega arith) begun.unnamed begun.only (c.put.ensures.any_moment (c.begin.ensures.lasts.honest honest))))

pub returns-in_err-end-clause-any_moment : goal.returns-in_err-end-clause-any_moment
returns-in_err-end-clause-any_moment g c only honest =
    let size : ℕ = c.args.area_bytes in
    let snapshot : List ℕ = first_snapshot in
    let before = g.D.Disk.content c.args.disk.now in
    let begun = c.in_ok-begin.ensures.begun honest in
    let honest_1 = c.begin.ensures.lasts.honest honest in
    let d = g.D.Disk.content c.begin.new.disk in
    let wrote = c.in_ok-put.ensures.stable honest_1 in
    let are : c.deref.result.now ≡ closed_snapshot Two first_snapshot = search rules in
    let least : 4096 ≤ size = search rules in
    let fits : 32 + 2 * size ≤ length before = search rules in
    let most : 32 + 2 * size < 2 ^ 64 = search rules in
    let content : g.D.Disk.content c.put.new.disk ≡ patched 32 (closed_snapshot Two first_snapshot) d = wrote.content ∙ ap (λ (l : List ℕ). patched 32 l d) are in
    let all : IsUnnamed size snapshot (g.D.Disk.content c.put.new.disk) = subst (λ (l : List ℕ). IsUnnamed size snapshot l) (sym content)
    (filled size snapshot d begun.sized (omega arith) (omega (arith, least)) least most (omega (arith, fits, c.begin.ensures.lasts.size))) in
    let whole = Reads Two size 0 snapshot [] in
    joined g.D.Disk c.args.disk.now c.put.new.disk c.end.new.disk (IsMaking before whole)
    (unnaming g.D.Disk before whole c.args.disk.now c.put.new.disk
    (joined g.D.Disk c.args.disk.now c.begin.new.disk c.put.new.disk (IsUnnaming before) (c.begin.ensures.any_moment only honest)
    (behind g.D.Disk before whole c.begin.new.disk c.put.new.disk 32 _ (omega arith) begun.unnamed begun.only (c.put.ensures.any_moment honest_1))))
    (c.end.ensures.any_moment size snapshot before (subst (λ (l : List ℕ). Only l (g.D.Disk.images c.put.new.disk)) (sym wrote.content) wrote.only) all (c.put.ensures.lasts.honest honest_1))

pub returns-clause-any_moment : goal.returns-clause-any_moment
returns-clause-any_moment g c only honest =
    let size : ℕ = c.args.area_bytes in
    let snapshot : List ℕ = first_snapshot in
    let before = g.D.Disk.content c.args.disk.now in
    let begun = c.in_ok-begin.ensures.begun honest in
    let honest_1 = c.begin.ensures.lasts.honest honest in
    let d = g.D.Disk.content c.begin.new.disk in
    let wrote = c.in_ok-put.ensures.stable honest_1 in
    let are : c.deref.result.now ≡ closed_snapshot Two first_snapshot = search rules in
    let least : 4096 ≤ size = search rules in
    let fits : 32 + 2 * size ≤ length before = search rules in
    let most : 32 + 2 * size < 2 ^ 64 = search rules in
    let content : g.D.Disk.content c.put.new.disk ≡ patched 32 (closed_snapshot Two first_snapshot) d = wrote.content ∙ ap (λ (l : List ℕ). patched 32 l d) are in
    let all : IsUnnamed size snapshot (g.D.Disk.content c.put.new.disk) = subst (λ (l : List ℕ). IsUnnamed size snapshot l) (sym content)
    (filled size snapshot d begun.sized (omega arith) (omega (arith, least)) least most (omega (arith, fits, c.begin.ensures.lasts.size))) in
    let whole = Reads Two size 0 snapshot [] in
    joined g.D.Disk c.args.disk.now c.put.new.disk c.end.new.disk (IsMaking before whole)
    (unnaming g.D.Disk before whole c.args.disk.now c.put.new.disk
    (joined g.D.Disk c.args.disk.now c.begin.new.disk c.put.new.disk (IsUnnaming before) (c.begin.ensures.any_moment only honest)
    (behind g.D.Disk before whole c.begin.new.disk c.put.new.disk 32 _ (omega arith) begun.unnamed begun.only (c.put.ensures.any_moment honest_1))))
    (c.end.ensures.any_moment size snapshot before (subst (λ (l : List ℕ). Only l (g.D.Disk.images c.put.new.disk)) (sym wrote.content) wrote.only) all (c.put.ensures.lasts.honest honest_1))

pub returns-clause-formats : goal.returns-clause-formats
returns-clause-formats g c =
    let made_by : g.D.Disk.honest c.args.disk.now → Makes g.D.Disk c.end.new.disk c.args.area_bytes first_snapshot = λ honest.
    let size : ℕ = c.args.area_bytes in
    let snapshot : List ℕ = first_snapshot in
    let before = g.D.Disk.content c.args.disk.now in
    let begun = c.in_ok-begin.ensures.begun honest in
    let honest_1 = c.begin.ensures.lasts.honest honest in
    let d = g.D.Disk.content c.begin.new.disk in
    let wrote = c.in_ok-put.ensures.stable honest_1 in
    let are : c.deref.result.now ≡ closed_snapshot Two first_snapshot = search rules in
    let least : 4096 ≤ size = search rules in
    let fits : 32 + 2 * size ≤ length before = search rules in
    let most : 32 + 2 * size < 2 ^ 64 = search rules in
    let content : g.D.Disk.content c.put.new.disk ≡ patched 32 (closed_snapshot Two first_snapshot) d = wrote.content ∙ ap (λ (l : List ℕ). patched 32 l d) are in
    let all : IsUnnamed size snapshot (g.D.Disk.content c.put.new.disk) = subst (λ (l : List ℕ). IsUnnamed size snapshot l) (sym content)
    (filled size snapshot d begun.sized (omega arith) (omega (arith, least)) least most (omega (arith, fits, c.begin.ensures.lasts.size))) in
    made size snapshot (g.D.Disk.content c.put.new.disk) all g.D.Disk c.end.new.disk (c.in_ok-end.ensures.stable (c.put.ensures.lasts.honest honest_1))
    in
    record { formatted = λ honest. (made_by honest).made; begins = λ honest. (made_by honest).begins; only = λ honest. (made_by honest).only }
