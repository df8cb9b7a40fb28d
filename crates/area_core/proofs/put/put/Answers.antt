use Rattle.std.proofs.Common.{ℕ, List, length, subst, ◌∙◌}
use Rattle.std.proofs.lemmas.Result.{on_ok_weaker}
use Rattle.disk_core.specs.Images.{Only}
use Rattle.disk_core.proofs.Runs.{goes_on}
use Rattle.disk_core.proofs.Torn.{torn_same}
use Rattle.area_core.specs.Puts.{IsTorn}
use Rattle.area_core.proofs.Unwritten.{untouched}
use Rattle.area_core.proofs.put.put.Goals as goal

pub returns-in_err-write_at-clause-any_moment : goal.returns-in_err-write_at-clause-any_moment
returns-in_err-write_at-clause-any_moment g c honest =
    goes_on g.D.Disk c.args.disk.now c.args.disk.now c.write_at.new.self _ (g.D.Disk.images c.write_at.new.self)
    (untouched g.D.Disk c.args.disk.now (g.met.D.Disk.only_now c.args.disk.now) _ (λ image is. (image, is, torn_same c.args.at (length c.args.bytes.now) image)))
    (c.write_at.ensures.time honest) (c.write_at.ensures.images honest).only

pub returns-in_err-write_at-clause-torn : goal.returns-in_err-write_at-clause-torn
returns-in_err-write_at-clause-torn g c honest = (c.write_at.ensures.images honest).only

pub returns-clause-any_moment : goal.returns-clause-any_moment
returns-clause-any_moment g c honest =
    let honest_1 = c.write_at.ensures.lasts.honest honest in
    let wrote = goes_on g.D.Disk c.args.disk.now c.args.disk.now c.write_at.new.self (IsTorn c.args.at (length c.args.bytes.now) (g.D.Disk.images c.args.disk.now)) (g.D.Disk.images c.write_at.new.self)
    (untouched g.D.Disk c.args.disk.now (g.met.D.Disk.only_now c.args.disk.now) _ (λ image is. (image, is, torn_same c.args.at (length c.args.bytes.now) image)))
    (c.write_at.ensures.time honest) (c.write_at.ensures.images honest).only in
    goes_on g.D.Disk c.args.disk.now c.write_at.new.self c.sync.new.self _ (g.D.Disk.images c.sync.new.self) wrote (c.sync.ensures.time honest_1)
    (λ image is. (c.write_at.ensures.images honest).only image (c.sync.ensures.images honest_1 image is))

pub returns-clause-torn : goal.returns-clause-torn
returns-clause-torn g c honest image is = (c.write_at.ensures.images honest).only image (c.sync.ensures.images (c.write_at.ensures.lasts.honest honest) image is)

pub returns-clause-stable : goal.returns-clause-stable
returns-clause-stable g c honest =
    let honest_1 = c.write_at.ensures.lasts.honest honest in
    on_ok_weaker c.sync.result
    (λ (only : Only (g.D.Disk.content c.write_at.new.self) (g.D.Disk.images c.sync.new.self)). record {
      content = c.sync.ensures.content honest_1 ∙ c.in_ok-write_at.ensures.written honest;
      only = subst (λ (l : List ℕ). Only l (g.D.Disk.images c.sync.new.self)) (c.in_ok-write_at.ensures.written honest) only;
    })
    (c.sync.ensures.stable honest_1)
