use Rattle.std.proofs.Common.{rules, ℕ, ◌+◌, ◌<◌, ◌≤◌, ◌^◌, List, [], length, drop, refl, sym, ◌∙◌, subst, arith}
use Rattle.disk_core.proofs.Runs.{goes_on, weaker}
use Rattle.disk_core.proofs.Torn.{torn_same}
use Rattle.area_core.specs.declared.version.Version.TheVariants.{Two}
use Rattle.area_core.specs.Areas.{closed_snapshot, IsArea}
use Rattle.area_core.specs.Journals.{is_odd, other, start}
use Rattle.area_core.specs.Switches.{KeepsRest}
use Rattle.area_core.proofs.Journals.{start_most}
use Rattle.area_core.proofs.Switches.{idle_is, idle_moved, writing}
use Rattle.area_core.proofs.Unwritten.{untouched}
use Rattle.area_core.proofs.area.Area.write_snapshot.Goals as goal

pub returns-then-self-clause-any_moment : goal.returns-then-self-clause-any_moment
returns-then-self-clause-any_moment g c honest =
    let it = c.args.self.now in
    let first = g.D.Disk.images c.args.disk.now in
    untouched g.D.Disk c.args.disk.now (g.met.D.Disk.only_now c.args.disk.now) _ (λ image is. writing it first image (image, is, torn_same (start it.size (other (is_odd it.selector))) it.size image))

pub returns-then-size-self-clause-any_moment : goal.returns-then-size-self-clause-any_moment
returns-then-size-self-clause-any_moment g c honest =
    let it = c.args.self.now in
    let first = g.D.Disk.images c.args.disk.now in
    untouched g.D.Disk c.args.disk.now (g.met.D.Disk.only_now c.args.disk.now) _ (λ image is. writing it first image (image, is, torn_same (start it.size (other (is_odd it.selector))) it.size image))

pub returns-in_err-write_closed-clause-any_moment : goal.returns-in_err-write_closed-clause-any_moment
returns-in_err-write_closed-clause-any_moment g c honest =
    weaker g.D.Disk c.args.disk.now c.write_closed.new.disk _ _ (c.write_closed.ensures.outside honest) (writing c.args.self.now (g.D.Disk.images c.args.disk.now))

pub returns-in_err-sync-clause-any_moment : goal.returns-in_err-sync-clause-any_moment
returns-in_err-sync-clause-any_moment g c honest =
    let first = g.D.Disk.images c.args.disk.now in
    let wrote = c.write_closed.ensures.outside honest in
    let later = c.write_closed.ensures.lasts.honest honest in
    let outside = goes_on g.D.Disk c.args.disk.now c.write_closed.new.disk c.sync.new.self (KeepsRest first c.args.self.now) (g.D.Disk.images c.sync.new.self) wrote (c.sync.ensures.time later)
    (λ image is. wrote.each image (g.met.D.Disk.counts_now c.write_closed.new.disk (g.D.Disk.moment c.args.disk.now) image wrote.later (c.sync.ensures.images later image is))) in
    weaker g.D.Disk c.args.disk.now c.sync.new.self _ _ outside (writing c.args.self.now first)

pub returns-clause-any_moment : goal.returns-clause-any_moment
returns-clause-any_moment g c honest =
    let first = g.D.Disk.images c.args.disk.now in
    let wrote = c.write_closed.ensures.outside honest in
    let later = c.write_closed.ensures.lasts.honest honest in
    let outside = goes_on g.D.Disk c.args.disk.now c.write_closed.new.disk c.sync.new.self (KeepsRest first c.args.self.now) (g.D.Disk.images c.sync.new.self) wrote (c.sync.ensures.time later)
    (λ image is. wrote.each image (g.met.D.Disk.counts_now c.write_closed.new.disk (g.D.Disk.moment c.args.disk.now) image wrote.later (c.sync.ensures.images later image is))) in
    weaker g.D.Disk c.args.disk.now c.sync.new.self _ _ outside (writing c.args.self.now first)

pub returns-clause-writes : goal.returns-clause-writes
returns-clause-writes g c =
    let it = c.args.self.now in
    let snapshot = g.P.Pieces.coming c.args.snapshot.now in
    let base = start it.size (other (is_odd it.selector)) in
    let within : base ≤ length (g.D.Disk.content c.args.disk.now) = omega (arith, c.requires.room, start_most it.size (other (is_odd it.selector))) in
    let seven : length snapshot < 2 ^ 56 = search rules in
    let room : length snapshot + 9 ≤ it.size = omega (arith, c.if-size-self.false, c.len-size.ensures, it.idle) in
    record {
      idle = λ honest image is. record {
        idle = idle_moved it c.write_closed.new.self snapshot image c.write_closed.ensures.place.size c.write_closed.ensures.place.selector
            (subst (λ (l : List ℕ). IsArea Two it.size snapshot [] (drop base l)) (sym (c.in_ok-sync.ensures.stable (c.write_closed.ensures.lasts.honest honest) image is ∙ c.in_ok-write_closed.ensures.content honest))
            (idle_is it.size base base snapshot (closed_snapshot Two snapshot) (g.D.Disk.content c.args.disk.now) refl within seven room refl));
        written = omega (arith, c.len-size.ensures, c.if-size-self.false, it.most, it.idle);
      };
      only = search rules;
      written = search rules;
    }
