use Rattle.std.proofs.Common.{rules, ◌+◌, length, arith}
use Rattle.disk_core.proofs.Runs.{goes_on}
use Rattle.disk_core.proofs.Torn.{torn_same}
use Rattle.area_core.specs.Journals.{is_odd, other, start}
use Rattle.area_core.specs.Switches.{KeepsRest}
use Rattle.area_core.proofs.Closings.{torn_within}
use Rattle.area_core.proofs.Unwritten.{untouched}
use Rattle.area_core.proofs.area.Area.write_piece.Goals as goal

pub returns-then-self-clause-outside : goal.returns-then-self-clause-outside
returns-then-self-clause-outside g c honest = untouched g.D.Disk c.args.disk.now (g.met.D.Disk.only_now c.args.disk.now) _ (λ image is. (image, is, torn_same (start c.args.self.now.size (other (is_odd c.args.self.now.selector))) c.args.self.now.size image))

pub returns-then-self-clause-overwrites : goal.returns-then-self-clause-overwrites
returns-then-self-clause-overwrites g c honest = record {
  whole = tt;
  torn = torn_same (start c.args.self.now.size (other (is_odd c.args.self.now.selector))) c.args.self.now.size (g.D.Disk.content c.args.disk.now);
}

pub returns-in_err-write_at-clause-outside : goal.returns-in_err-write_at-clause-outside
returns-in_err-write_at-clause-outside g c honest =
    let it = c.args.self.now in
    let base = start it.size (other (is_odd it.selector)) in
    goes_on g.D.Disk c.args.disk.now c.args.disk.now c.write_at.new.self (KeepsRest (g.D.Disk.images c.args.disk.now) it) (g.D.Disk.images c.write_at.new.self)
    (untouched g.D.Disk c.args.disk.now (g.met.D.Disk.only_now c.args.disk.now) _ (λ image is. (image, is, torn_same base it.size image)))
    (c.write_at.ensures.time honest)
    (λ image is. let from = (c.write_at.ensures.images honest).only image is in
    (from.0, from.1, torn_within base it.size (c.idle_begins.result + c.args.at) (length c.args.piece.now) from.0 image (omega (arith, c.idle_begins.ensures)) (omega (arith, c.idle_begins.ensures, c.requires.within)) from.2))

pub returns-in_err-write_at-clause-overwrites : goal.returns-in_err-write_at-clause-overwrites
returns-in_err-write_at-clause-overwrites g c honest =
    let it = c.args.self.now in
    record {
      whole = search rules;
      torn = torn_within (start it.size (other (is_odd it.selector))) it.size (c.idle_begins.result + c.args.at) (length c.args.piece.now) _ _
          (omega (arith, c.idle_begins.ensures)) (omega (arith, c.idle_begins.ensures, c.requires.within)) (c.write_at.ensures.content honest);
    }

pub returns-clause-outside : goal.returns-clause-outside
returns-clause-outside g c honest =
    let it = c.args.self.now in
    let base = start it.size (other (is_odd it.selector)) in
    goes_on g.D.Disk c.args.disk.now c.args.disk.now c.write_at.new.self (KeepsRest (g.D.Disk.images c.args.disk.now) it) (g.D.Disk.images c.write_at.new.self)
    (untouched g.D.Disk c.args.disk.now (g.met.D.Disk.only_now c.args.disk.now) _ (λ image is. (image, is, torn_same base it.size image)))
    (c.write_at.ensures.time honest)
    (λ image is. let from = (c.write_at.ensures.images honest).only image is in
    (from.0, from.1, torn_within base it.size (c.idle_begins.result + c.args.at) (length c.args.piece.now) from.0 image (omega (arith, c.idle_begins.ensures)) (omega (arith, c.idle_begins.ensures, c.requires.within)) from.2))

pub returns-clause-overwrites : goal.returns-clause-overwrites
returns-clause-overwrites g c honest =
    let it = c.args.self.now in
    record {
      whole = search rules;
      torn = torn_within (start it.size (other (is_odd it.selector))) it.size (c.idle_begins.result + c.args.at) (length c.args.piece.now) _ _
          (omega (arith, c.idle_begins.ensures)) (omega (arith, c.idle_begins.ensures, c.requires.within)) (c.write_at.ensures.content honest);
    }
