use Rattle.std.proofs.Common.{ℕ, ◌+◌, ◌%◌, List, [], sym, subst, arith, rules}
use Rattle.disk_core.proofs.Runs.{weaker}
use Rattle.disk_core.proofs.Torn.{torn_same}
use Rattle.area_core.specs.declared.version.Version.TheVariants.{Two}
use Rattle.area_core.specs.Journals.{Reads}
use Rattle.area_core.proofs.Areas.{length-fresh}
use Rattle.area_core.proofs.Switches.{switched, switching}
use Rattle.area_core.proofs.Unwritten.{untouched}
use Rattle.area_core.proofs.area.Area.switch.Goals as goal

pub returns-in_err-put-clause-any_moment : goal.returns-in_err-put-clause-any_moment
returns-in_err-put-clause-any_moment g c honest =
    weaker g.D.Disk c.args.disk.now c.put.new.disk _ _ (c.put.ensures.any_moment honest) (switching c.args.self.now (g.D.Disk.images c.args.disk.now))

pub returns-clause-any_moment : goal.returns-clause-any_moment
returns-clause-any_moment g c honest =
    weaker g.D.Disk c.args.disk.now c.put.new.disk _ _ (c.put.ensures.any_moment honest) (switching c.args.self.now (g.D.Disk.images c.args.disk.now))

pub returns-clause-switches : goal.returns-clause-switches
returns-clause-switches g c =
    let it = c.args.self.now in
    let content = g.D.Disk.content c.args.disk.now in
    record {
      live = λ honest snapshot blocks next held idle image is.
          let here = g.met.D.Disk.reads c.args.disk.now honest in
          record {
            reads = subst (λ (l : List ℕ). Reads Two it.size ((it.selector + 1) % 256) next [] l) (sym ((c.in_ok-put.ensures.stable honest).only image is)) (switched it.size it.selector next content (held content here).reads.journal (idle content here).idle);
            gate = omega (arith, (idle content here).written, length-fresh Two next);
          };
      only = search rules;
      version = search rules;
      gate = search rules;
      selector = search rules;
    }

pub returns-then-self-clause-any_moment : goal.returns-then-self-clause-any_moment
returns-then-self-clause-any_moment g c honest = untouched g.D.Disk c.args.disk.now (g.met.D.Disk.only_now c.args.disk.now) _ (λ image is. switching c.args.self.now (g.D.Disk.images c.args.disk.now) image (image, is, torn_same 16 1 image))
