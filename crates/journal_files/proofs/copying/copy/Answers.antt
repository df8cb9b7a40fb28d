use Rattle.disk_core.proofs.Runs.{weaker}
use Rattle.journal_files.proofs.Copied.{copying}
use Rattle.journal_files.proofs.copying.copy.Goals as goal

pub returns-in-Ok-make_holding-clause-any_moment : goal.returns-in-Ok-make_holding-clause-any_moment
returns-in-Ok-make_holding-clause-any_moment g c honest only honest_to =
    weaker g.E.Disk c.args.to.now c.make_holding.new.disk _ _ (c.make_holding.ensures.any_moment only honest_to)
    (λ image is. copying (g.D.Disk.content c.args.from.now) (g.E.Disk.content c.args.to.now) c.in-Ok.broker.state image (c.in-Ok.ensures.stands honest) is)

pub returns-clause-any_moment : goal.returns-clause-any_moment
returns-clause-any_moment g c honest only honest_to =
    weaker g.E.Disk c.args.to.now c.make_holding.new.disk _ _ (c.make_holding.ensures.any_moment only honest_to)
    (λ image is. copying (g.D.Disk.content c.args.from.now) (g.E.Disk.content c.args.to.now) c.in-Ok.broker.state image (c.in-Ok.ensures.stands honest) is)
