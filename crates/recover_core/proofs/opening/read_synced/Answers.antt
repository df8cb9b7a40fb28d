use Rattle.std.proofs.Common.{rules}
use Rattle.std.proofs.lemmas.Result.{IfErr-weaker}
use Rattle.area_core.proofs.Unwritten.{untouched}
use Rattle.disk_core.proofs.Runs.{goes_on}
use Rattle.recover_core.specs.Told.{IsOfReading}
use Rattle.recover_core.proofs.Opens.{none_written, refuses_to_read}
use Rattle.recover_core.proofs.Walking.{room_to_read}
use Rattle.recover_core.proofs.opening.read_synced.Goals as goal

pub returns-in_err-sync-clause-unwritten : goal.returns-in_err-sync-clause-unwritten
returns-in_err-sync-clause-unwritten g c honest = record {
  content = c.sync.ensures.content honest;
  images = c.sync.ensures.images honest;
  leaves = goes_on g.D.Disk c.args.disk.now c.args.disk.now c.sync.new.self (g.D.Disk.images c.args.disk.now) (g.D.Disk.images c.sync.new.self)
      (untouched g.D.Disk c.args.disk.now (g.met.D.Disk.only_now c.args.disk.now) (g.D.Disk.images c.args.disk.now) (λ image is. is)) (c.sync.ensures.time honest) (c.sync.ensures.images honest);
}

pub returns-clause-unwritten : goal.returns-clause-unwritten
returns-clause-unwritten g c honest =
    none_written g.D.Disk c.args.disk.now (g.met.D.Disk.only_now c.args.disk.now) c.sync.new.self c.read_state.new.disk (c.sync.ensures.content honest) (c.sync.ensures.images honest) (c.sync.ensures.time honest)
    (c.read_state.ensures.reads.quiet (c.sync.ensures.lasts.honest honest))

pub returns-clause-refuses : goal.returns-clause-refuses
returns-clause-refuses g c =
    refuses_to_read g.D.Disk c.args.disk.now c.read_state.result (search rules) (IfErr-weaker c.read_state.result IsOfReading _ (room_to_read ⊥) c.read_state.ensures.kind)

pub returns-in_err-sync-clause-refuses : goal.returns-in_err-sync-clause-refuses
returns-in_err-sync-clause-refuses g c = refuses_to_read g.D.Disk c.args.disk.now c.from_residual.result (search rules) (search rules)
