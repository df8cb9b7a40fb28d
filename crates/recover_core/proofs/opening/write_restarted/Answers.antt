use Rattle.std.proofs.Common.{ap, subst, rules}
use Rattle.area_core.specs.Areas.{number}
use Rattle.disk_core.proofs.Runs.{joined, weaker}
use Rattle.broker_core.specs.Operations.{restarted}
use Rattle.broker_core.specs.States.{State}
use Rattle.snapshot_core.specs.Snapshots.{Spells}
use Rattle.recover_core.specs.Opened.{IsRestarting}
use Rattle.recover_core.proofs.Opens.{Written, refuses_restart, rest_header, restarting_switched, restarting_written, still, then_switched}
use Rattle.recover_core.proofs.Walking.{no_room_told}
use Rattle.recover_core.proofs.opening.write_restarted.Goals as goal

pub returns-in_err-restart-clause-any_moment : goal.returns-in_err-restart-clause-any_moment
returns-in_err-restart-clause-any_moment g c honest =
    still g.D.Disk c.args.disk.now (g.met.D.Disk.only_now c.args.disk.now) c.args.area.now c.args.broker.now.state

pub returns-in_err-snapshot-clause-any_moment : goal.returns-in_err-snapshot-clause-any_moment
returns-in_err-snapshot-clause-any_moment g c honest =
    still g.D.Disk c.args.disk.now (g.met.D.Disk.only_now c.args.disk.now) c.args.area.now c.args.broker.now.state

pub returns-in_err-write_snapshot-clause-any_moment : goal.returns-in_err-write_snapshot-clause-any_moment
returns-in_err-write_snapshot-clause-any_moment g c honest =
    weaker g.D.Disk c.args.disk.now c.write_snapshot.new.disk _ _ (c.write_snapshot.ensures.any_moment honest)
    (restarting_written (g.D.Disk.images c.args.disk.now) c.args.area.now c.args.broker.now.state)

pub returns-in_err-switch-clause-any_moment : goal.returns-in_err-switch-clause-any_moment
returns-in_err-switch-clause-any_moment g c honest =
    let first = g.D.Disk.images c.args.disk.now in
    let now = g.D.Disk.images c.write_snapshot.new.disk in
    let area = c.args.area.now in
    let next = c.write_snapshot.new.self in
    let s = c.args.broker.now.state in
    let spells : Spells c.in_ok-snapshot.snapshot.writer (restarted s) = subst (λ (t : State). Spells c.in_ok-snapshot.snapshot.writer t) c.in_ok-restart.ensures.state c.in_ok-snapshot.ensures in
    let wrote = c.write_snapshot.ensures.any_moment honest in
    let written : Written first now area next s = record {
      live = λ image is. (wrote.each image (g.met.D.Disk.counts_now c.write_snapshot.new.disk (g.D.Disk.moment c.args.disk.now) image wrote.later is)).live;
      size = c.write_snapshot.ensures.place.size;
      selector = c.write_snapshot.ensures.place.selector;
      gate = c.write_snapshot.ensures.place.gate;
      version = c.write_snapshot.ensures.place.version;
      snapshot = c.in_ok-snapshot.snapshot.writer;
      idle = c.in_ok-write_snapshot.ensures.writes.idle honest;
      spells = spells;
    } in
    joined g.D.Disk c.args.disk.now c.write_snapshot.new.disk c.switch.new.disk (IsRestarting first area s)
    (weaker g.D.Disk c.args.disk.now c.write_snapshot.new.disk _ _ wrote (restarting_written first area s))
    (weaker g.D.Disk c.write_snapshot.new.disk c.switch.new.disk _ _ (c.switch.ensures.any_moment (c.write_snapshot.ensures.lasts.honest honest))
    (restarting_switched first now area next s written
    (λ d is. rest_header first area d (wrote.each d (g.met.D.Disk.counts_now c.write_snapshot.new.disk (g.D.Disk.moment c.args.disk.now) d wrote.later is)).rest)))

pub returns-clause-any_moment : goal.returns-clause-any_moment
returns-clause-any_moment g c honest =
    let first = g.D.Disk.images c.args.disk.now in
    let now = g.D.Disk.images c.write_snapshot.new.disk in
    let area = c.args.area.now in
    let next = c.write_snapshot.new.self in
    let s = c.args.broker.now.state in
    let spells : Spells c.in_ok-snapshot.snapshot.writer (restarted s) = subst (λ (t : State). Spells c.in_ok-snapshot.snapshot.writer t) c.in_ok-restart.ensures.state c.in_ok-snapshot.ensures in
    let wrote = c.write_snapshot.ensures.any_moment honest in
    let written : Written first now area next s = record {
      live = λ image is. (wrote.each image (g.met.D.Disk.counts_now c.write_snapshot.new.disk (g.D.Disk.moment c.args.disk.now) image wrote.later is)).live;
      size = c.write_snapshot.ensures.place.size;
      selector = c.write_snapshot.ensures.place.selector;
      gate = c.write_snapshot.ensures.place.gate;
      version = c.write_snapshot.ensures.place.version;
      snapshot = c.in_ok-snapshot.snapshot.writer;
      idle = c.in_ok-write_snapshot.ensures.writes.idle honest;
      spells = spells;
    } in
    joined g.D.Disk c.args.disk.now c.write_snapshot.new.disk c.switch.new.disk (IsRestarting first area s)
    (weaker g.D.Disk c.args.disk.now c.write_snapshot.new.disk _ _ wrote (restarting_written first area s))
    (weaker g.D.Disk c.write_snapshot.new.disk c.switch.new.disk _ _ (c.switch.ensures.any_moment (c.write_snapshot.ensures.lasts.honest honest))
    (restarting_switched first now area next s written
    (λ d is. rest_header first area d (wrote.each d (g.met.D.Disk.counts_now c.write_snapshot.new.disk (g.D.Disk.moment c.args.disk.now) d wrote.later is)).rest)))

pub returns-clause-ok : goal.returns-clause-ok
returns-clause-ok g c =
    let first = g.D.Disk.images c.args.disk.now in
    let now = g.D.Disk.images c.write_snapshot.new.disk in
    let area = c.args.area.now in
    let next = c.write_snapshot.new.self in
    let s = c.args.broker.now.state in
    let spells : Spells c.in_ok-snapshot.snapshot.writer (restarted s) = subst (λ (t : State). Spells c.in_ok-snapshot.snapshot.writer t) c.in_ok-restart.ensures.state c.in_ok-snapshot.ensures in
    record {
      written = λ honest.
          let wrote = c.write_snapshot.ensures.any_moment honest in
          let written : Written first now area next s = record {
            live = λ image is. (wrote.each image (g.met.D.Disk.counts_now c.write_snapshot.new.disk (g.D.Disk.moment c.args.disk.now) image wrote.later is)).live;
            size = c.write_snapshot.ensures.place.size;
            selector = c.write_snapshot.ensures.place.selector;
            gate = c.write_snapshot.ensures.place.gate;
            version = c.write_snapshot.ensures.place.version;
            snapshot = c.in_ok-snapshot.snapshot.writer;
            idle = c.in_ok-write_snapshot.ensures.writes.idle honest;
            spells = spells;
          } in
          then_switched first now (g.D.Disk.images c.switch.new.disk) area next c.switch.new.self s c.in_ok-switch.ensures.switches.version written (c.in_ok-switch.ensures.switches.live (c.write_snapshot.ensures.lasts.honest honest));
      state = c.in_ok-restart.ensures.state;
      broker_whole = c.in_ok-restart.ensures.whole;
      area_whole = c.in_ok-switch.ensures.breaks.ok;
      version = ap (λ v. number v) c.in_ok-switch.ensures.switches.version;
    }

pub returns-in_err-restart-clause-err : goal.returns-in_err-restart-clause-err
returns-in_err-restart-clause-err g c = refuses_restart c.args.area.now.size c.args.broker.now.state c.args.disk.now c.args.disk.now c.from_residual.result (search rules) (search rules)

pub returns-in_err-snapshot-clause-err : goal.returns-in_err-snapshot-clause-err
returns-in_err-snapshot-clause-err g c = refuses_restart c.args.area.now.size c.args.broker.now.state c.args.disk.now c.args.disk.now c.from_residual-in_err-snapshot.result (search rules) (search rules)

pub returns-in_err-switch-clause-err : goal.returns-in_err-switch-clause-err
returns-in_err-switch-clause-err g c = refuses_restart c.args.area.now.size c.args.broker.now.state c.args.disk.now c.switch.new.disk c.from_residual-in_err-switch.result (search rules) (search rules)

pub returns-in_err-write_snapshot-clause-err : goal.returns-in_err-write_snapshot-clause-err
returns-in_err-write_snapshot-clause-err g c =
    let spells : Spells c.in_ok-snapshot.snapshot.writer (restarted c.args.broker.now.state) = subst (λ (t : State). Spells c.in_ok-snapshot.snapshot.writer t) c.in_ok-restart.ensures.state c.in_ok-snapshot.ensures in
    let told = no_room_told c.write_snapshot.result c.args.area.now.size c.args.broker.now.state c.in_ok-snapshot.snapshot.writer spells (λ is. (c.write_snapshot.ensures.full is).0) (λ is. absurd (let e = c.write_snapshot.ensures.breaks.sound is in cc (e, c.requires.ready.whole))) in
    refuses_restart c.args.area.now.size c.args.broker.now.state c.args.disk.now c.write_snapshot.new.disk c.from_residual-in_err-write_snapshot.result (search (rules, told)) (search rules)
