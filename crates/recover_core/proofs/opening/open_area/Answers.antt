use Rattle.std.proofs.Common.{◌+◌, ◌≤◌, ◌^◌, length, sym, ◌∙◌, subst, ap, arith, rules}
use Rattle.area_core.specs.Puts.{Each}
use Rattle.broker_core.specs.Operations.{restarted}
use Rattle.broker_core.specs.States.{State}
use Rattle.recover_core.specs.Opens.{HoldsOnlySnapshot, IsUnwritten}
use Rattle.recover_core.specs.Standing.{StandFor}
use Rattle.recover_core.proofs.Opens.{Known, held_now, is_read, opening_unwritten, opening_written, read_to_open}
use Rattle.recover_core.proofs.Stores.{stands}
use Rattle.recover_core.proofs.Walking.{full_told, write_told, written_told}
use Rattle.recover_core.proofs.opening.open_area.Goals as goal

pub returns-in_err-area-clause-any_moment : goal.returns-in_err-area-clause-any_moment
returns-in_err-area-clause-any_moment g c honest =
    opening_unwritten g.D.Disk c.args.disk.now (g.met.D.Disk.only_now c.args.disk.now) c.read_synced.new.disk (c.read_synced.ensures.unwritten honest)

pub returns-in-Ok-clause-any_moment : goal.returns-in-Ok-clause-any_moment
returns-in-Ok-clause-any_moment g c honest =
    let known : Known (g.D.Disk.images c.args.disk.now) (g.D.Disk.images c.read_synced.new.disk) c.in_ok-area.area c.in_ok-area.broker.state = record {
      image = g.D.Disk.content c.args.disk.now;
      among = g.met.D.Disk.reads c.args.disk.now honest;
      has = c.in_ok-area.ensures.read honest;
      only = c.in_ok-area.ensures.only honest;
    } in
    opening_written g.D.Disk c.args.disk.now (g.met.D.Disk.only_now c.args.disk.now) c.read_synced.new.disk c.write_restarted.new.disk c.in_ok-area.area c.in_ok-area.broker.state (c.read_synced.ensures.unwritten honest) known
    (c.write_restarted.ensures.any_moment (c.read_synced.ensures.lasts.honest honest))

pub returns-in-Err-clause-any_moment : goal.returns-in-Err-clause-any_moment
returns-in-Err-clause-any_moment g c honest =
    let known : Known (g.D.Disk.images c.args.disk.now) (g.D.Disk.images c.read_synced.new.disk) c.in_ok-area.area c.in_ok-area.broker.state = record {
      image = g.D.Disk.content c.args.disk.now;
      among = g.met.D.Disk.reads c.args.disk.now honest;
      has = c.in_ok-area.ensures.read honest;
      only = c.in_ok-area.ensures.only honest;
    } in
    opening_written g.D.Disk c.args.disk.now (g.met.D.Disk.only_now c.args.disk.now) c.read_synced.new.disk c.write_restarted.new.disk c.in_ok-area.area c.in_ok-area.broker.state (c.read_synced.ensures.unwritten honest) known
    (c.write_restarted.ensures.any_moment (c.read_synced.ensures.lasts.honest honest))

pub returns-in-Ok-clause-opens : goal.returns-in-Ok-clause-opens
returns-in-Ok-clause-opens g c =
    let area = c.in_ok-area.area in
    let s = c.in_ok-area.broker.state in
    let done = c.in-Ok.ensures.ok in
    record {
      version = done.version;
      whole = done.area_whole;
      room = omega (arith, c.in_ok-area.ensures.loaded.room, c.write_restarted.ensures.size, c.write_restarted.ensures.lasts.size);
      sound = λ honest.
          let known : Known (g.D.Disk.images c.args.disk.now) (g.D.Disk.images c.read_synced.new.disk) c.in_ok-area.area c.in_ok-area.broker.state = record {
            image = g.D.Disk.content c.args.disk.now;
            among = g.met.D.Disk.reads c.args.disk.now honest;
            has = c.in_ok-area.ensures.read honest;
            only = c.in_ok-area.ensures.only honest;
          } in
          (c.in-Ok.ensures.ok.written (c.read_synced.ensures.lasts.honest honest) known.has.snapshot known.has.blocks (held_now known)).sound;
      restarted = record {
        state = λ honest t stand. done.state ∙ ap (λ (u : State). restarted u) (is_read area s t (g.D.Disk.content c.args.disk.now) (c.in_ok-area.ensures.read honest) stand);
        stood = λ honest.
            let has = c.in_ok-area.ensures.read honest in
            record {
              before = s;
              stood = stands area.version area.size area.selector has.snapshot has.blocks (g.D.Disk.content c.args.disk.now) s has.at.reads has.leads;
              is = done.state;
            };
        stands = λ honest.
            let known : Known (g.D.Disk.images c.args.disk.now) (g.D.Disk.images c.read_synced.new.disk) c.in_ok-area.area c.in_ok-area.broker.state = record {
              image = g.D.Disk.content c.args.disk.now;
              among = g.met.D.Disk.reads c.args.disk.now honest;
              has = c.in_ok-area.ensures.read honest;
              only = c.in_ok-area.ensures.only honest;
            } in
            subst (λ (u : State). StandFor (g.D.Disk.images c.write_restarted.new.disk) u) (sym done.state) (c.in-Ok.ensures.ok.written (c.read_synced.ensures.lasts.honest honest) known.has.snapshot known.has.blocks (held_now known)).stands;
        alone = λ honest.
            let known : Known (g.D.Disk.images c.args.disk.now) (g.D.Disk.images c.read_synced.new.disk) c.in_ok-area.area c.in_ok-area.broker.state = record {
              image = g.D.Disk.content c.args.disk.now;
              among = g.met.D.Disk.reads c.args.disk.now honest;
              has = c.in_ok-area.ensures.read honest;
              only = c.in_ok-area.ensures.only honest;
            } in
            subst (λ (u : State). Each (g.D.Disk.images c.write_restarted.new.disk) (HoldsOnlySnapshot c.write_restarted.new.area.size (c.write_restarted.new.area.gate + 1) u)) (sym done.state) (c.in-Ok.ensures.ok.written (c.read_synced.ensures.lasts.honest honest) known.has.snapshot known.has.blocks (held_now known)).holds;
        counted = record {
          small = subst (λ (u : State). u.count ≤ 2 ^ 61) (sym done.state) c.in_ok-area.ensures.loaded.counted.small;
          whole = done.broker_whole;
        };
      };
    }

pub returns-in_err-area-clause-refuses : goal.returns-in_err-area-clause-refuses
returns-in_err-area-clause-refuses g c = read_to_open g.D.Disk c.args.disk.now c.read_synced.new.disk c.from_residual.result (search rules) c.read_synced.ensures.unwritten

pub returns-in-Err-clause-refuses : goal.returns-in-Err-clause-refuses
returns-in-Err-clause-refuses g c = record {
  told = λ honest. write_told c.in-Err.fault c.in_ok-area.area c.in_ok-area.broker.state (g.D.Disk.content c.args.disk.now) (c.in_ok-area.ensures.read honest) c.in_ok-area.ensures.loaded.counted.small c.in-Err.ensures.err.told;
  full = full_told c.in-Err.fault c.in_ok-area.area.size (length (g.D.Disk.content c.args.disk.now)) c.in_ok-area.broker.state c.in-Err.ensures.err.told c.in_ok-area.ensures.loaded.least
      (omega (arith, c.in_ok-area.ensures.loaded.room, c.read_synced.ensures.lasts.size)) c.in_ok-area.ensures.loaded.counted.small;
  unwritten = λ honest. written_told (λ d. IsUnwritten g.D.Disk c.args.disk.now d) c.read_synced.new.disk c.write_restarted.new.disk c.in-Err.fault c.in_ok-area.area.size c.in_ok-area.broker.state c.in-Err.ensures.err.told c.in-Err.ensures.err.full
      (c.read_synced.ensures.unwritten honest);
}
