use Rattle.std.proofs.Common.{List, ℕ, IsErrOf, length, ap, arith, rules}
use Rattle.std.proofs.lemmas.Result.{on_ok_weaker}
use Rattle.area_core.specs.declared.faults.AreaFault.TheVariants as areas
use Rattle.disk_core.proofs.Runs.{joined, weaker}
use Rattle.disk_core.proofs.Torn.{torn_same}
use Rattle.area_core.specs.Calls.{Switches}
use Rattle.area_core.specs.Journals.{is_odd, other, start}
use Rattle.area_core.proofs.Unwritten.{untouched}
use Rattle.recover_core.specs.Compactions.{IsWritingState}
use Rattle.recover_core.proofs.Compacts.{Copied, live_after, rest_as, still_as, switched_as, twice_as, writing_as}
use Rattle.recover_core.proofs.Sizes.{seven_count}
use Rattle.recover_core.proofs.Walking.{is_long}
use Rattle.recover_core.proofs.compacting.write_state.Goals as goal

pub returns-in_err-snapshot-clause-any_moment : goal.returns-in_err-snapshot-clause-any_moment
returns-in_err-snapshot-clause-any_moment g c honest =
    let first = g.D.Disk.images c.args.disk.now in
    let area = c.args.area.now in
    untouched g.D.Disk c.args.disk.now (g.met.D.Disk.only_now c.args.disk.now) (IsWritingState first area c.args.broker.now.state)
    (λ d image. record {
      stands = still_as first area c.args.broker.now.state d image;
      two = rest_as first area c.args.broker.now.state d (d, image, torn_same (start area.size (other (is_odd area.selector))) area.size d);
    })

pub returns-in_err-write_snapshot-clause-any_moment : goal.returns-in_err-write_snapshot-clause-any_moment
returns-in_err-write_snapshot-clause-any_moment g c honest =
    weaker g.D.Disk c.args.disk.now c.write_snapshot.new.disk _ _ (c.write_snapshot.ensures.any_moment honest)
    (writing_as (g.D.Disk.images c.args.disk.now) c.args.area.now c.args.broker.now.state)

pub returns-clause-any_moment : goal.returns-clause-any_moment
returns-clause-any_moment g c honest =
    let first = g.D.Disk.images c.args.disk.now in
    let now = g.D.Disk.images c.write_snapshot.new.disk in
    let area = c.args.area.now in
    let next = c.write_snapshot.new.self in
    let s = c.args.broker.now.state in
    let wrote = c.write_snapshot.ensures.any_moment honest in
    let copied : Copied first now area next s = record {
      live = λ image is. (wrote.each image (g.met.D.Disk.counts_now c.write_snapshot.new.disk (g.D.Disk.moment c.args.disk.now) image wrote.later is)).live;
      size = c.write_snapshot.ensures.place.size;
      selector = c.write_snapshot.ensures.place.selector;
      gate = c.write_snapshot.ensures.place.gate;
      version = c.write_snapshot.ensures.place.version;
      snapshot = c.in_ok-snapshot.snapshot.writer;
      idle = c.in_ok-write_snapshot.ensures.writes.idle honest;
      spells = c.in_ok-snapshot.ensures;
    } in
    joined g.D.Disk c.args.disk.now c.write_snapshot.new.disk c.switch.new.disk (IsWritingState first area s)
    (weaker g.D.Disk c.args.disk.now c.write_snapshot.new.disk _ _ wrote (writing_as first area s))
    (weaker g.D.Disk c.write_snapshot.new.disk c.switch.new.disk _ _ (c.switch.ensures.any_moment (c.write_snapshot.ensures.lasts.honest honest))
    (λ image is. record { stands = switched_as copied image is.both; two = twice_as copied image is.rest }))

pub returns-clause-writes : goal.returns-clause-writes
returns-clause-writes g c =
    let first = g.D.Disk.images c.args.disk.now in
    let now = g.D.Disk.images c.write_snapshot.new.disk in
    let area = c.args.area.now in
    let next = c.write_snapshot.new.self in
    let s = c.args.broker.now.state in
    on_ok_weaker c.switch.result
    (λ (it : Switches g.D.Disk next c.switch.new.self c.write_snapshot.new.disk c.switch.new.disk). record {
      written = λ honest.
          let wrote = c.write_snapshot.ensures.any_moment honest in
          let copied : Copied first now area next s = record {
            live = λ image is. (wrote.each image (g.met.D.Disk.counts_now c.write_snapshot.new.disk (g.D.Disk.moment c.args.disk.now) image wrote.later is)).live;
            size = c.write_snapshot.ensures.place.size;
            selector = c.write_snapshot.ensures.place.selector;
            gate = c.write_snapshot.ensures.place.gate;
            version = c.write_snapshot.ensures.place.version;
            snapshot = c.in_ok-snapshot.snapshot.writer;
            idle = c.in_ok-write_snapshot.ensures.writes.idle honest;
            spells = c.in_ok-snapshot.ensures;
          } in
          live_after copied (g.D.Disk.images c.switch.new.disk) c.switch.new.self it.version (it.live (c.write_snapshot.ensures.lasts.honest honest));
      used = omega (arith, it.gate, c.in_ok-write_snapshot.ensures.writes.written, ap (λ (l : List ℕ). length l) c.in_ok-snapshot.ensures.spelled);
    })
    c.switch.ensures.switches

pub returns-in_err-write_snapshot-clause-breaks : goal.returns-in_err-write_snapshot-clause-breaks
returns-in_err-write_snapshot-clause-breaks g c =
    let s = c.args.broker.now.state in
    let snapshot = c.in_ok-snapshot.snapshot.writer in
    let never : IsErrOf c.write_snapshot.result areas.Full → ⊥ =
    (λ is. omega (arith, is_long c.args.area.now.size (length snapshot) (seven_count s snapshot c.in_ok-snapshot.ensures) (c.write_snapshot.ensures.full is).0, ap (λ (l : List ℕ). length l) c.in_ok-snapshot.ensures.spelled, c.requires.room.fits)) in
    search (rules, never)
