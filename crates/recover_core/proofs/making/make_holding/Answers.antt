use Rattle.std.proofs.Common.{◌≡◌, List, ℕ, length, ap, arith, rules}
use Rattle.std.proofs.lemmas.Result.{on_ok_weaker}
use Rattle.disk_core.proofs.Runs.{weaker}
use Rattle.area_core.specs.Making.{Makes}
use Rattle.recover_core.specs.Calls.{HasRoomFor}
use Rattle.recover_core.proofs.Formatted.{making_stands, stands_made, unmade}
use Rattle.recover_core.proofs.Sizes.{seven_count}
use Rattle.recover_core.proofs.Walking.{is_long}
use Rattle.recover_core.proofs.making.make_holding.Goals as goal

pub returns-then-not-has_room_for-clause-any_moment : goal.returns-then-not-has_room_for-clause-any_moment
returns-then-not-has_room_for-clause-any_moment g c only honest = unmade g.D.Disk c.args.disk.now (g.met.D.Disk.only_now c.args.disk.now) _ only

pub returns-in_err-snapshot-clause-any_moment : goal.returns-in_err-snapshot-clause-any_moment
returns-in_err-snapshot-clause-any_moment g c only honest = unmade g.D.Disk c.args.disk.now (g.met.D.Disk.only_now c.args.disk.now) _ only

pub returns-clause-any_moment : goal.returns-clause-any_moment
returns-clause-any_moment g c only honest =
    weaker g.D.Disk c.args.disk.now c.make.new.disk _ _ (c.make.ensures.any_moment only honest)
    (λ image is. making_stands (g.D.Disk.content c.args.disk.now) c.args.area_bytes c.in_ok-snapshot.snapshot.writer c.args.broker.now.state image c.in_ok-snapshot.ensures is)

pub returns-clause-makes : goal.returns-clause-makes
returns-clause-makes g c honest =
    on_ok_weaker c.make.result
    (λ (it : Makes g.D.Disk c.make.new.disk c.args.area_bytes c.in_ok-snapshot.snapshot.writer). λ image is.
    stands_made c.args.area_bytes c.in_ok-snapshot.snapshot.writer c.args.broker.now.state image c.in_ok-snapshot.ensures (it.made image is))
    (c.make.ensures.makes honest)

pub returns-clause-full : goal.returns-clause-full
returns-clause-full g c is =
    let s = c.args.broker.now.state in
    let snapshot : List ℕ = c.in_ok-snapshot.snapshot.writer in
    let room : HasRoomFor c.args.area_bytes s = search rules in
    let long = is_long c.args.area_bytes (length snapshot) (seven_count s snapshot c.in_ok-snapshot.ensures) (c.make.ensures.refuses.full is).0 in
    let spelled = ap (λ (l : List ℕ). length l) c.in_ok-snapshot.ensures.spelled in
    absurd (omega (arith, long, spelled, room.fits))
