use Rattle.std.proofs.Common.{arith, inl, inr, length, take, ◌+◌, ◌-◌, ◌≤◌, ◌<◌}
use Rattle.std.proofs.lemmas.Bool.{cases_lt}
use Rattle.area_core.specs.Areas.{commands, records}
use Rattle.flush_core.proofs.BatchPrefixes.{front_less, more_too_long, one_too_long}
use Rattle.flush_core.proofs.batch.count_fitting.Goals as goal

pub returns-clause-one : goal.returns-clause-one
returns-clause-one g c = λ long.
    let cs = commands c.args.batch.now in
    let fits : length (records (take c.count_within.result cs)) ≤ c.args.size - c.args.used - 9 = omega (arith, c.records_room-room.ensures.room, c.count_within.ensures.fits) in
    elim (cases_lt 1 c.min.result) [
      | inl less ↦ one_too_long c.args.size c.args.used c.count_within.result c.min.result cs fits (omega arith) long
      | inr least ↦ omega (arith, long, front_less c.min.result 1 cs least)
    ]

pub returns-clause-more : goal.returns-clause-more
returns-clause-more g c = λ less.
    let cs = commands c.args.batch.now in
    let fits : length (records (take c.count_within.result cs)) ≤ c.args.size - c.args.used - 9 = omega (arith, c.records_room-room.ensures.room, c.count_within.ensures.fits) in
    let more : c.args.size - c.args.used - 9 < length (records (take (c.count_within.result + 1) cs)) = omega (arith, c.records_room-room.ensures.room, c.count_within.ensures.more (omega arith)) in
    more_too_long c.args.size c.args.used c.count_within.result c.min.result cs fits (omega arith) more
