use Rattle.std.proofs.Common.{arith, ap, flat_map, length, refl, take, ◌+◌, ℕ}
use Rattle.area_core.specs.Areas.{commands, records}
use Rattle.area_core.proofs.Batches.{entry_record, total_more}
use Rattle.flush_core.proofs.BatchPrefixes.{front_records}
use Rattle.flush_core.proofs.batch.count_within.Goals as goal

pub loop-entry-preserved : goal.loop-entry-preserved
loop-entry-preserved g c =
    let so_far = length (flat_map entry_record (take c.loop-entry.entry-index c.args.batch.now)) in
    let more = total_more c.args.batch.now c.loop-entry.entry-index so_far c.entry-item.result c.bytes.result.now c.loop-entry-test.true c.entry-item.is c.bytes.ensures refl in
    record { count = omega (arith, c.loop-entry.invariant.count); left = omega (arith, more, c.loop-entry.invariant.left) }

pub returns-in_default-clause-within : goal.returns-in_default-clause-within
returns-in_default-clause-within g c = omega (arith, c.loop-entry.invariant.count, c.loop-entry-test.true)

pub returns-in_default-clause-fits : goal.returns-in_default-clause-fits
returns-in_default-clause-fits g c =
    omega (
      arith,
      ap (λ (n : ℕ). length (records (take n (commands c.args.batch.now)))) c.loop-entry.invariant.count,
      front_records c.loop-entry.entry-index c.args.batch.now,
      c.loop-entry.invariant.left,
    )

pub returns-in_default-clause-more : goal.returns-in_default-clause-more
returns-in_default-clause-more g c = λ less.
    let so_far = length (flat_map entry_record (take c.loop-entry.entry-index c.args.batch.now)) in
    let more = total_more c.args.batch.now c.loop-entry.entry-index so_far c.entry-item.result c.bytes.result.now c.loop-entry-test.true c.entry-item.is c.bytes.ensures refl in
    omega (
      arith,
      more,
      ap (λ (n : ℕ). length (records (take (n + 1) (commands c.args.batch.now)))) c.loop-entry.invariant.count,
      front_records (c.loop-entry.entry-index + 1) c.args.batch.now,
      c.loop-entry.invariant.left,
    )

pub returns-clause-fits : goal.returns-clause-fits
returns-clause-fits g c =
    omega (
      arith,
      ap (λ (n : ℕ). length (records (take n (commands c.args.batch.now)))) c.loop-entry.invariant.count,
      front_records c.loop-entry.entry-index c.args.batch.now,
      c.loop-entry.invariant.left,
    )
