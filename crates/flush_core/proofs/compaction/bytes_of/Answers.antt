use Rattle.std.proofs.Common.{arith, ap, flat_map, length, refl, take, ◌≡◌, List, ℕ}
use Rattle.std.proofs.lemmas.List.{take_all}
use Rattle.area_core.proofs.Batches.{batch_records, entry_record, total_more}
use Rattle.flush_core.proofs.compaction.bytes_of.Goals as goal

pub loop-entry-preserved : goal.loop-entry-preserved
loop-entry-preserved g c =
    let so_far = length (flat_map entry_record (take c.loop-entry.entry-index c.args.batch.now)) in
    let more = total_more c.args.batch.now c.loop-entry.entry-index so_far c.entry-item.result c.bytes.result.now c.loop-entry-test.true c.entry-item.is c.bytes.ensures refl in
    omega (arith, more, c.loop-entry.invariant, c.saturating_add-bytes.ensures)

pub returns : goal.returns
returns g c =
    let all : length (flat_map entry_record (take c.loop-entry.entry-index c.args.batch.now)) ≡ length (flat_map entry_record c.args.batch.now) =
    ap (λ es. length (flat_map entry_record es)) (take_all c.loop-entry.entry-index c.args.batch.now c.loop-entry-test.false) in
    omega (arith, c.loop-entry.invariant, all, ap (λ (l : List ℕ). length l) (batch_records c.args.batch.now))
