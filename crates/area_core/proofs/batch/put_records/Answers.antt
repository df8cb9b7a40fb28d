use Rattle.std.proofs.Common.{◌++◌, [], flat_map, sym, ◌∙◌, ap, List, ℕ}
use Rattle.std.proofs.lemmas.List.{take_all}
use Rattle.command_core.proofs.Walks.{put_more}
use Rattle.area_core.proofs.Batches.{batch_records, entry_record}
use Rattle.area_core.proofs.batch.put_records.Goals as goal

pub loop-entry-preserved : goal.loop-entry-preserved
loop-entry-preserved g c =
    put_more entry_record c.args.out.now.items [] c.loop-entry.out.items _ c.args.batch.now c.loop-entry.entry-index c.entry-item.result c.loop-entry-test.true c.entry-item.is c.loop-entry.invariant
    (c.in_ok-extend_from_slice.ensures.items ∙ ap (λ (l : List ℕ). c.loop-entry.out.items ++ l) c.bytes.ensures.spelled)

pub returns : goal.returns
returns g c =
    c.loop-entry.invariant
    ∙ ap (λ es. c.args.out.now.items ++ flat_map entry_record es) (take_all c.loop-entry.entry-index c.args.batch.now c.loop-entry-test.false)
    ∙ ap (λ (l : List ℕ). c.args.out.now.items ++ l) (sym (batch_records c.args.batch.now))
