use Rattle.std.proofs.Common.{flat_map, sym, ◌∙◌, ap}
use Rattle.std.proofs.lemmas.List.{take_all}
use Rattle.area_core.proofs.Batches.{batch_records, entry_record}
use Rattle.world_core.proofs.parts.records_of.Goals as goal

pub returns : goal.returns
returns c =
    c.loop-entry.invariant
    ∙ ap (λ es. flat_map entry_record es) (take_all c.loop-entry.entry-index c.args.entries.now c.loop-entry-test.false)
    ∙ sym (batch_records c.args.entries.now)
