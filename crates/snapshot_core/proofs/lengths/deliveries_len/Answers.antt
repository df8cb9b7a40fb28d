use Rattle.std.proofs.Common.{◌∙◌, arith}
use Rattle.snapshot_core.specs.Snapshots.{delivery}
use Rattle.snapshot_core.proofs.Capped.{next_counted}
use Rattle.snapshot_core.proofs.lengths.deliveries_len.Goals as goal

pub loop-number-preserved : goal.loop-number-preserved
loop-number-preserved c =
    let turn = c.loop-number in
    c.saturating_add-total.ensures ∙ next_counted delivery 4 turn.total c.delivery_len.result c.args.deliveries.now turn.number-index _ c.loop-number-test.true c.loop-number-item.is turn.invariant (omega (arith, c.delivery_len.ensures.len, c.delivery_len.ensures.small))
