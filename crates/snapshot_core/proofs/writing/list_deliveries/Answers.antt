use Rattle.std.specs.Int.{w32, to_be_bytes}
use Rattle.std.proofs.Common.{length}
use Rattle.command_core.proofs.Walks.{all_more, put_more}
use Rattle.snapshot_core.specs.Snapshots.{IsDelivery, delivery}
use Rattle.snapshot_core.specs.Parts.{written}
use Rattle.snapshot_core.proofs.writing.list_deliveries.Goals as goal

pub loop-number-preserved : goal.loop-number-preserved
loop-number-preserved c =
    let deliveries = c.args.deliveries.now in
    let turn = c.loop-number in
    let item = c.loop-number-item in
    let done = c.in_ok-list_delivery.ensures in
    record {
      put = put_more delivery (written c.args.parts.now.items) (to_be_bytes w32 (length deliveries)) (written turn.parts.items) _ deliveries turn.number-index _ c.loop-number-test.true item.is turn.invariant.put done.put;
      form = all_more IsDelivery deliveries turn.number-index _ c.loop-number-test.true item.is turn.invariant.form done.form;
    }
