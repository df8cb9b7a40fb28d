use Rattle.std.specs.Int.{w32, to_be_bytes}
use Rattle.std.proofs.Common.{◌≡◌, Some, length, rules, slice_get, sym}
use Rattle.std.proofs.lemmas.Option.{get_or_from_slice_get, slice_get_within}
use Rattle.command_core.proofs.Walks.{all_more, put_more}
use Rattle.snapshot_core.specs.Snapshots.{IsMessage, message}
use Rattle.snapshot_core.specs.Parts.{written}
use Rattle.snapshot_core.proofs.writing.list_line.Goals as goal

pub loop-at-preserved : goal.loop-at-preserved
loop-at-preserved c =
    let line = c.args.line.now in
    let turn = c.loop-at in
    let m = c.unwrap.result.now in
    let is : slice_get line turn.at ≡ Some m = search rules in
    let within = slice_get_within line turn.at m is in
    let here = sym (get_or_from_slice_get line turn.at m m is) in
    let done = c.in_ok-list_message.ensures in
    record {
      put = put_more message (written c.args.parts.now.items) (to_be_bytes w32 (length line)) (written turn.parts.items) _ line turn.at m within here turn.invariant.put done.put;
      form = all_more IsMessage line turn.at m within here turn.invariant.form done.form;
    }
