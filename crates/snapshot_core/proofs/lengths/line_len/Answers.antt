use Rattle.std.proofs.Common.{◌≡◌, ◌∙◌, Some, arith, length, rules, slice_get, sym}
use Rattle.std.proofs.lemmas.Option.{get_or_from_slice_get, slice_get_within}
use Rattle.snapshot_core.specs.Lengths.{counted_in_eight}
use Rattle.snapshot_core.specs.Snapshots.{message}
use Rattle.snapshot_core.proofs.Capped.{next_counted}
use Rattle.snapshot_core.proofs.lengths.line_len.Goals as goal

pub loop-at-preserved : goal.loop-at-preserved
loop-at-preserved c =
    let line = c.args.line.now in
    let turn = c.loop-at in
    let m = c.unwrap.result.now in
    let is : slice_get line turn.at ≡ Some m = search rules in
    let within = slice_get_within line turn.at m is in
    let here = sym (get_or_from_slice_get line turn.at m m is) in
    let long : c.message_len.result ≡ counted_in_eight (length (message m)) = omega (arith, c.message_len.ensures.len, c.message_len.ensures.small) in
    c.saturating_add-total.ensures ∙ next_counted message 4 turn.total c.message_len.result line turn.at m within here turn.invariant long
