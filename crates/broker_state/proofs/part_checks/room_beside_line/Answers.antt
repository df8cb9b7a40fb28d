use Rattle.std.proofs.Common.{◌≡◌, ◌≤◌, ◌+◌, None, Some, ap, arith, rules, slice_get, subst, sym}
use Rattle.std.proofs.lemmas.List.Sums.{sum_by_more, sum_by_more_le}
use Rattle.std.proofs.lemmas.Option.{get_or_from_slice_get, slice_get_within}
use Rattle.std.specs.List.{sum_by}
use Rattle.broker_state.specs.Rooms.{IsLeft}
use Rattle.broker_state.specs.States.{bytes, one}
use Rattle.broker_state.proofs.part_checks.room_beside_line.Goals as goal

pub returns-in_err-left : goal.returns-in_err-left
returns-in_err-left c =
    let line = c.args.line.now in
    let at = c.loop-at.at in
    let m = c.unwrap.result.now in
    let is : slice_get line at ≡ Some m = search rules in
    let here = get_or_from_slice_get line at m m is in
    let within = slice_get_within line at m is in
    let none : c.from_residual.result ≡ None = search rules in
    let full : ¬ ((one m ≤ c.loop-at.left.messages) × (bytes m ≤ c.loop-at.left.bytes)) = search rules in
    subst (IsLeft c.args.room (λ weight. sum_by weight line)) (sym none) (λ fits. full (omega (arith, fits.0, c.loop-at.invariant.messages, sum_by_more_le one line at m within), omega (arith, fits.1, c.loop-at.invariant.bytes, sum_by_more_le bytes line at m within, ap bytes here)))

pub loop-at-preserved : goal.loop-at-preserved
loop-at-preserved c =
    let line = c.args.line.now in
    let at = c.loop-at.at in
    let m = c.unwrap.result.now in
    let is : slice_get line at ≡ Some m = search rules in
    let here = get_or_from_slice_get line at m m is in
    let within = slice_get_within line at m is in
    let left : (c.in_ok-left.left.messages + one m ≡ c.loop-at.left.messages) × (c.in_ok-left.left.bytes + bytes m ≡ c.loop-at.left.bytes) = search rules in
    record {
      messages = omega (arith, left.0, c.loop-at.invariant.messages, sum_by_more one line at m within);
      bytes = omega (arith, left.1, c.loop-at.invariant.bytes, sum_by_more bytes line at m within, ap bytes here);
    }
