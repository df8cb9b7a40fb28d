use Rattle.std.proofs.Common.{◌≡◌, ◌∙◌, ◌+◌, Option, Some, ap, arith, option_map, slice_get, sym, take}
use Rattle.std.proofs.lemmas.List.Sums.{sum_by_more}
use Rattle.std.proofs.lemmas.Option.{get_or_from_slice_get, slice_get_within}
use Rattle.std.specs.List.{sum_by}
use Rattle.broker_state.specs.States.{bytes}
use Rattle.journal_files.proofs.held.bytes_of.Goals as goal

pub loop-at-preserved : goal.loop-at-preserved
loop-at-preserved c =
    let line = c.args.line.now in
    let at = c.loop-at.at in
    let m = c.unwrap.result.now in
    let there : slice_get line at ≡ Some m = sym c.get.ensures ∙ ap (λ o. option_map (λ r. r.now) o) c.unwrap.ensures in
    let more : sum_by bytes (take (at + 1) line) ≡ sum_by bytes (take at line) + bytes m =
    sum_by_more bytes line at m (slice_get_within line at m there) ∙ ap (λ x. sum_by bytes (take at line) + bytes x) (get_or_from_slice_get line at m m there) in
    record {
      sum = ap (λ n. n + c.bytes_in.result) c.loop-at.invariant.sum ∙ ap (λ n. sum_by bytes (take at line) + n) c.bytes_in.ensures.size ∙ sym more;
      small = omega (arith, c.loop-at.invariant.small, c.bytes_in.ensures.small);
    }
