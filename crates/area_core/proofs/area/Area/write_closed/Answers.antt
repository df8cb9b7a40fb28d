use Rattle.std.proofs.Common.{◌≡◌, ◌+◌, ℕ, List, drop, length, take, sym, ◌∙◌, ap, arith}
use Rattle.std.proofs.lemmas.List.{length-take-le}
use Rattle.disk_core.specs.Images.{patched}
use Rattle.disk_core.proofs.Runs.{joined, weaker}
use Rattle.area_core.specs.declared.version.Version.TheVariants.{Two}
use Rattle.area_core.specs.Areas.{closed_snapshot}
use Rattle.area_core.specs.Closing.{closing}
use Rattle.area_core.specs.Journals.{is_odd, other, start}
use Rattle.area_core.specs.Switches.{KeepsRest}
use Rattle.area_core.proofs.Areas.{length-sealed}
use Rattle.area_core.proofs.Closings.{closes_next, more_written, patched_on, piece_fits, rest_twice}
use Rattle.area_core.proofs.Journals.{start_most}
use Rattle.area_core.proofs.area.Area.write_closed.Goals as goal

pub returns-in_err-at-clause-outside : goal.returns-in_err-at-clause-outside
returns-in_err-at-clause-outside g c honest =
    let inv = c.loop-at.invariant in
    let first = g.D.Disk.images c.args.disk.now in
    joined g.D.Disk c.args.disk.now c.loop-at.disk c.write_next.new.disk (KeepsRest first c.args.self.now) (inv.outside honest)
    (weaker g.D.Disk c.loop-at.disk c.write_next.new.disk _ _ (c.write_next.ensures.outside (inv.honest honest))
    (rest_twice first (g.D.Disk.images c.loop-at.disk) c.args.self.now c.loop-at.self inv.place.0 inv.place.1
    (λ d is. (inv.outside honest).each d (g.met.D.Disk.counts_now c.loop-at.disk (g.D.Disk.moment c.args.disk.now) d (inv.outside honest).later is))))

pub overflow_add-at : goal.overflow_add-at
overflow_add-at g c =
    let whole = closed_snapshot Two (g.P.Pieces.coming c.args.pieces.now) in
    let long : length whole ≡ c.len-total.result + 9 = omega (arith, length-sealed Two (g.P.Pieces.coming c.args.pieces.now), c.loop-at.invariant.total) in
    let fits = piece_fits 65536 c.loop-at.at whole (closing c.loop-at.at c.len-total.result (g.P.Pieces.coming c.loop-at.pieces)) (omega arith) (c.loop-at.invariant.left (omega (arith, c.loop-at-test.true))) (omega (arith, long, c.loop-at-test.true)) in
    omega (arith, fits.1, long, c.in_ok-at.ensures.next.count, c.loop-at.invariant.total, c.requires.fits, c.args.self.now.most)

pub loop-at-smaller : goal.loop-at-smaller
loop-at-smaller g c =
    let whole = closed_snapshot Two (g.P.Pieces.coming c.args.pieces.now) in
    let long : length whole ≡ c.len-total.result + 9 = omega (arith, length-sealed Two (g.P.Pieces.coming c.args.pieces.now), c.loop-at.invariant.total) in
    let fits = piece_fits 65536 c.loop-at.at whole (closing c.loop-at.at c.len-total.result (g.P.Pieces.coming c.loop-at.pieces)) (omega arith) (c.loop-at.invariant.left (omega (arith, c.loop-at-test.true))) (omega (arith, long, c.loop-at-test.true)) in
    omega (arith, fits.0, c.in_ok-at.ensures.next.count, c.loop-at-test.true)

pub loop-at-preserved : goal.loop-at-preserved
loop-at-preserved g c =
    let inv = c.loop-at.invariant in
    let it = c.args.self.now in
    let base = start it.size (other (is_odd it.selector)) in
    let at : ℕ = c.loop-at.at in
    let total : ℕ = c.len-total.result in
    let first = g.D.Disk.images c.args.disk.now in
    let d = g.D.Disk.content c.args.disk.now in
    let whole = closed_snapshot Two (g.P.Pieces.coming c.args.pieces.now) in
    let stream = closing at total (g.P.Pieces.coming c.loop-at.pieces) in
    let left : stream ≡ drop at whole = inv.left (omega (arith, c.loop-at-test.true)) in
    let long : length whole ≡ total + 9 = omega (arith, length-sealed Two (g.P.Pieces.coming c.args.pieces.now), inv.total) in
    let count : c.in_ok-at.field-0 ≡ length (take 65536 stream) = c.in_ok-at.ensures.next.count in
    let fits = piece_fits 65536 at whole stream (omega arith) left (omega (arith, long, c.loop-at-test.true)) in
    let written : length (take at whole) ≡ at = length-take-le at whole (omega (arith, long, inv.at)) in
    record {
      at = omega (arith, fits.1, long, count);
      total = inv.total;
      left = λ more. ap (λ (l : List ℕ). closing (at + c.in_ok-at.field-0) total l) c.in_ok-at.ensures.next.rest
          ∙ closes_next 65536 at (at + c.in_ok-at.field-0) total whole (g.P.Pieces.coming c.loop-at.pieces) (omega arith) left (omega (arith, long, inv.at)) (ap (λ (n : ℕ). at + n) count) (omega (arith, long, more));
      content = λ honest.
          c.in_ok-at.ensures.next.content (inv.honest honest)
          ∙ (λ i. patched (start (inv.place.0 i) (other (is_odd (inv.place.1 i))) + at) (take 65536 stream) (inv.content honest i))
          ∙ patched_on base at (take at whole) (take 65536 stream) d written (omega (arith, fits.1, long, inv.total, c.requires.fits, c.requires.ready.room, start_most it.size (other (is_odd it.selector))))
          ∙ ap (λ (l : List ℕ). patched base l d) (more_written 65536 at whole stream left ∙ ap (λ (n : ℕ). take (at + n) whole) (sym count));
      outside = λ honest.
          joined g.D.Disk c.args.disk.now c.loop-at.disk c.write_next.new.disk (KeepsRest first it) (inv.outside honest)
          (weaker g.D.Disk c.loop-at.disk c.write_next.new.disk _ _ (c.write_next.ensures.outside (inv.honest honest))
          (rest_twice first (g.D.Disk.images c.loop-at.disk) it c.loop-at.self inv.place.0 inv.place.1
          (λ image is. (inv.outside honest).each image (g.met.D.Disk.counts_now c.loop-at.disk (g.D.Disk.moment c.args.disk.now) image (inv.outside honest).later is))));
      place = (c.write_next.ensures.place.size ∙ inv.place.0, c.write_next.ensures.place.selector ∙ inv.place.1, c.write_next.ensures.place.gate ∙ inv.place.2, c.write_next.ensures.place.version ∙ inv.place.3);
      whole = c.in_ok-at.ensures.breaks.ok;
      size = c.write_next.ensures.lasts.size ∙ inv.size;
      failures = c.in_ok-at.ensures.breaks.cause ∙ inv.failures;
      honest = λ h. c.write_next.ensures.lasts.honest (inv.honest h);
      was_honest = λ h. inv.was_honest (c.write_next.ensures.lasts.was_honest h);
    }
