use Rattle.std.proofs.Common.{◌-◌, arith, length, refl}
use Rattle.world_core.proofs.Fitting.{all_fit, fits_more, fits_no_more}
use Rattle.world_core.proofs.parts.as_many.Goals as goal

pub loop-entry-preserved : goal.loop-entry-preserved
loop-entry-preserved c =
    let i = c.loop-entry.entry-index in
    let size = length c.bytes.result.now in
    let more = fits_more c.args.entries.now i c.loop-entry.left (c.loop-entry.left - size) c.entry-item.result c.bytes.result.now c.loop-entry-test.true c.entry-item.is c.bytes.ensures (omega (arith, c.if-size-left.false)) refl in
    record { count = omega (arith, c.loop-entry.invariant.count); rest = omega (arith, c.loop-entry.invariant.rest, more) }

pub returns-then-size-left : goal.returns-then-size-left
returns-then-size-left c =
    let i = c.loop-entry.entry-index in
    omega (arith, c.loop-entry.invariant.count, c.loop-entry.invariant.rest, fits_no_more c.args.entries.now i c.loop-entry.left c.entry-item.result c.bytes.result.now c.loop-entry-test.true c.entry-item.is c.bytes.ensures (omega (arith, c.if-size-left.true)))

pub returns : goal.returns
returns c = omega (arith, c.loop-entry.invariant.count, c.loop-entry.invariant.rest, all_fit c.args.entries.now c.loop-entry.entry-index c.loop-entry.left (omega (arith, c.loop-entry-test.false)))
