use Rattle.std.proofs.Common.{arith, ap, length}
use Rattle.std.proofs.lemmas.List.Sums.{sum_by_more_le, sum_by-take-le}
use Rattle.line_core.specs.Messages.{header_size}
use Rattle.line_core.proofs.HeaderSizes.{sum_by-header_size-le}
use Rattle.line_core.proofs.message.headers_size.Goals as goal

pub overflow_add-size-in-loop-name : goal.overflow_add-size-in-loop-name
overflow_add-size-in-loop-name c =
    let hs = c.args.headers.now in
    let whole = sum_by-header_size-le hs c.requires.each in
    let part = rw (← c.loop-name-item.is) at (sum_by_more_le header_size hs c.loop-name.name-index c.loop-name-item.result (omega arith)) in
    let name = ap length c.as_str.ensures in
    let value = ap length c.as_str-in-loop-name.ensures in
    omega (arith, whole, part, name, value, c.loop-name.invariant, c.requires.few)

pub returns-clause-small : goal.returns-clause-small
returns-clause-small c =
    let hs = c.args.headers.now in
    omega (arith, sum_by-header_size-le hs c.requires.each, sum_by-take-le header_size hs c.loop-name.name-index, c.loop-name.invariant, c.requires.few)
