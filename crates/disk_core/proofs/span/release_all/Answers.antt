use Rattle.std.proofs.Common.{◌+◌, ◌≤◌, length, get_or, ◌∙◌, ap, subst, sym, arith}
use Rattle.disk_core.specs.declared.span.Span.{Span}
use Rattle.disk_core.specs.Memory.{none_held}
use Rattle.disk_core.specs.Spans.{IsHeldIn}
use Rattle.disk_core.proofs.Spans.{held_later, put_released, none_left}
use Rattle.disk_core.proofs.span.release_all.Goals as goal

pub loop-span-preserved : goal.loop-span-preserved
loop-span-preserved c =
    let spans = c.args.spans.now in
    let k = c.loop-span.span-index in
    let held = c.loop-span.held in
    let d : Span = record { at = 0; len = 0 } in
    let span = get_or spans k d in
    let fits : span.at + span.len ≤ length held = omega (arith, c.requires.within k d (omega arith)) in
    subst (IsHeldIn (k + 1) spans) (sym (put_released held c.release.new.held span.at span.len fits c.release.ensures))
    (held_later spans k d held fits c.loop-span.invariant)

pub returns : goal.returns
returns c = none_left c.args.spans.now c.loop-span.span-index c.loop-span.held (omega arith) c.loop-span.invariant ∙ ap none_held (omega arith)
