use Rattle.std.proofs.Common.{◌≡◌, ◌+◌, ◌≤◌, length, get_or, Option, ℕ, List, ◌∙◌, ap, subst, sym, arith}
use Rattle.std.proofs.lemmas.List.{length-replicate}
use Rattle.disk_core.specs.declared.span.Span.{Span}
use Rattle.disk_core.specs.Memory.{none_held, crashed}
use Rattle.disk_core.specs.Spans.{IsHeldIn}
use Rattle.disk_core.proofs.Patched.{length-patched}
use Rattle.disk_core.proofs.Spans.{held_later, put_released, put_crashed, same_crash, crash_more, none_left, nothing_lost}
use Rattle.disk_core.proofs.span.put_all_back.Goals as goal

pub loop-span-preserved : goal.loop-span-preserved
loop-span-preserved c =
    let spans = c.args.spans.now in
    let k = c.loop-span.span-index in
    let held = c.loop-span.held in
    let bytes = c.loop-span.bytes in
    let d : Span = record { at = 0; len = 0 } in
    let span = get_or spans k d in
    let sizes : length held ≡ length bytes = omega arith in
    let fits : span.at + span.len ≤ length held = omega (arith, c.requires.cover.within k d (omega arith)) in
    let none_size : length (none_held span.len) ≡ span.len = length-replicate span.len _ in
    let held_is = put_released held c.release.new.held span.at span.len fits c.release.ensures in
    let bytes_is = put_crashed c.args.fill held bytes c.put_back.new.bytes span.at span.len sizes (omega arith) c.put_back.ensures in
    record {
      sizes = ap length held_is ∙ length-patched span.at (none_held span.len) held (omega arith) ∙ c.loop-span.invariant.sizes;
      rest = subst (IsHeldIn (k + 1) spans) (sym held_is) (held_later spans k d held fits c.loop-span.invariant.rest);
      after = same_crash c.args.fill _ _ _ _ held_is bytes_is
          ∙ crash_more c.args.fill held bytes span.at span.len (span.at + span.len) sizes (omega arith) (omega arith) ∙ c.loop-span.invariant.after;
    }

pub returns-clause-bytes : goal.returns-clause-bytes
returns-clause-bytes c =
    let none = none_left c.args.spans.now c.loop-span.span-index c.loop-span.held (omega arith) c.loop-span.invariant.rest in
    sym (nothing_lost c.args.fill (length c.loop-span.held) c.loop-span.bytes (omega arith)) ∙ ap (λ (h : List (Option ℕ)). crashed c.args.fill h c.loop-span.bytes) (sym none) ∙ c.loop-span.invariant.after

pub returns-clause-held : goal.returns-clause-held
returns-clause-held c = none_left c.args.spans.now c.loop-span.span-index c.loop-span.held (omega arith) c.loop-span.invariant.rest ∙ ap none_held c.loop-span.invariant.sizes
