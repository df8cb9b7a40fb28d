use Rattle.std.proofs.Common.{◌≡◌, ◌∙◌, ap, List, length, take, arith}
use Rattle.std.specs.List.{flat_map}
use Rattle.std.proofs.lemmas.List.{take_all}
use Rattle.disk_core.specs.declared.span.Span.{Span}
use Rattle.disk_core.specs.Memory.{none_held}
use Rattle.disk_core.specs.Epochs.{held_at}
use Rattle.disk_core.proofs.Epochs.{same_places, placed_is}
use Rattle.disk_core.proofs.memory.Epoch.of.Goals as goal

pub returns : goal.returns
returns c =
    let spans = c.args.spans.now in
    let held = c.args.held.now in
    let all : take c.loop-span.span-index spans ≡ spans = take_all c.loop-span.span-index spans (omega arith) in
    let parts = c.loop-span.invariant ∙ ap (λ (ss : List Span). flat_map (held_at held) ss) all in
    same_places _ _ _ _ (none_held (length held)) c.in_ok-from_slice.ensures.items parts ∙ placed_is spans held c.requires
