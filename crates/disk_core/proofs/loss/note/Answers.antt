use Rattle.std.proofs.Common.{◌≡◌, ◌∙◌, ℕ, ◌+◌, ◌-◌, List, ap, arith, length, min, take}
use Rattle.std.proofs.lemmas.List.{length-take-le, take_min}
use Rattle.disk_core.specs.Images.{patched}
use Rattle.disk_core.proofs.Headers.{begins_after, begins_in}
use Rattle.disk_core.proofs.Patched.{put_mid-patched}
use Rattle.disk_core.proofs.loss.note.Goals as goal

pub returns-then-at : goal.returns-then-at
returns-then-at c =
    let at = c.args.at in
    let bytes = c.args.bytes.now in
    let header = c.args.header.now in
    let count = c.min-count.result in
    let new = c.copy_from_slice.new.self in
    let is : new ≡ take count bytes = c.copy_from_slice.ensures.after in
    let size : length new ≡ at + count - at = ap (λ (l : List ℕ). length l) is ∙ length-take-le count bytes (omega (arith, c.min-count.ensures)) ∙ omega arith in
    let swapped : count ≡ min (32 - at) (length bytes) = omega (arith, c.min-count.ensures) in
    let short : new ≡ take (32 - at) bytes = is ∙ ap (λ (n : ℕ). take n bytes) swapped ∙ take_min (32 - at) bytes in
    put_mid-patched at (at + count - at) header new size
    ∙ ap (λ (l : List ℕ). patched at l header) short
    ∙ begins_in 32 at bytes header c.told-header (omega (arith, c.if-at.true))

pub returns-else-at : goal.returns-else-at
returns-else-at c = begins_after 32 c.args.at c.args.bytes.now c.args.header.now c.told-header (omega (arith, c.if-at.false))
