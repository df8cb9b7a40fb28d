use Rattle.std.proofs.Common.{◌+◌, ◌∙◌, ℕ, List, [], ◌∷◌, ap}
use Rattle.disk_core.specs.Images.{patched}
use Rattle.world_core.proofs.recovering.put_both.Goals as goal

pub returns : goal.returns
returns c =
    let one = c.put_at.ensures in
    let two = c.put_at-2.ensures ∙ ap (λ (l : List ℕ). patched 0 c.args.head.now l) one in
    let three = c.put_at-3.ensures ∙ ap (λ (l : List ℕ). patched (32 + c.args.size) c.args.front.now l) two in
    c.put_at-4.ensures ∙ ap (λ (l : List ℕ). patched 16 (1 ∷ []) l) three
