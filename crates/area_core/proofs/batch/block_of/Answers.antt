use Rattle.std.proofs.Common.{◌≡◌, ◌++◌, ◌∷◌, [], ℕ, List, length, ◌∙◌, ap}
use Rattle.std.specs.Int.{w64, to_be_bytes}
use Rattle.area_core.specs.Areas.{commands, records}
use Rattle.area_core.proofs.batch.block_of.Goals as goal

pub returns : goal.returns
returns g c =
    let head : c.extend_from_slice.new.self.items ≡ to_be_bytes w64 (length (records (commands c.args.batch.now))) =
    c.in_ok-extend_from_slice.ensures.items ∙ ((λ i. c.in_ok-out.ensures.items i ++ c.to_be_bytes.ensures i) ∙ ap (λ (n : ℕ). to_be_bytes w64 n) c.requires) in
    c.in_ok-push.ensures.items
    ∙ ap (λ (l : List ℕ). l ++ 0 ∷ []) (c.in_ok-put_records.ensures ∙ ap (λ (l : List ℕ). l ++ records (commands c.args.batch.now)) head)
