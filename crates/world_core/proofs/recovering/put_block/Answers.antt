use Rattle.std.proofs.Common.{◌≡◌, ◌++◌, ◌∷◌, [], ℕ, List, length, append_assoc, sym, ◌∙◌, ap}
use Rattle.std.specs.Int.{w64, to_be_bytes}
use Rattle.area_core.specs.Areas.{counted}
use Rattle.world_core.proofs.OldJournals.{block_of_some}
use Rattle.world_core.proofs.recovering.put_block.Goals as goal

pub returns-in_ok-extend_from_slice-2 : goal.returns-in_ok-extend_from_slice-2
returns-in_ok-extend_from_slice-2 c =
    let out : List ℕ = c.args.out.now.items in
    let bytes : List ℕ = c.args.bytes.now in
    let gate : c.push.new.self.items ≡ out ++ 1 ∷ [] = c.in_ok-push.ensures.items in
    let count : c.extend_from_slice.new.self.items ≡ (out ++ 1 ∷ []) ++ to_be_bytes w64 (length bytes) = c.in_ok-extend_from_slice.ensures.items ∙ (λ i. gate i ++ c.to_be_bytes.ensures i) in
    c.in_ok-extend_from_slice-2.ensures.items
    ∙ ap (λ (l : List ℕ). l ++ bytes) (count ∙ append_assoc out (1 ∷ []) (to_be_bytes w64 (length bytes)))
    ∙ append_assoc out (1 ∷ to_be_bytes w64 (length bytes)) bytes
    ∙ ap (λ (l : List ℕ). out ++ 1 ∷ counted l) c.requires
    ∙ ap (λ (l : List ℕ). out ++ l) (sym (block_of_some c.args.commands.now c.if-not-is_empty.ensures))
