use Rattle.std.proofs.Common.{◌≡◌, ◌++◌, ℕ, List, ◌∙◌, ap, append_assoc, codes, replicate}
use Rattle.std.specs.Int.{w64, to_be_bytes}
use Rattle.area_core.specs.Journals.{digits, header}
use Rattle.area_core.proofs.formatting.header_of.Goals as goal

pub returns : goal.returns
returns c =
    let size = to_be_bytes w64 c.args.area_bytes in
    let named : c.extend_from_slice.new.self.items ≡ codes "STOMPJ" = c.in_ok-extend_from_slice.ensures.items ∙ ap (λ (l : List ℕ). l ++ codes "STOMPJ") c.in_ok-out.ensures.items in
    let versioned : c.extend_from_slice-2.new.self.items ≡ codes "STOMPJ" ++ digits c.args.version = c.in_ok-extend_from_slice-2.ensures.items ∙ (λ i. named i ++ c.digits_of.ensures i) in
    let front : c.extend_from_slice-3.new.self.items ≡ header c.args.version c.args.area_bytes =
    c.in_ok-extend_from_slice-3.ensures.items ∙ (λ i. versioned i ++ c.to_be_bytes.ensures i) ∙ append_assoc (codes "STOMPJ") (digits c.args.version) size in
    c.in_ok-extend_from_slice-4.ensures.items ∙ ap (λ (l : List ℕ). l ++ replicate 16 0) front
