use Rattle.std.specs.Prelude.{Bool, ◌&&◌, List, ℕ}
use Rattle.std.specs.Cmp.{IsEquivalence}
use Rattle.std.specs.Cmp.Lexicographic.{pointwise}
use Rattle.std.specs.Str.{bytes_eq}
use Rattle.std.proofs.lemmas.Cmp.{nat_list_eq_equiv, lists_equiv, and_equiv, on_equiv}

-- the same names and values in the same order
abbrev pub same_headers : List (List ℕ × List ℕ) → List (List ℕ × List ℕ) → Bool
same_headers = pointwise (λ g h. bytes_eq g.0 h.0 && bytes_eq g.1 h.1)

pub same_headers_equiv : IsEquivalence same_headers
same_headers_equiv = lists_equiv (and_equiv (on_equiv (λ (h : List ℕ × List ℕ). h.0) nat_list_eq_equiv) (on_equiv (λ (h : List ℕ × List ℕ). h.1) nat_list_eq_equiv))
