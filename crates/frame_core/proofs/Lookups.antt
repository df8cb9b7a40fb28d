use Rattle.std.proofs.Common.{◌≡◌, ℕ, ◌+◌, ◌<◌, List, ◌∷◌, Some, true, false, cond, length, get_or, drop, sym, ap, ◌∙◌}
use Rattle.std.specs.Str.{bytes_eq}
use Rattle.std.proofs.lemmas.List.{at_drop_more}
use Rattle.frame_core.specs.Writable.{first_of}

-- the first of the headers from place i on, where that one is or isn't of the name
first_from : (name : List ℕ) (headers : List (List ℕ × List ℕ)) (i : ℕ) (h : List ℕ × List ℕ) → i < length headers → h ≡ get_or headers i h
    → first_of name (drop i headers) ≡ cond (bytes_eq name h.0) (Some h.1) (first_of name (drop (i + 1) headers))
first_from name headers i h lt e =
    at_drop_more (first_of name) headers i h lt ∙ ap (λ x. first_of name (x ∷ drop (i + 1) headers)) (sym e)

pub first_found : (name : List ℕ) (headers : List (List ℕ × List ℕ)) (i : ℕ) (h : List ℕ × List ℕ) → i < length headers → h ≡ get_or headers i h
    → bytes_eq name h.0 ≡ true → first_of name (drop i headers) ≡ first_of name headers → first_of name headers ≡ Some h.1
first_found name headers i h lt e t so_far =
    let step = first_from name headers i h lt e in
    sym so_far ∙ rw t at step

pub first_passed : (name : List ℕ) (headers : List (List ℕ × List ℕ)) (i : ℕ) (h : List ℕ × List ℕ) → i < length headers → h ≡ get_or headers i h
    → bytes_eq name h.0 ≡ false → first_of name (drop i headers) ≡ first_of name headers → first_of name (drop (i + 1) headers) ≡ first_of name headers
first_passed name headers i h lt e t so_far =
    let step = first_from name headers i h lt e in
    sym (rw t at step) ∙ so_far
