-- What parts spell, as one is added and as one is written.
use Rattle.std.proofs.Common.{◌≡◌, ◌++◌, ◌∙◌, ℕ, List, [], ◌∷◌, ap, append-nil}
use Rattle.std.proofs.lemmas.Grind.{flat_map-append}
use Rattle.snapshot_core.specs.declared.writing.Part.{Part}
use Rattle.snapshot_core.specs.Parts.{spelled_by, written}

pub one_more : (parts : List Part) (part : Part) → written (parts ++ part ∷ []) ≡ written parts ++ spelled_by part
one_more parts part = flat_map-append spelled_by parts (part ∷ []) ∙ ap (λ (b : List ℕ). written parts ++ b) (append-nil (spelled_by part))
