-- Events that are added one after another.
use Rattle.std.proofs.Common.{◌≡◌, ◌∙◌, List, [], ◌∷◌, ◌++◌, ap, append_assoc}

-- an event, and then others, are all of them
pub then : {E : Type 0} (before middle after rest : List E) (event : E) → middle ≡ before ++ event ∷ [] → after ≡ middle ++ rest → after ≡ before ++ event ∷ rest
then before middle after rest event first others = others ∙ ap (λ l. l ++ rest) first ∙ append_assoc before (event ∷ []) rest
