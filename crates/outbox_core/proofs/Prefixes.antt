-- Fronts of lists.
use Rattle.std.proofs.Common.{List, ◌++◌, ap, sym, ◌∙◌}
use Rattle.std.proofs.lemmas.List.{append_assoc}
use mathlib.Core.List.{IsPrefix}

-- a front of a front
pub front_of_front : {A : Type 0} (xs ys zs : List A) → IsPrefix xs ys → IsPrefix ys zs → IsPrefix xs zs
front_of_front {A} xs ys zs (t, p) (u, q) = (t ++ u, sym (append_assoc xs t u) ∙ (ap (λ (l : List A). l ++ u) p ∙ q))
