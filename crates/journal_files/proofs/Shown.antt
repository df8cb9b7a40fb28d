-- What is written of lists.
use Rattle.std.proofs.Common.{◌≡◌, ◌++◌, ◌∷◌, [], List, ap, map, refl, ℕ}
use Rattle.std.specs.List.{flat_map}

-- the text of what stands in the places
pub flat_map_map : {A B : Type 0} (f : A → B) (g : B → List ℕ) (xs : List A) → flat_map (λ x. g (f x)) xs ≡ flat_map g (map f xs)
flat_map_map f g [] = refl
flat_map_map f g (x ∷ xs) = ap (λ t. g (f x) ++ t) (flat_map_map f g xs)
