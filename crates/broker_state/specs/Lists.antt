use Rattle.std.specs.Prelude.{◌≡◌, ◌⊎◌, ℕ, zero, suc, List, [], ◌∷◌, Bool, true, false, Option, Some, None, if◌then◌else◌}
use Rattle.std.specs.Option.{option_map}

-- the first item that passes, and the others in their order
abbrev pub picked : {X : Type 0} → (X → Bool) → List X → Option (X × List X)
picked passes [] = None
picked passes (x ∷ xs) = if passes x then Some (x, xs) else option_map (λ p. (p.0, x ∷ p.1)) (picked passes xs)

-- the list with another item in place of the first that passes
abbrev pub with_first : {X : Type 0} → (X → Bool) → (X → X) → List X → List X
with_first passes change [] = []
with_first passes change (x ∷ xs) = if passes x then change x ∷ xs else x ∷ with_first passes change xs

-- whether nothing stands in it
abbrev pub is_none : {X : Type 0} → List X → Bool
is_none [] = true
is_none (x ∷ xs) = false

-- the item stands in the list
abbrev pub IsAmong : {X : Type 0} → X → List X → Type 0
IsAmong x [] = ⊥
IsAmong x (y ∷ ys) = (x ≡ y) ⊎ IsAmong x ys

-- the list with another item in that place
abbrev pub changed : {X : Type 0} → ℕ → (X → X) → List X → List X
changed at change [] = []
changed zero change (x ∷ xs) = change x ∷ xs
changed (suc at) change (x ∷ xs) = x ∷ changed at change xs
