-- A payload that follows a flag.
use Rattle.std.specs.Prelude.{◌≡◌, ◌⊎◌, ◌==◌, ℕ, List, [], ◌∷◌, length, take, Option, Some, None, if◌then◌else◌}

-- what these bytes publish: the n bytes that follow a flag, if the flag is 1
abbrev pub published : ℕ → List ℕ → Option (List ℕ)
published n [] = None
published n (flag ∷ rest) = if flag == 1 then Some (take n rest) else None

-- nothing is published, or all of the payload
abbrev pub IsAllOrNothing : ℕ → List ℕ → List ℕ → Type 0
IsAllOrNothing n payload c = (published n c ≡ None) ⊎ (published n c ≡ Some payload)

-- each of these images publishes the payload
abbrev pub IsPublished : (List ℕ → Type 0) → List ℕ → Type 0
IsPublished images payload = (c : List ℕ) → images c → published (length payload) c ≡ Some payload
