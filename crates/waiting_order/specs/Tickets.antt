use Rattle.std.specs.Prelude.{◌≡◌, ◌==◌, ◌<◌, ◌≤◌, ⊤, List, [], ◌∷◌, ℕ, Some, filter, length, not, slice_get}
use Rattle.std.specs.List.{AllByRecursion}
use Rattle.waiting_order.specs.declared.groups.Place.{Place}

-- the number of each item is under those of the items after it
abbrev pub IsRising : {X : Type 0} → (X → ℕ) → List X → Type 0
IsRising number [] = ⊤
IsRising number (x ∷ xs) = AllByRecursion (λ y. number x < number y) xs × IsRising number xs

-- the places without that of a ticket
abbrev pub without : ℕ → List Place → List Place
without ticket places = filter (λ (p : Place). not (p.ticket == ticket)) places

-- one of the places has that ticket
abbrev pub HasTicket : ℕ → List Place → Type 0
HasTicket ticket places = (i : ℕ) × (p : Place) × (slice_get places i ≡ Some p) × (p.ticket ≡ ticket)

-- So many places have lesser tickets: those before that index.
pub record IsIndexOf (places : List Place) (ticket at : ℕ) : Type 0 where
  pub within : at ≤ length places
  pub under : (i : ℕ) (p : Place) → slice_get places i ≡ Some p → i < at → p.ticket < ticket
  pub over : (i : ℕ) (p : Place) → slice_get places i ≡ Some p → at ≤ i → ticket ≤ p.ticket
