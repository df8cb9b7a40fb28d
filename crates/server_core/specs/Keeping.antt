-- How a desk's clients keep to the memory that all may hold together.
use Rattle.std.specs.Prelude.{◌≡◌, ℕ, List, Option, Some, None}
use Rattle.wakeups.specs.Budgets.{IsGivenUp}
use Rattle.wakeups.specs.Sums.{counted}
use Rattle.wakeups.specs.declared.memory.Holdings.{Holdings}

-- By what is known of all clients, that one of the desk is given up, and counts for nothing from then on; or none of them is to be, and nobody's
-- bytes are counted otherwise.
abbrev pub GivesUp : Holdings → (old new : List ℕ) → Option ℕ → Type 0
GivesUp h old new None = ((at : ℕ) → IsGivenUp h old at → ⊥) × (new ≡ old)
GivesUp h old new (Some at) = IsGivenUp h old at × (new ≡ counted at 0 old)

-- Nobody's bytes are counted otherwise; or that client of the desk counts for nothing from then on, which was given up by what was known of all
-- clients, if they may hold so much together.
abbrev pub Keeps : (budget : ℕ) → (old new : List ℕ) → Option ℕ → Type 0
Keeps budget old new None = new ≡ old
Keeps budget old new (Some at) = (h : Holdings) × (h.budget ≡ budget) × IsGivenUp h old at × (new ≡ counted at 0 old)
