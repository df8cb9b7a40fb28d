-- Which lines of a stream are under way.
use Rattle.std.specs.Prelude.{◌≡◌, ◌≤◌, ◌<◌, ◌+◌, ◌⊎◌, ◌==◌, List, [], ◌∷◌, ◌++◌, ℕ, Bool, cond, filter, nat_lt, not}
use Rattle.std.specs.List.{list_any}
use Rattle.client_core.specs.declared.lines.Input.{Input}
use Rattle.client_core.specs.declared.lines.Input.TheVariants.{AtHand, Awaited, Ended}
use Rattle.client_core.specs.declared.lines.Turn.{Turn}
use Rattle.client_core.specs.declared.lines.Turn.TheVariants.{Send, Hear, End}

-- So many lines were sent, numbered from 1 on as they are sent. Of these the RECEIPTs have not come.
pub record Lines : Type 0 where
  pub sent : ℕ
  pub owed : List ℕ

-- the numbers rise, from above the first to the last
abbrev pub Rises : ℕ → List ℕ → ℕ → Type 0
Rises low [] high = low ≤ high
Rises low (number ∷ numbers) high = (low < number) × Rises number numbers high

-- what is done next, while the RECEIPTs of so many lines are owed
abbrev pub turn_of : ℕ → Input → Turn
turn_of owed AtHand = cond (nat_lt owed 16) Send Hear
turn_of owed Awaited = cond (owed == 0) Send Hear
turn_of owed Ended = cond (owed == 0) End Hear

-- one line more is sent
abbrev pub begun : Lines → Lines
begun lines = record { sent = lines.sent + 1; owed = lines.owed ++ (lines.sent + 1) ∷ [] }

abbrev pub is_owed : ℕ → List ℕ → Bool
is_owed number owed = list_any (λ line. line == number) owed

-- the RECEIPT of that line has come
abbrev pub settled : ℕ → Lines → Lines
settled number lines = record { sent = lines.sent; owed = filter (λ line. not (line == number)) lines.owed }

-- the longest run of first lines whose RECEIPTs have come: those after it that are owed rise from it, and the next is owed, or not sent
abbrev pub IsTaken : Lines → ℕ → Type 0
IsTaken lines taken = Rises taken lines.owed lines.sent
    × (((taken ≡ lines.sent) × (lines.owed ≡ [])) ⊎ ((more : List ℕ) × (lines.owed ≡ (taken + 1) ∷ more)))
