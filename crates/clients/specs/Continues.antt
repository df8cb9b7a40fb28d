-- How one connection's conversation goes on beside the others of its seat.
use Rattle.std.specs.Prelude.{◌≡◌, ℕ, List, ◌∷◌, ◌++◌, Some}
use Rattle.std.specs.List.{AllByRecursion}
use Rattle.claim_core.specs.Counts.{Pair}
use Rattle.claim_core.specs.Seats.{SessionSeatValue}
use Rattle.clients.specs.Progress.{number_in}
use Rattle.clients.specs.declared.progress.Progress.{Progress}
use Rattle.clients.specs.Conversations.{Speaks, number_of}

-- what was said belongs to the conversation's session alone
abbrev pub AreSaid : Progress → List Pair → Type 0
AreSaid progress said = AllByRecursion (λ (p : Pair). number_in progress ≡ Some (number_of p)) said

-- The seat is of the same ring and has its number, and gets commands of this conversation's session after its own. Beside
-- the conversations of other connections, whatever they are, its own commands go on with this one. A session's number stays.
pub record Continues (was : Progress) (old : SessionSeatValue) (is : Progress) (new : SessionSeatValue) : Type 0 where
  pub ring : new.ring ≡ old.ring
  pub number : new.number ≡ old.number
  pub stays : (n : ℕ) → number_in was ≡ Some n → number_in is ≡ Some n
  pub said : List Pair
  pub added : new.own ≡ old.own ++ said
  pub of_it : AreSaid is said
  pub speaks : (before : List Pair) (left right : List Progress) → Speaks before old.own (left ++ was ∷ right) → Speaks before new.own (left ++ is ∷ right)
