-- What the connections of one seat ask of the broker.
use Rattle.std.specs.Prelude.{◌≡◌, ◌⊎◌, ◌≤◌, ◌==◌, ℕ, List, [], ◌∷◌, ◌++◌, cond, filter}
use Rattle.std.specs.List.{AllByRecursion, sum_by}
use Rattle.claim_core.specs.Counts.{Pair}
use Rattle.command_core.specs.Commands.{CommandValue}
use Rattle.clients.specs.Progress.{over, role_of}
use Rattle.clients.specs.declared.progress.Progress.{Progress}
use Rattle.clients.specs.declared.progress.Progress.TheVariants.{New, Open, Ended, Gone}
use Rattle.clients.specs.declared.progress.Role.{Role}
use Rattle.clients.specs.declared.progress.Role.TheVariants.{Opens, Talks, Ends}

-- the number of a command's session: an Open's is its ticket
abbrev pub numbered : Role → ℕ → ℕ → ℕ
numbered Opens ticket session = ticket
numbered Talks ticket session = session
numbered Ends ticket session = session

abbrev pub number_of : Pair → ℕ
number_of p = numbered (role_of p.1.op) p.0 p.1.session

-- what belongs to the session n
abbrev pub part_of : ℕ → List Pair → List Pair
part_of n own = filter (λ p. number_of p == n) own

-- a command of the session n, which it neither opens nor ends
abbrev pub IsTalk : ℕ → Pair → Type 0
IsTalk n p = (p.1.session ≡ n) × (role_of p.1.op ≡ Talks)

-- at most one command, which ends the session n
abbrev pub IsFarewell : ℕ → List Pair → Type 0
IsFarewell n [] = Unit {0}
IsFarewell n (p ∷ []) = (p.1.session ≡ n) × (role_of p.1.op ≡ Ends)
IsFarewell n (p ∷ q ∷ ps) = ⊥

-- The commands of the session n with their tickets: the Open, whose ticket is the session's number; then commands of that
-- session; and last its End, if it has one.
pub record IsSession (n : ℕ) (ps : List Pair) : Type 0 where
  pub opening : CommandValue
  pub talk : List Pair
  pub farewell : List Pair
  pub whole : ps ≡ (n, opening) ∷ (talk ++ farewell)
  pub begins : role_of opening.op ≡ Opens
  pub talks : AllByRecursion (IsTalk n) talk
  pub ends : IsFarewell n farewell

-- nothing, or the commands of the session n
abbrev pub IsConversation : ℕ → List Pair → Type 0
IsConversation n ps = (ps ≡ []) ⊎ IsSession n ps

-- the session n, which goes on
pub record IsOpened (n : ℕ) (ps : List Pair) : Type 0 where
  pub opening : CommandValue
  pub talk : List Pair
  pub whole : ps ≡ (n, opening) ∷ talk
  pub begins : role_of opening.op ≡ Opens
  pub talks : AllByRecursion (IsTalk n) talk

-- After what was the seat's own before, what belongs to each session is one conversation.
pub record Converse (before own : List Pair) : Type 0 where
  pub more : List Pair
  pub whole : own ≡ before ++ more
  pub each : (n : ℕ) → IsConversation n (part_of n more)

-- 1 if it is the conversation of the session n
abbrev pub holds : ℕ → Progress → ℕ
holds n New = 0
holds n (Open m) = cond (m == n) 1 0
holds n (Ended m) = cond (m == n) 1 0
holds n Gone = 0

-- 1 if it is that, and goes on
abbrev pub opens : ℕ → Progress → ℕ
opens n New = 0
opens n (Open m) = cond (m == n) 1 0
opens n (Ended m) = 0
opens n Gone = 0

-- What holds for the session n at a seat if its conversation is that of so many connections, and goes on at so many.
pub record IsPart (n held going : ℕ) (ps : List Pair) : Type 0 where
  pub most : held ≤ 1
  pub conversation : IsConversation n ps
  pub begun : 1 ≤ held → IsSession n ps
  pub opened : 1 ≤ going → IsOpened n ps

-- After what was the seat's own before, the conversations of all sessions have come so far: no two connections have one.
pub record Speaks (before own : List Pair) (stand : List Progress) : Type 0 where
  pub more : List Pair
  pub whole : own ≡ before ++ more
  pub parts : (n : ℕ) → IsPart n (sum_by (holds n) stand) (sum_by (opens n) stand) (part_of n more)

-- it stays, or nothing more is said
abbrev pub StaysOrEnds : Progress → Progress → Type 0
StaysOrEnds old new = (new ≡ old) ⊎ (new ≡ over old)
