-- What a turn reports of its link and its seat, beside its effects.
use Rattle.std.specs.Prelude.{◌≡◌, ◌≤◌, ◌⊎◌, ◌++◌, ℕ, List, Bool, true, false, Option, Some, None, length, option_map}
use Rattle.claim_core.specs.Seats.{SessionSeatValue}
use Rattle.clients.specs.declared.turned.Ended.{Ended}
use Rattle.clients.specs.declared.relaying.Kept.{Kept}
use Rattle.clients.specs.declared.relaying.Kept.TheVariants as kept
use Rattle.clients.specs.declared.desk.Seated.{Seated}
use Rattle.clients.specs.declared.client.Client.{Client}
use Rattle.clients.specs.declared.progress.Stage.TheVariants.{Running, Parting}
use Rattle.clients.specs.declared.turned.Next.TheVariants as next
use Rattle.clients.specs.declared.turned.Turned.{Turned}
use Rattle.clients.specs.TurnAnswers.{IsSatisfied}

-- an output that may leave is kept, since the link refused it
abbrev pub IsUnsent : Kept → Type 0
IsUnsent kept.Nothing = ⊥
IsUnsent (kept.Waits out) = ⊥
IsUnsent (kept.Unsent out) = Unit {0}

-- A connection runs, and nothing comes before the next bytes of its client. All that the client asked for is done, each output that may
-- leave was sent, and the stream has taken all that it was offered.
pub record IsFree {B : Type 0} (client : Client B) (held_up : Bool) : Type 0 where
  pub runs : client.stage ≡ Running
  pub satisfied : IsSatisfied client
  pub sent : IsUnsent client.kept → ⊥
  pub taken : held_up ≡ false

-- The link may be read: its connection is free to hear more. Or its close was sent, and what comes is dropped.
abbrev pub MayRead : {B : Type 0} → Client B → Bool → Type 0
MayRead client held_up = IsFree client held_up ⊎ ((ended : Ended) × (client.stage ≡ Parting ended))

-- the link was sent no more messages than these
pub record SendsFew {L : Type 0} (sent : L → Option (List (List ℕ))) (most : ℕ) (from to : L) : Type 0 where
  pub messages : List (List ℕ)
  pub told : sent to ≡ option_map (λ before. before ++ messages) (sent from)
  pub few : length messages ≤ most

-- the messages of a turn at most: one for each of 8 acts, and 32 outputs
abbrev pub most_messages : ℕ
most_messages = 40

-- Something was heard only of a link that might be read. The turn waits for the socket only while the stream has not taken all that it was
-- offered, and for room only over a mark that the seat has seen. It waits for the peer's close if its own was sent.
pub record Reports {B L : Type 0} (sent : L → Option (List (List ℕ))) (held_up : L → Bool) (was : Client B) (from : L) (turned : Turned) (is : Client B) (seat : SessionSeatValue) (to : L) : Type 0 where
  pub heard : turned.heard ≡ true → MayRead was (held_up from)
  pub write : turned.next ≡ next.Write → held_up to ≡ true
  pub room : (mark : ℕ) → turned.next ≡ next.Room mark → mark ≤ seat.seen
  pub close : (ended : Ended) → is.stage ≡ Parting ended → turned.next ≡ next.Close
  pub few : SendsFew sent most_messages from to

-- the same of the connection at a place
abbrev pub ReportsAt : {B L : Type 0} → (L → Option (List (List ℕ))) → (L → Bool) → Turned → SessionSeatValue → Option (Seated B L) → Option (Seated B L) → Type 0
ReportsAt sent held_up turned seat None new = Unit {0}
ReportsAt sent held_up turned seat (Some was) new = (is : Seated _ _) × (new ≡ Some is) × Reports sent held_up was.client was.link turned is.client seat is.link
