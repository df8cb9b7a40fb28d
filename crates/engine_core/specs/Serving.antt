-- What a worker has done by its end.
use Rattle.std.specs.Prelude.{◌≡◌, ◌++◌, ℕ, List, Option, Some, map, option_map}
use Rattle.std.specs.List.{AllByRecursion}
use Rattle.claim_core.specs.Seats.{SessionSeatValue}
use Rattle.clients.specs.declared.turned.Ended as connections
use Rattle.clients.specs.declared.turned.Ended.TheVariants as ends
use Rattle.clients.specs.declared.progress.Stage.TheVariants.{Over}
use Rattle.clients.specs.TurnAnswers.{GoesOnYet}
use Rattle.clients.specs.Conversations.{IsConversation}
use Rattle.clients.specs.Effects.{Effect, commands_of, told_of}
use Rattle.clients.specs.Halting.{FindsEnd}
use Rattle.clients.specs.Histories.{LivesAt}
use Rattle.clients.specs.Clients.{IsOwn, Message, bytes_of, frames_of}
use Rattle.clients.specs.declared.client.Client.{Client}
use Rattle.engine_core.specs.declared.working.Ended.{Ended}
use Rattle.engine_core.specs.declared.working.Ended.TheVariants.{Bye, Lost, Bad, Stopped, Turns}

-- a worker ends as its connection has
abbrev pub end_of : connections.Ended → Ended
end_of ends.Bye = Bye
end_of ends.Lost = Lost
end_of ends.Bad = Bad
end_of ends.Stopped = Stopped

-- Its connection has ended so; or its turns have run out, and it goes on.
abbrev pub IsEndAt : {B : Type 0} → Ended → Client B → Type 0
IsEndAt Turns client = GoesOnYet client.stage
IsEndAt Bye client = client.stage ≡ Over ends.Bye
IsEndAt Lost client = client.stage ≡ Over ends.Lost
IsEndAt Bad client = client.stage ≡ Over ends.Bad
IsEndAt Stopped client = client.stage ≡ Over ends.Stopped

-- One client alone was served through a seat, with a connection that came so far by its last turn. The seat got one conversation. The
-- client was sent outputs of that session alone, and at once the frames that were told it. These commands and frames are what the bytes
-- ask for that its link gave.
pub record Serves (B : Type 0) {L : Type 0} (sent : L → Option (List (List ℕ))) (received : L → Option (List ℕ)) (old : SessionSeatValue) (from : L) (new : SessionSeatValue) (to : L) (ended : Ended) : Type 0 where
  pub effects : List Effect
  pub client : Client B
  pub ends : IsEndAt ended client
  pub added : new.own ≡ old.own ++ commands_of effects
  pub number : ℕ
  pub conversation : IsConversation number (commands_of effects)
  pub messages : List Message
  pub told : sent to ≡ option_map (λ s. s ++ map bytes_of messages) (sent from)
  pub own : AllByRecursion (IsOwn (Some number)) messages
  pub frames_are : frames_of messages ≡ told_of effects
  pub got : List ℕ
  pub read : received to ≡ option_map (λ bytes. bytes ++ got) (received from)
  pub lives : LivesAt got effects client
  pub stopped : ended ≡ Stopped → FindsEnd new
