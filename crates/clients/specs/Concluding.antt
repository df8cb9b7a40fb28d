-- How a connection's conversation comes to its end.
use Rattle.std.specs.Prelude.{◌≡◌, ◌⊎◌, ◌∷◌, ◌++◌, ℕ, List, [], Option, option_map}
use Rattle.frame_core.specs.declared.frame.Frame.{Frame}
use Rattle.frame_core.specs.declared.frame.Verb.TheVariants as verbs
use Rattle.frame_core.specs.Written.{written}
use Rattle.claim_core.specs.Counts.{Pair}
use Rattle.clients.specs.Connections.{ConnectionValue}
use Rattle.clients.specs.Progress.{after, role_of}
use Rattle.clients.specs.Stages.{CanTell}
use Rattle.clients.specs.declared.relaying.Relayed.{Relayed}
use Rattle.clients.specs.declared.relaying.Relayed.TheVariants as relayed
use Rattle.clients.specs.declared.progress.Progress.{Progress}

-- how far a conversation has come with these commands
abbrev pub follow : Progress → List Pair → Progress
follow p [] = p
follow p (one ∷ others) = follow (after p (role_of one.1.op) one.0) others

-- one link's client was sent an ERROR, after some messages and before others
pub record SendsError {L : Type 0} (sent : L → Option (List (List ℕ))) (from to : L) : Type 0 where
  pub earlier : List (List ℕ)
  pub frame : Frame
  pub later : List (List ℕ)
  pub error : frame.verb ≡ verbs.Error
  pub told : sent to ≡ option_map (λ messages. messages ++ (earlier ++ written frame ∷ later)) (sent from)

-- an ERROR was sent
abbrev pub IsError : Relayed → Type 0
IsError (relayed.Sent number verb bytes) = verb ≡ verbs.Error
IsError relayed.Waits = ⊥
IsError relayed.Foreign = ⊥
IsError relayed.Empty = ⊥
IsError relayed.Cut = ⊥

-- These commands were appended, and the conversation has come as far as they bring it. Or its client was sent an ERROR, and nothing more is
-- appended (STOMP 1.2, "ERROR"). Nothing at all is sent once the link is over, or the connection is to be closed: from then on the commands
-- alone bring the conversation to its end.
pub record Concludes {L : Type 0} (sent : L → Option (List (List ℕ))) (was : ConnectionValue) (from : L) (is : ConnectionValue) (to : L) (said : List Pair) : Type 0 where
  pub follows : (is.progress ≡ follow was.progress said) ⊎ (CanTell was.stage × SendsError sent from to)
  pub silent : (CanTell was.stage → ⊥) → sent to ≡ sent from
  pub tells : CanTell is.stage → CanTell was.stage
