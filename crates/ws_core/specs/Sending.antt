-- What a send of a link does.
use Rattle.std.specs.Prelude.{◌≡◌, ◌≢◌, ◌⊎◌, ◌++◌, ◌∷◌, [], ℕ, List, Bool, not, Option, option_map, true, false}
use Rattle.std.specs.Str.{IsUtf8}
use Rattle.tungstenite.specs.Content.{Content, text, binary, ping, pong, close}
use Rattle.tungstenite.specs.Connection.{write_step}
use Rattle.tungstenite.specs.Socket.{Flushed, Writes}
use Rattle.ws_core.specs.declared.link.LinkFault.{LinkFault}
use Rattle.ws_core.specs.declared.link.LinkFault.TheVariants.{Memory, Gone}
use Rattle.ws_core.specs.declared.link.LinkPhase.TheVariants as phases
use Rattle.ws_core.specs.Holdings.{settled, with_put}
use Rattle.ws_core.specs.Links.{Linked}

-- one message more, if the link tells them
abbrev pub with_message : List ℕ → Option (List (List ℕ)) → Option (List (List ℕ))
with_message bytes sent = option_map (λ messages. messages ++ bytes ∷ []) sent

-- the message has these bytes: it is text if they are UTF-8, or else binary (RFC 6455, section 5.6)
abbrev pub IsMessageOf : List ℕ → Content → Type 0
IsMessageOf bytes (text t) = (t ≡ bytes) × IsUtf8 bytes
IsMessageOf bytes (binary b) = (b ≡ bytes) × ¬ (IsUtf8 bytes)
IsMessageOf bytes (ping _) = ⊥
IsMessageOf bytes (pong _) = ⊥
IsMessageOf bytes (close _) = ⊥

-- A link was pinged, unless it refused that, and then it was flushed. These are what the link's own calls do.
pub record IsPinged {L : Type 0} (pings : L → L → Type 0) (refuses : L → L → LinkFault → Type 0) (flushes : L → L → Type 0) (old new : L) : Type 0 where
  pub after : L
  pub pinged : pings old after ⊎ ((fault : LinkFault) × refuses old after fault)
  pub flushed : flushes after new

module _ {S : Type 0} where
  -- The message is one frame more after what still waited (sections 5.2 and 5.6), of which the stream took what it would. A
  -- stream that had not taken all is not said to have done so.
  pub record Puts (contents : S → Option (List ℕ)) (message : Content) (old new : Linked S) : Type 0 where
    pub written : Writes contents old.socket new.socket (write_step old.socket.conn message)
    pub held_up : old.held_up ≡ true → new.held_up ≡ true
    pub before : old.phase ≡ phases.Open
    pub after : new.phase ≡ phases.Open

  -- one message of these bytes
  abbrev pub Sends : (S → Option (List ℕ)) → List ℕ → Linked S → Linked S → Type 0
  Sends contents bytes old new = (message : Content) × IsMessageOf bytes message × Puts contents message old new

  -- a ping with no payload (section 5.5.2)
  abbrev pub Pings : (S → Option (List ℕ)) → Linked S → Linked S → Type 0
  Pings contents old new = Puts contents (ping []) old new

  -- Some of what waited went to the stream, and nothing else changed. If that is said, nothing waits any more.
  pub record Flushes (contents : S → Option (List ℕ)) (old new : Linked S) (all : Bool) : Type 0 where
    pub flushed : Flushed contents old.socket new.socket
    pub rest : all ≡ true → new.socket.output ≡ []
    pub held_up : new.held_up ≡ not all
    pub before : old.phase ≢ phases.Over
    pub after : new.phase ≡ old.phase

  -- What a refusal leaves: the same link if memory was refused, or if it was ended or over before; or else one that is over.
  abbrev pub Refuses : Linked S → Linked S → LinkFault → Type 0
  Refuses old new Memory = new ≡ old
  Refuses old new Gone = (old.phase ≡ phases.Open → new.phase ≡ phases.Over) × (old.phase ≢ phases.Open → new ≡ old)

  -- what a flush that failed leaves: a link that is over
  pub record Fails (old new : Linked S) (fault : LinkFault) : Type 0 where
    pub gone : fault ≡ Gone
    pub over : new.phase ≡ phases.Over
    pub stays : old.phase ≡ phases.Over → new ≡ old

  -- a flush was done so, or it failed
  abbrev pub IsFlushed : (S → Option (List ℕ)) → Linked S → Linked S → Type 0
  IsFlushed contents old new = ((all : Bool) × Flushes contents old new all) ⊎ ((fault : LinkFault) × Fails old new fault)

  -- A message of so many bytes is counted. Nothing else has changed, except the socket and whether the stream is held up.
  abbrev pub CountsPut : ℕ → Linked S → Linked S → Type 0
  CountsPut bytes old new = new ≡ record old { socket = new.socket; held_up = new.held_up; holding = with_put bytes new.held_up old.holding }

  -- What was written counts no more. Nothing else has changed, except the socket, how far the link has come, and whether the stream is held up.
  abbrev pub CountsWritten : Linked S → Linked S → Type 0
  CountsWritten old new = new ≡ record old { socket = new.socket; phase = new.phase; held_up = new.held_up; holding = settled new.held_up old.holding }

  -- A refusal changes nothing, except the socket and how far the link has come.
  abbrev pub CountsOn : Linked S → Linked S → Type 0
  CountsOn old new = new ≡ record old { socket = new.socket; phase = new.phase }
