-- What a link holds.
use Rattle.std.specs.Prelude.{◌≡◌, ◌≤◌, ◌⊎◌, ◌==◌, ◌+◌, ◌*◌, ◌-◌, ◌^◌, ℕ, length, min, Bool, false, Option, Some, List, [], cond, refl, ⊤}
use Rattle.std.specs.Coded.{Coded, code_by, coded×, coded_bool, coded_list, coded_ℕ}
use Rattle.websocket.specs.declared.protocol.config.Role.TheVariants.{Server}
use Rattle.tungstenite.specs.Connection.{close_step}
use Rattle.tungstenite.specs.Socket.{Socket, socket_code, IsFresh, Writes}
use Rattle.ws_core.specs.declared.link.CloseReason.{CloseReason}
use Rattle.ws_core.specs.declared.link.LinkPhase.{LinkPhase}
use Rattle.ws_core.specs.declared.link.LinkPhase.TheVariants.{Open, Closing, Failed, Shut, Over}
use Rattle.ws_core.specs.Closing.{close_of}
use Rattle.ws_core.specs.Holdings.{HoldingValue, held_by, holding_code, nothing_held}

-- A WebSocket, how far the link has come, whether the stream has not taken all that it was last offered, how many bytes were
-- dropped after the close, and what is left of a message that is given in pieces. And how many bytes of that message were given and are kept
-- with these, and what it counts of what it sends and reads.
pub record Linked (S : Type 0) : Type 0 where
  pub socket : Socket S
  pub phase : LinkPhase
  pub held_up : Bool
  pub dropped : ℕ
  pub unfed : List ℕ
  pub fed : ℕ
  pub holding : HoldingValue

abbrev phase_number : LinkPhase → ℕ
phase_number Open = 0
phase_number Closing = 1
phase_number Over = 2
phase_number Failed = 3
phase_number Shut = 4

abbrev phase_of : ℕ → LinkPhase
phase_of n = cond (n == 0) Open (cond (n == 1) Closing (cond (n == 2) Over (cond (n == 3) Failed Shut)))

pub phase_back : (phase : LinkPhase) → phase_of (phase_number phase) ≡ phase
phase_back Open = refl
phase_back Closing = refl
phase_back Over = refl
phase_back Failed = refl
phase_back Shut = refl

abbrev phase_code : Coded LinkPhase
phase_code = code_by ℕ coded_ℕ phase_number phase_of phase_back

-- it says nothing more, and drops what comes
abbrev pub HasFailed : LinkPhase → Type 0
HasFailed Failed = ⊤
HasFailed Shut = ⊤
HasFailed Open = ⊥
HasFailed Closing = ⊥
HasFailed Over = ⊥

module _ {S : Type 0} where
  abbrev pub linked_code : Coded S → Coded (Linked S)
  linked_code stream =
      code_by (Socket S × (LinkPhase × (Bool × (ℕ × (List ℕ × (ℕ × HoldingValue))))))
      (coded× (socket_code stream) (coded× phase_code (coded× coded_bool (coded× coded_ℕ (coded× (coded_list coded_ℕ) (coded× coded_ℕ holding_code))))))
      (λ l. (l.socket, (l.phase, (l.held_up, (l.dropped, (l.unfed, (l.fed, l.holding)))))))
      (λ p. record { socket = p.0; phase = p.1.0; held_up = p.1.1.0; dropped = p.1.1.1.0; unfed = p.1.1.1.1.0; fed = p.1.1.1.1.1.0; holding = p.1.1.1.1.1.1 }) (λ _. refl)

  -- A link whose handshake has just been done: nothing is read, and nothing waits to be sent. A message and a frame of it may
  -- have 131,072 bytes, and the peer's frames are masked (RFC 6455, section 5.1).
  pub record IsReady (l : Linked S) : Type 0 where
    pub is_fresh : (stream : S) × IsFresh l.socket stream Server
    pub goes_on : l.phase ≡ Open
    pub free : l.held_up ≡ false
    pub none_dropped : l.dropped ≡ 0
    pub none_left : l.unfed ≡ []
    pub none_fed : l.fed ≡ 0
    pub none_held : l.holding ≡ nothing_held
    pub message : l.socket.conn.config.max_message_size ≡ Some 131072
    pub frame : l.socket.conn.config.max_frame_size ≡ Some 131072
    pub masked : l.socket.conn.config.accept_unmasked_frames ≡ false

  -- The close frame with that reason went to the stream (section 5.5.1), or waits after what still does, and the link is being
  -- closed.
  pub record Ends (contents : S → Option (List ℕ)) (reason : CloseReason) (old new : Linked S) : Type 0 where
    pub written : Writes contents old.socket new.socket (close_step old.socket.conn (close_of reason))
    pub rest : new.held_up ≡ false → new.socket.output ≡ []
    pub before : old.phase ≡ Open
    pub after : new.phase ≡ Closing

  -- An end that is Ok: the close was said, or the link had said its last before and stays as it is.
  abbrev pub IsEnded : (S → Option (List ℕ)) → CloseReason → Linked S → Linked S → Type 0
  IsEnded contents reason old new = Ends contents reason old new ⊎ (HasFailed old.phase × (new ≡ old))

  -- How many bytes a link counts, once its stream has given so many: of what it sends and reads, and the message that is being fed, which
  -- stays whole. Nothing counts that is written, was given to the last byte, or was never read.
  abbrev pub counted_in : (S → ℕ) → Linked S → ℕ
  counted_in count_given l = held_by (count_given l.socket.stream) l.holding + min l.fed 131072 + length l.unfed

  -- A link keeps so many bytes: 2^64 - 1 if they are more.
  abbrev pub IsCounted : (S → ℕ) → Linked S → ℕ → Type 0
  IsCounted count_given l bytes = bytes ≡ min (counted_in count_given l) (2 ^ 64 - 1)

  -- What a link keeps: what is left of a message, and besides that no more than what was fed of it, what may wait to be sent, and twice a
  -- message that is not whole, with what one read gives.
  pub record Keeps (l : Linked S) (bytes : ℕ) : Type 0 where
    pub least : length l.unfed ≤ bytes
    pub most : bytes ≤ length l.unfed + (131072 + 1048576 + 2 * (131072 + 4096))
