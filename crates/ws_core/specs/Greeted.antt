-- What a handshake comes to.
use Rattle.std.specs.Prelude.{◌≡◌, ℕ, List, Bool, false, Option, ⊤}
use Rattle.ws_core.specs.declared.handshake.Answer.TheVariants.{Refuse}
use Rattle.ws_core.specs.declared.handshake.Greeted.{Greeted}
use Rattle.ws_core.specs.declared.handshake.Greeted.TheVariants as outcomes
use Rattle.ws_core.specs.Greetings.{Greeter, Tells, shuts_out}
use Rattle.ws_core.specs.Handshakes.{IsAccepted, is_head, refusal_bytes}
use Rattle.ws_core.specs.Links.{IsReady}

module _ {S : Type 0} where
  -- A client that waits goes on as the same handshake. A client that is accepted has sent a whole head that is to be accepted, over
  -- all the handshake's life. It was written the whole response that says so, by a server that has a place for it. A client that
  -- is refused was written the whole response of that refusal, and its stream is the caller's to end.
  abbrev pub Greets : (S → Option (List ℕ)) → (S → Option (List ℕ)) → Greeter S → Greeted S → Type 0
  Greets remaining contents g (outcomes.Waits next) = next.greeter ≡ g
  Greets remaining contents g (outcomes.Accepted link) =
      IsReady link × (accepted : IsAccepted remaining contents g.origins g.opening link.socket.stream) × (shuts_out g.vacancy accepted.bytes ≡ false)
  Greets remaining contents g (outcomes.Refused refusal new) =
      (head : List ℕ) × Tells remaining contents g head new (Refuse refusal) (refusal_bytes (is_head head) refusal)
  Greets remaining contents g (outcomes.Failed fault) = ⊤
