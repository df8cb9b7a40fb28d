-- What a read comes to that ends a link.
use Rattle.std.proofs.Common.{Global, Vec, refl, ◌≡◌, ◌⊎◌, ◌++◌, List, [], ℕ, Bool, Option, Some, None, Result, Ok, Err, IfOk, OnOk, OnErr, inl, inr, subst, sym}
use Rattle.tungstenite.specs.CloseCode.{close_code_of}
use Rattle.tungstenite.specs.Connection.{Connection, close_step, end_error, read_step}
use Rattle.tungstenite.specs.Failure.{IsOutside, ReadFails, of_frame}
use Rattle.tungstenite.specs.Content.{text, binary}
use Rattle.tungstenite.specs.Socket.{Socket, EndsWith, Flushed, Run, Runs, Writes, close_of}
use Rattle.tungstenite.specs.Socket.{Reads as ReadsSocket}
use Rattle.tungstenite.specs.declared.error.Error.{Error}
use Rattle.tungstenite.specs.declared.error.Error.TheVariants as errors
use Rattle.tungstenite.specs.declared.message.CloseFrame.{CloseFrame}
use Rattle.tungstenite.specs.declared.message.Message.{Message}
use Rattle.tungstenite.specs.declared.message.Message.TheVariants as messages
use Rattle.websocket.specs.declared.error.Error.{Error as FrameError}
use Rattle.websocket.specs.declared.protocol.state.WebSocketState.{WebSocketState}
use Rattle.websocket.specs.declared.protocol.state.WebSocketState.TheVariants as states
use Rattle.ws_core.specs.Closing.{breach_code}
use Rattle.ws_core.specs.Links.{Linked}
use Rattle.ws_core.specs.Receiving.{Hears, HearsClose, Holds, IsBreach, Listens, Reads, short, unanswered, untold}
use Rattle.ws_core.specs.declared.link.Received.{Received}
use Rattle.ws_core.specs.declared.link.Received.TheVariants.{Bytes, Skipped, Nothing, Failed, Closed}

-- a stream that failed, and want of memory, have no code
outside_has_none : (e : Error) (code : ℕ) → IsOutside e → breach_code e ≡ Some code → ⊥
outside_has_none (errors.Io cause) code outside is = cc
outside_has_none errors.OutOfMemory code outside is = cc
outside_has_none errors.ConnectionClosed code outside is = cc
outside_has_none errors.AlreadyClosed code outside is = cc
outside_has_none (errors.Capacity cause) code outside is = absurd outside
outside_has_none (errors.Protocol cause) code outside is = absurd outside
outside_has_none errors.WriteBufferFull code outside is = cc
outside_has_none errors.Utf8 code outside is = absurd outside
outside_has_none errors.AttackAttempt code outside is = cc
outside_has_none (errors.Handshake cause) code outside is = cc
outside_has_none errors.HandshakeIncomplete code outside is = cc
outside_has_none errors.JunkAfterRequest code outside is = cc
outside_has_none errors.CustomResponseSuccessful code outside is = cc
outside_has_none errors.Url code outside is = cc
outside_has_none (errors.Http cause) code outside is = cc
outside_has_none (errors.Refused cause) code outside is = cc

-- nor has a stream's end
end_has_none : (state : WebSocketState) (code : ℕ) → breach_code (of_frame (end_error state)) ≡ Some code → ⊥
end_has_none states.Active code is = cc
end_has_none states.ClosedByUs code is = cc
end_has_none states.ClosedByPeer code is = cc
end_has_none states.CloseAcknowledged code is = cc
end_has_none states.Failed code is = cc
end_has_none states.Terminated code is = cc

-- so the next frame is the breach
breaks : (c : Connection) (i : List ℕ) (e : Error) (code : ℕ) → ReadFails c i e → breach_code e ≡ Some code
    → (fault : FrameError) × (read_step c i ≡ Err fault) × (e ≡ of_frame fault)
breaks c i e code (inl outside) is = absurd (outside_has_none e code outside is)
breaks c i e code (inr (inl frame)) is = frame
breaks c i e code (inr (inr end)) is = absurd (end_has_none c.state code (subst (λ x. breach_code x ≡ Some code) end is))

module _ {S : Type 0} where
  ran : (frames : Run) (old read : Socket S) (got : List ℕ) (c : Connection) (i : List ℕ) → Runs old.conn (old.input ++ got) frames c i → read.conn ≡ c → read.input ≡ i
      → Runs old.conn (old.input ++ got) frames read.conn read.input
  ran frames old read got c i runs conn input =
      subst (λ x. Runs old.conn (old.input ++ got) frames x read.input) (sym conn) (subst (λ x. Runs old.conn (old.input ++ got) frames c x) (sym input) runs)

module _ {S : Type 0} (remaining : S → Option (List ℕ)) where
  -- a breach
  pub breach : (old read : Socket S) (e : Error) (code : ℕ) → ReadsSocket remaining old read (Err e) → breach_code e ≡ Some code → IsBreach remaining old read code
  breach old read e code reads is =
      let gave = reads.6 in
      let fault = breaks reads.2 reads.3 e code gave.1 is in
      record {
        got = reads.1;
        frames = reads.0;
        conn = reads.2;
        input = reads.3;
        run = reads.5;
        quiet = gave.0;
        fault = fault.0;
        next = fault.1;
        code_is = subst (λ x. breach_code x ≡ Some code) fault.2 is;
        failed = subst (λ x. ReadsSocket remaining old read (Err x)) fault.2 reads;
      }

  -- frames that were read
  read_all : (old read : Socket S) (message : Message) (reads : ReadsSocket remaining old read (Ok message)) → Reads remaining old read reads.0
  read_all old read message reads =
      record { got = reads.1; run = ran reads.0 old read reads.1 reads.2 reads.3 reads.5 reads.6.1 reads.6.2; stated = reads.6.4 }

  -- a close
  pub closed : (old read : Socket S) (frame : Option CloseFrame) → ReadsSocket remaining old read (Ok (messages.Close frame)) → HearsClose remaining old read
  closed old read frame reads = record { frames = reads.0; frame = close_of frame; reads = read_all old read (messages.Close frame) reads; ends = reads.6.0 }

module _ {S : Type 0} (remaining contents : S → Option (List ℕ)) where
  -- a breach that was told
  pub told : (old read new : Socket S) (e : Error) (code : ℕ) (all : Result Bool Error) (got : Received)
      → ReadsSocket remaining old read (Err e) → breach_code e ≡ Some code
      → OnOk all (Writes contents read new (close_step read.conn (Some (close_code_of code, []))))
      → OnOk all (got ≡ Failed) → OnErr all (got ≡ Closed) → Hears remaining contents old new got
  told old read new e code (Ok all) got reads is written failed closed = subst (Hears remaining contents old new) (sym failed)
      (inl (record { read = read; code = code; breach = breach remaining old read e code reads is; said = written }))
  told old read new e code (Err f) got reads is written failed closed = subst (Hears remaining contents old new) (sym closed)
      (untold read code (breach remaining old read e code reads is))

  -- a close that was answered
  pub answered : (old read new : Socket S) (frame : Option CloseFrame) (all : Result Bool Error) (got : Received)
      → ReadsSocket remaining old read (Ok (messages.Close frame)) → OnOk all (Flushed contents read new)
      → OnOk all (got ≡ Failed) → OnErr all (got ≡ Closed) → Hears remaining contents old new got
  answered old read new frame (Ok all) got reads flushed failed is = subst (Hears remaining contents old new) (sym failed)
      (inr (record { read = read; heard = closed remaining old read frame reads; written = flushed }))
  answered old read new frame (Err f) got reads flushed failed is = subst (Hears remaining contents old new) (sym is)
      (unanswered read (closed remaining old read frame reads))

  -- a message, and its bytes unless memory was refused for these
  pub carried_text : (old new : Socket S) (t : List ℕ) (got : Received) → ReadsSocket remaining old new (Ok (messages.Text t)) → Holds got t → Hears remaining contents old new got
  carried_text old new t (Bytes v) reads holds =
      (reads.0, read_all remaining old new (messages.Text t) reads, inl (subst (λ b. EndsWith reads.0 (text b)) (sym holds) reads.6.0))
  carried_text old new t Closed reads holds = short reads.0 t (read_all remaining old new (messages.Text t) reads) (inl reads.6.0)
  carried_text old new t Skipped reads holds = absurd holds
  carried_text old new t Nothing reads holds = absurd holds
  carried_text old new t Failed reads holds = absurd holds

  pub carried_binary : (old new : Socket S) (t : List ℕ) (got : Received) → ReadsSocket remaining old new (Ok (messages.Binary t)) → Holds got t → Hears remaining contents old new got
  carried_binary old new t (Bytes v) reads holds =
      (reads.0, read_all remaining old new (messages.Binary t) reads, inr (subst (λ b. EndsWith reads.0 (binary b)) (sym holds) reads.6.0))
  carried_binary old new t Closed reads holds = short reads.0 t (read_all remaining old new (messages.Binary t) reads) (inr reads.6.0)
  carried_binary old new t Skipped reads holds = absurd holds
  carried_binary old new t Nothing reads holds = absurd holds
  carried_binary old new t Failed reads holds = absurd holds

  -- a read that gave no message, of a link that has nothing left of one
  pub hears_else : (old new : Linked S) (got : Received) → Hears remaining contents old.socket new.socket got → ((v : Vec ℕ Global) → got ≡ Bytes v → ⊥)
      → old.unfed ≡ [] → new.unfed ≡ [] → Listens remaining contents old new got
  hears_else old new (Bytes v) hears none empty left = absurd (none v refl)
  hears_else old new Skipped hears none empty left = record { next = λ some. absurd (some empty); first = λ _. (Skipped, hears, (refl, left)) }
  hears_else old new Nothing hears none empty left = record { next = λ some. absurd (some empty); first = λ _. (Nothing, hears, (refl, left)) }
  hears_else old new Failed hears none empty left = record { next = λ some. absurd (some empty); first = λ _. (Failed, hears, (refl, left)) }
  hears_else old new Closed hears none empty left = record { next = λ some. absurd (some empty); first = λ _. (Closed, hears, (refl, left)) }
