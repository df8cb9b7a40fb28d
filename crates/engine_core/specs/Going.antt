-- A flusher between flushes, and how far it has gone.
use Rattle.std.specs.Prelude.{◌≡◌, ◌+◌, ◌≤◌, ◌++◌, ◌∷◌, ℕ, List, [], false, length, take}
use Rattle.command_core.specs.Commands.{CommandValue}
use Rattle.broker_core.specs.Steps.{outs_of, state_after}
use Rattle.claim_core.specs.Seats.{next_ticket, with_mark}
use Rattle.flush_core.specs.Batches.{state_at, state_taken, with_more}
use Rattle.flush_core.specs.Flusher.{Flushed}
use Rattle.flush_core.specs.Room.{HasNoRoomLeft}

-- all that was taken is stored, carried out and published, and all outputs are handed out or may be
pub record IsIdle {D : Type 0} (f : Flushed D) : Type 0 where
  pub whole : f.broken ≡ false
  pub stored : f.stored ≡ next_ticket f.seat
  pub executed : f.executed ≡ next_ticket f.seat
  pub marked : f.seat.published ≡ next_ticket f.seat
  pub waiting : f.waiting ≡ []
  pub state : f.broker.state ≡ state_taken f.opening f.seat

-- between turns: all that is stored is carried out and published, and all outputs are handed out or may be
pub record IsCalm {D : Type 0} (f : Flushed D) : Type 0 where
  pub whole : f.broken ≡ false
  pub executed : f.executed ≡ f.stored
  pub marked : f.seat.published ≡ f.stored
  pub waiting : f.waiting ≡ []
  pub state : f.broker.state ≡ state_at f.opening f.seat f.stored

-- these commands more were taken, and the first so many of them stored, carried out and published, so that their outputs may be handed out
pub record HasCome {D : Type 0} (old new : Flushed D) (more : List CommandValue) (count : ℕ) : Type 0 where
  pub calm : IsCalm new
  pub few : count ≤ length more
  pub stored : new.stored ≡ old.stored + count
  pub seat : new.seat ≡ with_mark (with_more old.seat more) new.stored
  pub opening : new.opening ≡ old.opening
  pub state : new.broker.state ≡ state_after old.broker.state (take count more)
  pub left : new.left ≡ old.left ++ outs_of old.broker.state (take count more)

-- these commands more were taken, stored, carried out and published, and their outputs may be handed out
pub record HasGone {D : Type 0} (old new : Flushed D) (more : List CommandValue) : Type 0 where
  pub idle : IsIdle new
  pub seat : new.seat ≡ with_mark (with_more old.seat more) (next_ticket (with_more old.seat more))
  pub opening : new.opening ≡ old.opening
  pub state : new.broker.state ≡ state_after old.broker.state more
  pub left : new.left ≡ old.left ++ outs_of old.broker.state more

-- so many commands more were
abbrev pub HasGoneOn : {D : Type 0} → Flushed D → Flushed D → ℕ → Type 0
HasGoneOn old new count = (more : List CommandValue) × (length more ≡ count) × HasGone old new more

-- more commands were taken, and all that was published is still
pub record HasGoneSomeWay {D : Type 0} (old new : Flushed D) : Type 0 where
  pub ring : new.seat.ring ≡ old.seat.ring
  pub opening : new.opening ≡ old.opening
  pub more : List CommandValue
  pub taken : new.seat.taken ≡ old.seat.taken ++ more
  pub published : old.seat.published ≤ new.seat.published

-- the first so many of these commands were taken, and all that was published is still
pub record HasGoneFront {D : Type 0} (old new : Flushed D) (commands : List CommandValue) : Type 0 where
  pub ring : new.seat.ring ≡ old.seat.ring
  pub base : new.seat.base ≡ old.seat.base
  pub opening : new.opening ≡ old.opening
  pub n : ℕ
  pub few : n ≤ length commands
  pub taken : new.seat.taken ≡ old.seat.taken ++ take n commands
  pub published : old.seat.published ≤ new.seat.published

-- More commands were taken, of which the first are on the disk. It is compacted, as far as that goes, and has no room for a block of the
-- next one.
pub record HasFilled {D : Type 0} (old new : Flushed D) (image : List ℕ) : Type 0 where
  pub done : List CommandValue
  pub next : CommandValue
  pub behind : List CommandValue
  pub base : new.seat.base ≡ old.seat.base
  pub taken : new.seat.taken ≡ old.seat.taken ++ (done ++ next ∷ behind)
  pub no_room : HasNoRoomLeft image (state_after old.broker.state done) (next ∷ [])
