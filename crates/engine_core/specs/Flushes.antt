-- What turns of the flusher leave.
use Rattle.std.specs.Prelude.{◌≡◌, ◌≤◌, ◌⊎◌, ◌+◌, ◌-◌, ℕ, [], ◌++◌, List, take, true, false}
use Rattle.command_core.specs.Commands.{CommandValue}
use Rattle.claim_core.specs.Seats.{next_ticket}
use Rattle.flush_core.specs.Batches.{from_on, state_at}
use Rattle.flush_core.specs.Flusher.{Flushed}
use Rattle.flush_core.specs.Room.{IsTooLong, used_afresh}

-- There was no room for the next command. After a snapshot of the state before the last block, that block would be too long for an area if it
-- had the next command too.
pub record LacksRoom {D : Type 0} (f : Flushed D) : Type 0 where
  pub before : f.last.block ≤ f.stored
  pub long : IsTooLong f.size (used_afresh (state_at f.opening f.seat f.last.block)) (take (f.stored - f.last.block + 1) (from_on f.seat f.last.block))

-- all that is taken is stored, as far as there was room
abbrev pub NoneWaits : {D : Type 0} → Flushed D → Type 0
NoneWaits f = (f.stored ≡ next_ticket f.seat) ⊎ LacksRoom f

-- Turns were made, or none. The seat is of the same ring, with the same first ticket and as many sessions' seats. The
-- commands taken are those from before and more, and the mark has not fallen. Unless a step failed, all that is stored is
-- published if it was before, and no output is left if none was. Nothing that was taken waits if nothing did, unless it had no room.
pub record Flushes {D : Type 0} (old new : Flushed D) : Type 0 where
  pub ring : new.seat.ring ≡ old.seat.ring
  pub base : new.seat.base ≡ old.seat.base
  pub seats : new.seat.seats ≡ old.seat.seats
  pub taken : (more : List CommandValue) × (new.seat.taken ≡ old.seat.taken ++ more)
  pub raised : old.seat.published ≤ new.seat.published
  pub opening : new.opening ≡ old.opening
  pub broken : old.broken ≡ true → new.broken ≡ true
  pub executed : (old.broken ≡ false → old.executed ≡ old.stored) → (new.broken ≡ false → new.executed ≡ new.stored)
  pub caught_up : old.stored ≡ old.seat.published → new.broken ≡ false → new.stored ≡ new.seat.published
  pub left : old.left ≡ [] → new.broken ≡ false → new.left ≡ []
  pub none_waits : NoneWaits old → new.broken ≡ false → NoneWaits new
