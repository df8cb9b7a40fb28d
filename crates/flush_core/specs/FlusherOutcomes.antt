-- What calls of a flusher leave.
use Rattle.std.specs.Prelude.{◌≡◌, ◌<◌, ◌≤◌, ◌-◌, ◌++◌, drop, take, ℕ, List, [], Some, true, false, Result, Ok, Err}
use Rattle.disk_core.specs.declared.disk.Disk.{Ghosts}
use Rattle.command_core.specs.Commands.{CommandValue}
use Rattle.command_core.specs.Outs.{OutValue}
use Rattle.broker_core.specs.Steps.{outs_of}
use Rattle.area_core.specs.Areas.{commands}
use Rattle.area_core.specs.Puts.{Each}
use Rattle.recover_core.specs.Compactions.{HoldsItAlone}
use Rattle.command_core.specs.Entries.{EntryValue}
use Rattle.outbox_core.specs.Boxes.{SenderValue}
use Rattle.outbox_core.specs.Giving.{AreGiven, Kept, unboxed, without}
use Rattle.claim_core.specs.Seats.{FlushSeatValue, when_stopped, with_mark, next_ticket}
use Rattle.flush_core.specs.declared.faults.FlushFault.{FlushFault}
use Rattle.flush_core.specs.declared.faults.FlushFault.TheVariants.{Device, Full, Broken, Memory}
use Rattle.flush_core.specs.Batches.{between, with_more, from_on, state_at}
use Rattle.flush_core.specs.Flusher.{Latest, Flushed, gathered, unexecuted}
use Rattle.flush_core.specs.Room.{Fits, IsLongest, IsTooLong, used_afresh}
use Rattle.flush_core.specs.Sessions.{boxes_after, ended_of}

-- A step has failed: the flusher is broken and its ring is stopped. What was taken, stored or published, and what may be handed out, stays.
pub record Falls {D : Type 0} (old new : Flushed D) : Type 0 where
  pub was : old.broken ≡ false
  pub now : new.broken ≡ true
  pub seat : new.seat ≡ when_stopped old.seat
  pub stored : new.stored ≡ old.stored
  pub opening : new.opening ≡ old.opening
  pub left : new.left ≡ old.left

-- Whether a flusher is broken before a step, and after it. A broken flusher stays as it is.
abbrev pub IsOutcome : {D X : Type 0} → Flushed D → Flushed D → Result X FlushFault → Type 0
IsOutcome old new (Ok _) = (old.broken ≡ false) × (new.broken ≡ false)
IsOutcome old new (Err Broken) = (old.broken ≡ true) × (new ≡ old)
IsOutcome old new (Err Device) = Falls old new
IsOutcome old new (Err Full) = Falls old new
IsOutcome old new (Err (Memory _)) = Falls old new

-- more commands are taken, and nothing else changes
abbrev pub taking : {D : Type 0} → Flushed D → List (EntryValue SenderValue) → Flushed D
taking f more = record f { seat = with_more f.seat (commands more); brought = f.brought ++ more }

-- what was taken is stored up to that number, on this disk
abbrev pub storing : {D : Type 0} → Flushed D → ℕ → D → ℕ → ℕ → Latest → Flushed D
storing f n disk size used last = record f { disk = disk; size = size; used = used; stored = n; last = last }

-- What waits to be stored, of all that this seat has taken at the end, is stored up to that number, if any of it is. All of it is stored if
-- its block fits after what is used. Otherwise as much is stored as has room after a snapshot of the state.
pub record IsNext {D : Type 0} (f : Flushed D) (seat : FlushSeatValue) (n : ℕ) : Type 0 where
  pub from : f.stored ≤ n
  pub to : n ≤ next_ticket seat
  pub behind : f.stored < n → Fits f.size f.used (from_on seat f.stored) → n ≡ next_ticket seat
  pub afresh : f.stored < n → IsTooLong f.size f.used (from_on seat f.stored)
      → IsLongest f.size (used_afresh (state_at f.opening f.seat f.stored)) (from_on seat f.stored) (n - f.stored)

-- on this disk, `used` bytes of an area are used, and this was written last
abbrev pub using : {D : Type 0} → Flushed D → D → ℕ → Latest → Flushed D
using f disk used last = record f { disk = disk; used = used; last = last }

-- the journal is compacted, on this disk, and `used` bytes of an area are used; nothing is won if more is used than before. All that is stored is in the snapshot
abbrev pub compacted : {D : Type 0} → Flushed D → D → ℕ → Flushed D
compacted f disk used = using f disk used (record { won = Some (f.used - used); since = f.stored; counted = f.stored; block = f.last.block })

-- the journal is as it was, since the block of what is gathered fits as it is
pub record IsLeft {D : Type 0} (old new : Flushed D) : Type 0 where
  pub same : new ≡ old
  pub fits : Fits old.size old.used (gathered old)

-- the block of what is gathered did not fit, so the journal was compacted
pub record IsCompacted {D : Type 0} (disk : Ghosts D) (old new : Flushed D) : Type 0 where
  pub whole : old.broken ≡ false
  pub long : IsTooLong old.size old.used (gathered old)
  pub is : new ≡ compacted old new.disk (used_afresh (state_at old.opening old.seat old.stored))
  pub alone : disk.honest old.disk → Each (disk.images new.disk) (HoldsItAlone new.size new.used (state_at old.opening old.seat old.stored))

-- the entries of what is stored and not executed
abbrev pub stored_entries : {D : Type 0} → Flushed D → List (EntryValue SenderValue)
stored_entries f = take (f.stored - f.executed) f.brought

-- All that is stored is executed: its outputs wait after the others, the boxes that came with Opens are kept, and the sessions that ended
-- are noted.
abbrev pub executing : {D : Type 0} → Flushed D → Flushed D
executing f = record f {
  executed = f.stored;
  brought = drop (f.stored - f.executed) f.brought;
  broker = record { state = state_at f.opening f.seat f.stored; broken = false };
  boxes = boxes_after f.executed f.boxes (stored_entries f);
  ended = f.ended ++ ended_of f.broker.state (unexecuted f);
  waiting = f.waiting ++ outs_of f.broker.state (unexecuted f);
}

-- the boxes to which outputs are given: those of sessions that ended and got their last outputs are let go before
abbrev pub standing : {D : Type 0} → Flushed D → Kept
standing f = without f.boxes f.past

-- All that is stored is published. What waited goes to the boxes of its sessions, which are then `boxes`. What goes to sessions without a
-- box may be handed out, after what could be handed out already.
abbrev pub publishing : {D : Type 0} → Flushed D → Kept → Flushed D
publishing f boxes = record f {
  seat = with_mark f.seat f.stored;
  boxes = boxes;
  ended = [];
  past = f.ended;
  waiting = [];
  left = f.left ++ unboxed (standing f) f.waiting;
}

-- All that is stored is executed. The first outputs are given by then, and the mark stands there; the others wait. The boxes of sessions that
-- had got their last outputs are let go.
abbrev pub giving : {D : Type 0} → Flushed D → ℕ → Kept → List OutValue → List OutValue → Flushed D
giving f mark boxes given waiting = record f {
  seat = with_mark f.seat mark;
  executed = f.stored;
  brought = drop (f.stored - f.executed) f.brought;
  broker = record { state = state_at f.opening f.seat f.stored; broken = false };
  boxes = boxes;
  ended = f.ended ++ ended_of f.broker.state (unexecuted f);
  past = [];
  waiting = waiting;
  left = f.left ++ unboxed (standing (executing f)) given;
}

-- What is stored is executed, and the first outputs are published.
pub record Gives {D : Type 0} (old new : Flushed D) : Type 0 where
  pub given : List OutValue
  pub is : new ≡ giving old new.seat.published new.boxes given new.waiting
  pub outs : given ++ new.waiting ≡ (executing old).waiting
  pub boxed : AreGiven given (standing (executing old)) new.boxes
  pub raised : old.seat.published ≤ new.seat.published
  pub within : new.seat.published ≤ old.stored

-- Memory was refused while what is stored was executed: the flusher is broken and its ring is stopped. The first outputs may be published by
-- then. What may be handed out stays, and more may come after it.
pub record GivesAndFalls {D : Type 0} (old new : Flushed D) : Type 0 where
  pub was : old.broken ≡ false
  pub now : new.broken ≡ true
  pub seat : new.seat ≡ when_stopped (with_mark old.seat new.seat.published)
  pub raised : old.seat.published ≤ new.seat.published
  pub stored : new.stored ≡ old.stored
  pub opening : new.opening ≡ old.opening
  pub left : (more : List OutValue) × (new.left ≡ old.left ++ more)

-- the outputs that a turn publishes
abbrev pub turned_outs : {D : Type 0} → Flushed D → Flushed D → List OutValue
turned_outs old new = old.waiting ++ outs_of old.broker.state (between new.seat old.stored new.stored)

-- the boxes that stand when a turn that took these entries publishes
abbrev pub turned_boxes : {D : Type 0} → Flushed D → Flushed D → List (EntryValue SenderValue) → Kept
turned_boxes old new more = without (boxes_after old.executed old.boxes (take (new.stored - old.stored) (old.brought ++ more))) old.past

-- A turn has taken these entries, and what is stored is executed and published. The outputs of all that was not published before were given
-- to the boxes of their sessions, or may be handed out. These come after those that could be handed out already. What is not stored waits,
-- with the boxes that came with it.
pub record IsTurned {D : Type 0} (old new : Flushed D) (more : List (EntryValue SenderValue)) : Type 0 where
  pub seat : new.seat ≡ with_mark (with_more old.seat (commands more)) new.stored
  pub within : (old.stored ≤ new.stored) × (new.stored ≤ next_ticket new.seat)
  pub executed : new.executed ≡ new.stored
  pub brought : new.brought ≡ drop (new.stored - old.stored) (old.brought ++ more)
  pub opening : new.opening ≡ old.opening
  pub broker : new.broker ≡ record { state = state_at new.opening new.seat new.stored; broken = false }
  pub given : AreGiven (turned_outs old new) (turned_boxes old new more) new.boxes
  pub past : new.past ≡ old.ended ++ ended_of old.broker.state (between new.seat old.stored new.stored)
  pub ended : new.ended ≡ []
  pub waiting : new.waiting ≡ []
  pub left : new.left ≡ old.left ++ unboxed (turned_boxes old new more) (turned_outs old new)

-- A turn has failed: the flusher is broken and its ring is stopped. It may have taken and stored commands, and published the first of them.
-- What may be handed out stays, and what was published in addition comes after it.
pub record TurnFalls {D : Type 0} (old new : Flushed D) : Type 0 where
  pub was : old.broken ≡ false
  pub now : new.broken ≡ true
  pub stopped : new.seat.stopped ≡ true
  pub ring : new.seat.ring ≡ old.seat.ring
  pub base : new.seat.base ≡ old.seat.base
  pub seats : new.seat.seats ≡ old.seat.seats
  pub published : old.seat.published ≤ new.seat.published
  pub taken : (more : List CommandValue) × (new.seat.taken ≡ old.seat.taken ++ more)
  pub opening : new.opening ≡ old.opening
  pub left : (more : List OutValue) × (new.left ≡ old.left ++ more)

-- Whether a flusher is broken before a turn, and after it. A broken flusher stays as it is.
abbrev pub IsTurn : {D X : Type 0} → Flushed D → Flushed D → Result X FlushFault → Type 0
IsTurn old new (Ok _) = (old.broken ≡ false) × (new.broken ≡ false)
IsTurn old new (Err Broken) = (old.broken ≡ true) × (new ≡ old)
IsTurn old new (Err Device) = TurnFalls old new
IsTurn old new (Err Full) = TurnFalls old new
IsTurn old new (Err (Memory _)) = TurnFalls old new

-- the mark and what may be handed out stay
abbrev pub IsUnpublished : {D : Type 0} → Flushed D → Flushed D → Type 0
IsUnpublished old new = (new.seat.published ≡ old.seat.published) × (new.left ≡ old.left)

-- A turn that fails for its disk, or for room on it, has published nothing.
abbrev pub PublishesNone : {D X : Type 0} → Flushed D → Flushed D → Result X FlushFault → Type 0
PublishesNone old new (Ok _) = Unit {0}
PublishesNone old new (Err Broken) = Unit {0}
PublishesNone old new (Err Device) = IsUnpublished old new
PublishesNone old new (Err Full) = IsUnpublished old new
PublishesNone old new (Err (Memory _)) = Unit {0}
