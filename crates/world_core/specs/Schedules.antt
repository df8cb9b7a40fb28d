-- Schedules from the first world, and what holds in each world that they reach.
use Rattle.std.specs.Prelude.{◌≡◌, ◌⊎◌, ◌≤◌, ℕ, ◌+◌, ◌*◌, length, List, [], ◌∷◌, ◌++◌, Bool, false, replicate}
use Rattle.std.specs.List.{AllByRecursion}
use Rattle.claim_core.specs.declared.limits.TheConstants.{SEATS}
use Rattle.command_core.specs.Commands.{CommandValue}
use Rattle.disk_core.specs.Images.{IsImage, patched}
use Rattle.disk_core.specs.Memory.{none_held}
use Rattle.area_core.specs.declared.version.Version.TheVariants.{One, Two}
use Rattle.area_core.specs.Areas.{HasRecord, closed_snapshot, first_snapshot, front}
use Rattle.area_core.specs.Journals.{header}
use Rattle.broker_core.specs.States.{State, empty_state}
use Rattle.broker_core.specs.Steps.{state_after_v1}
use Rattle.world_core.specs.declared.event.Event.{Event}
use Rattle.world_core.specs.declared.parts.Period.TheVariants.{Crashed, Running}
use Rattle.world_core.specs.declared.parts.LastCall.TheVariants.{Broken, Rest}
use Rattle.world_core.specs.Answers.{Answers}
use Rattle.world_core.specs.Promises.{HoldsOn, Life}
use Rattle.world_core.specs.Worlds.{WorldValue}

-- what formatting leaves of a disk of zeros: the first area with the empty state, and the header with selector 0
abbrev pub formatted : ℕ → List ℕ
formatted size = patched 0 (header Two size ++ replicate 16 0) (patched 32 (closed_snapshot Two first_snapshot) (replicate (32 + 2 * size) 0))

-- and what opening then leaves: the second area has the empty state too, and the selector names it
abbrev pub opened_once : ℕ → List ℕ
opened_once size = patched 16 (1 ∷ []) (patched (32 + size) (closed_snapshot Two first_snapshot) (formatted size))

-- the world of an empty journal, formatted and opened
abbrev pub first : ℕ → WorldValue
first size = record {
  base = 0;
  opening = empty_state;
  history = [];
  ready = [];
  taken = 0;
  stored = 0;
  mark = 0;
  seats = replicate SEATS (record { own = []; seen = 0 });
  stopped = false;
  released = [];
  earlier = [];
  phase = Running;
  place = Rest;
  disk = record { size = size; content = opened_once size; held = none_held (32 + 2 * size) };
}

-- these commands in one block, and no block if there are none
abbrev pub one_block : List CommandValue → List (List CommandValue)
one_block [] = []
one_block (command ∷ commands) = (command ∷ commands) ∷ []

-- an area of the first version, with the empty state and these commands in one block
abbrev pub old_area : List CommandValue → List ℕ
old_area commands = front One first_snapshot (one_block commands) ++ 0 ∷ []

-- these commands have records, and such an area has at most `size` bytes
pub record FitsOld (size : ℕ) (commands : List CommandValue) : Type 0 where
  pub each : AllByRecursion HasRecord commands
  pub fits : length (old_area commands) ≤ size

-- a disk of the first version, whose first area is that one
abbrev pub old_journal : ℕ → List CommandValue → List ℕ
old_journal size commands = patched 0 (header One size ++ replicate 16 0) (patched 32 (old_area commands) (replicate (32 + 2 * size) 0))

-- a life that a crash ended, with that state; the crash left these bytes
abbrev pub crashed : ℕ → State → List ℕ → WorldValue
crashed size s content = record {
  base = s.count;
  opening = s;
  history = [];
  ready = [];
  taken = s.count;
  stored = s.count;
  mark = s.count;
  seats = replicate SEATS (record { own = []; seen = s.count });
  stopped = false;
  released = [];
  earlier = [];
  phase = Crashed;
  place = Broken;
  disk = record { size = size; content = content; held = none_held (32 + 2 * size) };
}

-- The world of a journal of the first version, as after a crash. Its life ended with the state that its blocks lead to by the old rule of
-- NACK.
abbrev pub first_old : ℕ → List CommandValue → WorldValue
first_old size commands = crashed size (state_after_v1 empty_state commands) (old_journal size commands)

-- a world that schedules begin with: that of an empty journal, or that of a journal of the first version
abbrev pub IsFirst : ℕ → WorldValue → Type 0
IsFirst size w = (w ≡ first size) ⊎ ((commands : List CommandValue) × FitsOld size commands × (w ≡ first_old size commands))

-- A list of events leads from one world to another; an event that is not possible changes nothing.
abbrev pub Reaches : WorldValue → List Event → WorldValue → Type 0
Reaches old [] new = new ≡ old
Reaches old (event ∷ events) new = (answer : Bool) × (mid : WorldValue) × Answers old event answer mid × Reaches mid events new

-- the life of a world
abbrev pub life_of : WorldValue → Life
life_of w = record { base = w.base; opening = w.opening; history = w.history; taken = w.taken; mark = w.mark; phase = w.phase; released = w.released; earlier = w.earlier }

-- what is promised of a world
abbrev pub Holds : WorldValue → Type 0
Holds w = HoldsOn (life_of w) (IsImage w.disk.content w.disk.held)
