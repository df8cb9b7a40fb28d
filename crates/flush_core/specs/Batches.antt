-- Commands taken from the ring, and batches of them.
use Rattle.std.specs.Prelude.{◌≢◌, ◌≤◌, ◌<◌, ◌-◌, ◌/◌, ◌++◌, ℕ, List, [], length, take, drop, max, min}
use Rattle.command_core.specs.Commands.{CommandValue}
use Rattle.area_core.specs.Areas.{records}
use Rattle.claim_core.specs.Seats.{FlushSeatValue, flushing}
use Rattle.broker_core.specs.States.{State}
use Rattle.broker_core.specs.Steps.{state_after}

-- the seat with more commands taken
abbrev pub with_more : FlushSeatValue → List CommandValue → FlushSeatValue
with_more seat more = flushing seat.ring seat.base (seat.taken ++ more) seat.published seat.stopped seat.seats

-- of the commands taken, those whose numbers are low or over it
abbrev pub from_on : FlushSeatValue → ℕ → List CommandValue
from_on seat low = drop (low - seat.base) seat.taken

-- and of these, those whose numbers are under high
abbrev pub between : FlushSeatValue → ℕ → ℕ → List CommandValue
between seat low high = take (high - low) (from_on seat low)

-- the state after all commands taken whose numbers are under n
abbrev pub state_at : State → FlushSeatValue → ℕ → State
state_at opening seat n = state_after opening (take (n - seat.base) seat.taken)

-- the state after all commands taken
abbrev pub state_taken : State → FlushSeatValue → State
state_taken opening seat = state_after opening seat.taken

-- A batch: at most `most` commands, and if it has a last one, the records of those before it have fewer than `most_bytes` bytes.
pub record IsBatch (most most_bytes : ℕ) (cs : List CommandValue) : Type 0 where
  pub few : length cs ≤ most
  pub small : cs ≢ [] → length (records (take (length cs - 1) cs)) < most_bytes

-- A batch whose records have this many bytes takes no further command, if an area has `size` bytes. That is a quarter of these, but at
-- least 262,144, and in any case no more than a batch may have.
abbrev pub block_bytes : (size most_bytes : ℕ) → ℕ
block_bytes size most_bytes = min (max (size / 4) 262144) most_bytes
