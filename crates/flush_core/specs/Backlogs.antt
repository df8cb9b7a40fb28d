-- The backlog of a journal: what a start would have to repeat, and how much that may be.
use Rattle.std.specs.Prelude.{◌≡◌, ◌⊎◌, ◌≤◌, ◌<◌, ◌+◌, ◌*◌, ◌-◌, ◌^◌, ℕ, List, length, max, min, sum_by}
use Rattle.command_core.specs.Commands.{CommandValue}
use Rattle.command_core.specs.declared.command.Op.{Op}
use Rattle.command_core.specs.declared.command.Op.TheVariants.{Commit, Subscribe}
use Rattle.area_core.specs.Areas.{records}
use Rattle.broker_core.specs.States.{State, held_bytes, held_messages}
use Rattle.broker_core.specs.Steps.{outs_of}
use Rattle.claim_core.specs.Seats.{FlushSeatValue}
use Rattle.recover_core.specs.Compactions.{HasNoRoomFor}
use Rattle.flush_core.specs.Batches.{between, state_at}
use Rattle.flush_core.specs.Flusher.{Flushed, state_stored}

-- How many steps an operation takes: a subscription is put in its place among all others, and each member of a transaction is carried out.
abbrev pub steps_of_op : Op → ℕ
steps_of_op (Subscribe id destination mode durable) = 10
steps_of_op (Commit members) = 1 + length members
steps_of_op _ = 1

abbrev pub steps_of : CommandValue → ℕ
steps_of c = steps_of_op c.op

-- What it costs to carry out commands of so many steps, whose records have so many bytes, and which have so many outputs: about as many
-- nanoseconds of a processor.
abbrev pub cost : (steps bytes outs : ℕ) → ℕ
cost steps bytes outs = 1000 * steps + 3 * bytes + 1600 * outs

-- the cost of carrying out these commands, from that state on
abbrev pub cost_of : State → List CommandValue → ℕ
cost_of s cs = cost (sum_by steps_of cs) (length (records cs)) (length (outs_of s cs))

-- about how many bytes a snapshot of that state has
abbrev pub bulk : State → ℕ
bulk s = held_bytes s + 64 * (held_messages s + length s.sessions + 2 * length s.subscriptions)

-- How much a start may have to repeat: a little, or if the state is large, so much that its snapshots are seldom written. It is never more
-- than half a second.
abbrev pub most_cost : State → ℕ
most_cost s = min (max (25 * bulk s) 64000000) 500000000

-- The work that a start would have to repeat: all that is stored since the last compaction. If no snapshot fit when one was due, what is
-- stored after that.
abbrev pub backlog : {D : Type 0} → Flushed D → ℕ
backlog f = cost_of (state_at f.opening f.seat f.last.counted) (between f.seat f.last.counted f.stored)

-- and that is less than it may be
abbrev pub IsLight : {D : Type 0} → Flushed D → Type 0
IsLight f = backlog f < most_cost (state_stored f)

-- a start has nothing to repeat, unless no snapshot of the state fits into an area
abbrev pub RepeatsNothing : {D : Type 0} → Flushed D → Type 0
RepeatsNothing f = (f.last.since ≡ f.stored) ⊎ HasNoRoomFor f.size (state_stored f)

-- the most that can be counted
abbrev pub most_counted : ℕ
most_counted = 2 ^ 64 - 1

-- How the fields show it: what is counted is the cost of what is executed since then, or as much of it as can be counted.
pub record IsCounted (opening : State) (seat : FlushSeatValue) (since executed counted : ℕ) : Type 0 where
  pub begun : seat.base ≤ since
  pub rises : since ≤ executed
  pub counted_is : counted ≡ min (cost_of (state_at opening seat since) (between seat since executed)) most_counted
