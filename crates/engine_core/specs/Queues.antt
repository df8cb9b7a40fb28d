use Rattle.std.specs.Prelude.{◌≡◌, ◌≤◌, ◌^◌, ◌+◌, List, [], ◌∷◌, ◌++◌, ℕ, Bool, Option, Some, None, true, cond, length, nat_le, nat_eq, flat_map, unwrap_or, count_by}
use Rattle.std.specs.BTreeMap.{insert_entry, is_at}
use Rattle.std.specs.Fmt.{decimal}
use Rattle.std.specs.List.{fold}
use Rattle.std.specs.Map.{lookup}
use Rattle.std.specs.Ordering.{nat_cmp}
use Rattle.claim_core.specs.declared.limits.TheConstants.{WINDOW}
use Rattle.frame_core.specs.declared.frame.Frame.{Frame}
use Rattle.frame_core.specs.Written.{written}
use Rattle.disk_core.specs.Memory.{Memory}
use Rattle.command_core.specs.declared.command.Op.{Op}
use Rattle.command_core.specs.declared.command.Op.TheVariants.{Open}
use Rattle.command_core.specs.Commands.{CommandValue, Fits}
use Rattle.command_core.specs.Outs.{OutValue}
use Rattle.broker_core.specs.States.{State}
use Rattle.broker_core.specs.Steps.{state_after, outs_of}
use Rattle.script_text.specs.PercentTexts.{encoded}
use Rattle.engine_core.specs.declared.command_queue.Waiting.{Waiting}
use Rattle.engine_core.specs.Journals.{IsFull}
use Rattle.engine_core.specs.Placed.{commands_of}
use Rattle.session_core.specs.declared.session.Act.{Act}
use Rattle.session_core.specs.declared.session.Act.TheVariants.{Do, Direct, Close}

-- Between the connections and the broker: the commands that wait for the next flush, in their order, each with the connection that it came
-- from. Also which connection opened which session, the broker as it was last flushed, and whether what was flushed is durable.
pub record QueueValue : Type 0 where
  pub waiting : List Waiting
  pub openers : List (ℕ × ℕ)
  pub state : State
  pub durable : Bool

-- a queue, and the disk that its journal stands on
pub record QueueOnDisk : Type 0 where
  pub queue : QueueValue
  pub disk : Memory

-- none of the disk's calls fails
abbrev pub StaysCalm : QueueOnDisk → QueueOnDisk → Type 0
StaysCalm old new = new.disk.failures ≡ old.disk.failures

-- a line that is printed for a connection: its number, a blank and the frame
abbrev pub line_for : ℕ → Frame → List ℕ
line_for connection frame = decimal connection ++ 32 ∷ (encoded (written frame) ++ 10 ∷ [])

-- the connection that opened a session
abbrev pub opener_of : List (ℕ × ℕ) → ℕ → ℕ
opener_of openers session = unwrap_or (lookup (is_at (nat_cmp session)) openers) 0

-- the line that is printed for an output: it goes to the connection that opened the session
abbrev pub line_of_out : List (ℕ × ℕ) → OutValue → List ℕ
line_of_out openers out = line_for (opener_of openers out.session) out.frame

-- what a flush prints: the outputs of the waiting commands, in order
abbrev pub flush_text : QueueValue → List ℕ
flush_text queue = flat_map (line_of_out queue.openers) (outs_of queue.state (commands_of queue.waiting))

-- what a flush leaves: nothing waits
abbrev pub flushed : QueueValue → QueueValue
flushed queue = record queue { waiting = []; state = state_after queue.state (commands_of queue.waiting) }

-- as many commands of a connection wait as may
abbrev pub is_full : ℕ → QueueValue → Bool
is_full connection queue = nat_le WINDOW (count_by (λ w. nat_eq w.connection connection) queue.waiting)

-- a flush comes before a connection has one more that waits
abbrev pub with_room : ℕ → QueueValue → QueueValue
with_room connection queue = cond (is_full connection queue) (flushed queue) queue

abbrev pub room_text : ℕ → QueueValue → List ℕ
room_text connection queue = cond (is_full connection queue) (flush_text queue) []

-- a command of the connection comes once as many have been carried out as may be: 2^60
abbrev pub CountsTooFar : ℕ → QueueValue → Type 0
CountsTooFar connection queue = 2 ^ 60 ≤ (with_room connection queue).state.count

-- the number that the next command gets
abbrev pub next_number : QueueValue → ℕ
next_number queue = queue.state.count + length queue.waiting

-- one more command waits
abbrev pub with_command : ℕ → CommandValue → QueueValue → QueueValue
with_command connection command queue = record queue { waiting = queue.waiting ++ record { connection = connection; command = command } ∷ [] }

-- the connection opens the session of the next command's number
abbrev pub with_opener : ℕ → QueueValue → QueueValue
with_opener connection queue = record queue { openers = insert_entry nat_cmp queue.openers (next_number queue) connection }

-- what a connection's acts lead to: the number of its session, the queue, and what is printed
pub record Progress : Type 0 where
  pub number : ℕ
  pub queue : QueueValue
  pub text : List ℕ

abbrev pub progress_of : ℕ → QueueValue → List ℕ → Progress
progress_of number queue text = record { number = number; queue = queue; text = text }

-- an operation becomes a command of the connection's session; an Open gives the session its number
abbrev pub as_command : ℕ → Op → Option (List ℕ) → ℕ → QueueValue → QueueValue
as_command connection (Open client_id) receipt number queue = with_command connection (record { session = 0; op = Open client_id; receipt = receipt }) (with_opener connection queue)
as_command connection op receipt number queue = with_command connection (record { session = number; op = op; receipt = receipt }) queue

abbrev pub number_for : Op → ℕ → QueueValue → ℕ
number_for (Open client_id) number queue = next_number queue
number_for op number queue = number

-- An operation has two numbers: that of the connection's session from then on, and that of the session which its command names.
-- An Open names none, and its session gets the command's number.
pub record IsNumbered (connection : ℕ) (op : Op) (before : ℕ) (old new : QueueValue) (numbers : ℕ × ℕ) : Type 0 where
  pub number : numbers.0 ≡ number_for op before old
  pub fits : (receipt : Option (List ℕ)) → Fits op 0 receipt → Fits op numbers.1 receipt
  pub queue : (receipt : Option (List ℕ)) → as_command connection op receipt before old ≡ with_command connection (record { session = numbers.1; op = op; receipt = receipt }) new

abbrev pub submitted : ℕ → Op → Option (List ℕ) → Progress → Progress
submitted connection op receipt p =
    let queue = with_room connection p.queue in
    record {
      number = number_for op p.number queue;
      queue = as_command connection op receipt p.number queue;
      text = p.text ++ room_text connection p.queue;
    }

-- what one act leads to; the end of a connection isn't told in a script
abbrev pub acted : ℕ → Progress → Act → Progress
acted connection p (Do op receipt) = submitted connection op receipt p
acted connection p (Direct frame) = record p { text = p.text ++ line_for connection frame }
acted connection p (Close code) = p

-- what the act leads to that is to be done, if there is one
abbrev pub acted_on : ℕ → Progress → Option Act → Progress
acted_on connection p None = p
acted_on connection p (Some act) = acted connection p act

-- an act is a command that comes once as many have been carried out as may be
abbrev pub IsTooFar : ℕ → QueueValue → Act → Type 0
IsTooFar connection queue (Do op receipt) = CountsTooFar connection queue
IsTooFar connection queue _ = ⊥

-- The journal of the disk of this content is compacted as far as that goes. It stands for the state after the first of the waiting
-- commands. It has no room for a block of the next one alone, or for a snapshot of that state.
abbrev pub LacksRoom : List ℕ → QueueValue → Type 0
LacksRoom content queue = IsFull queue.state (commands_of queue.waiting) content

-- whatever a queue is
abbrev pub IsAny : QueueValue → Type 0
IsAny queue = Unit {0}

-- an act is a command that a flush comes before, if the queue is so
abbrev pub IsFlush : (QueueValue → Type 0) → ℕ → QueueValue → Act → Type 0
IsFlush Such connection queue (Do op receipt) = (is_full connection queue ≡ true) × Such queue
IsFlush Such connection queue _ = ⊥

-- one of a connection's acts is such an act, after what those before it lead to
pub record ComeTo (connection : ℕ) (Such : ℕ → QueueValue → Act → Type 0) (start : Progress) (acts : List Act) : Type 0 where
  pub before : List Act
  pub act : Act
  pub behind : List Act
  pub split : acts ≡ before ++ act ∷ behind
  pub such : Such connection (fold (acted connection) start before).queue act
