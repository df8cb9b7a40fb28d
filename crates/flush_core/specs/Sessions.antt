-- What becomes of the outboxes of sessions when commands are executed.
use Rattle.std.specs.Prelude.{◌+◌, ◌&&◌, ◌++◌, ℕ, List, [], ◌∷◌, Option, Some, None, not, if◌then◌else◌}
use Rattle.command_core.specs.Commands.{CommandValue}
use Rattle.command_core.specs.Entries.{EntryValue}
use Rattle.broker_state.specs.States.{State, is_open}
use Rattle.broker_state.specs.Steps.{is_opening, step}
use Rattle.outbox_core.specs.Boxes.{SenderValue}
use Rattle.outbox_core.specs.Giving.{Kept, with_box}

-- a box is kept if one is brought
abbrev pub with_brought : Kept → ℕ → Option SenderValue → Kept
with_brought boxes session None = boxes
with_brought boxes session (Some box) = with_box boxes session box

-- If the command of that number opens the session of that number, the box that comes with it is kept for that session. A box that comes
-- with any other command is let go.
abbrev pub opened : Kept → ℕ → EntryValue SenderValue → Kept
opened boxes number entry = if is_opening entry.command.op then with_brought boxes number entry.outbox else boxes

-- the boxes after commands, the first of which has that number
abbrev pub boxes_after : ℕ → Kept → List (EntryValue SenderValue) → Kept
boxes_after number boxes [] = boxes
boxes_after number boxes (entry ∷ entries) = boxes_after (number + 1) (opened boxes number entry) entries

-- the session that a command ends, if it does: it was open before the command and isn't after it
abbrev pub ended_by : State → CommandValue → List ℕ
ended_by s c = if is_open s c.session && not (is_open (step s c) c.session) then c.session ∷ [] else []

-- the sessions that commands end, in turn
abbrev pub ended_of : State → List CommandValue → List ℕ
ended_of s [] = []
ended_of s (c ∷ commands) = ended_by s c ++ ended_of (step s c) commands
