-- Which client has a turn, and what comes of one.
use Rattle.std.specs.Prelude.{◌≡◌, ℕ, ◌&&◌, Bool, false, [], Option, Some, None, cond, eqb, not, slice_get}
use Rattle.clients.specs.Lines.{WaitingValue, is_over, joined, may_join, waiting, waiting_first, without_first}
use Rattle.clients.specs.declared.lines.Lines.{Lines}
use Rattle.clients.specs.declared.turned.Turned.{Turned}
use Rattle.clients.specs.declared.turned.Next.{Next}
use Rattle.clients.specs.declared.turned.Next.TheVariants.{Go, Room, Mark, Close}

-- that client stands in line for a turn, unless it goes on by itself: then it keeps its place there
abbrev pub woken : ℕ → Lines → Lines
woken n l = cond (may_join n l.again) (record l { ready = joined n l.ready }) l

-- that client goes on by itself, behind all that do, unless it stands in line for a turn: then it keeps its place there
abbrev pub going_on : ℕ → Lines → Lines
going_on n l = cond (may_join n l.ready) (record l { again = joined n l.again }) l

-- the client that a mark lets in: the first of those that wait for room, or else of those whose next output waits for
-- the mark
abbrev pub let_in : ℕ → Lines → Option ℕ
let_in mark l = cond (is_over mark l.room) (slice_get l.room.line 0) (cond (is_over mark l.outputs) (slice_get l.outputs.line 0) None)

-- the lines once it is let in: it waits no more, and one that waited for room has its place in front while its turn
-- lasts
abbrev pub after_let_in : ℕ → Lines → Lines
after_let_in mark l =
    cond (is_over mark l.room)
    (record l { room = without_first l.room; let_in = slice_get l.room.line 0 })
    (record l { outputs = cond (is_over mark l.outputs) (without_first l.outputs) l.outputs; let_in = None })

-- it is that client
abbrev pub is_that : ℕ → Option ℕ → Bool
is_that n None = false
is_that n (Some other) = eqb n other

-- a client that was let in and could put nothing into the ring keeps its place in front
abbrev pub keeps_place : ℕ → Turned → Lines → Bool
keeps_place n turned l = is_that n l.let_in && not turned.appended

-- that client waits for room, in front or behind all others
abbrev pub refused : Bool → ℕ → ℕ → WaitingValue → WaitingValue
refused in_front n mark w = cond in_front (waiting_first n mark w) (waiting n mark w)

-- the lines after a turn of that client which came to this, if it keeps its place in front or does not
abbrev pub settled_by : Next → Bool → Bool → ℕ → Lines → Lines
settled_by Go heard in_front n l = going_on n l
settled_by Close heard in_front n l = cond heard (going_on n l) l
settled_by (Room mark) heard in_front n l = record l { room = refused in_front n mark l.room }
settled_by (Mark mark) heard in_front n l = record l { outputs = waiting n mark l.outputs }
settled_by _ heard in_front n l = l

-- the lines after a turn of that client
abbrev pub settled : ℕ → Turned → Lines → Lines
settled n turned l = settled_by turned.next turned.heard (keeps_place n turned l) n (record l { let_in = None })

-- that client goes on by itself if more of its bytes may be there
abbrev pub gone_on : Bool → ℕ → Lines → Lines
gone_on has_rest n l = cond has_rest (going_on n l) l

-- nobody stands in any line
pub record IsNobody (l : Lines) : Type 0 where
  pub ready : l.ready ≡ []
  pub again : l.again ≡ []
  pub room : l.room.line ≡ []
  pub outputs : l.outputs.line ≡ []
  pub let_in : l.let_in ≡ None
