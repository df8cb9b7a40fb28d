-- What keeps a worker from waiting, and for how long it waits.
use Rattle.std.specs.Prelude.{◌||◌, ◌+◌, ◌-◌, ◌^◌, ℕ, Bool, cond, length, min, nat_lt}
use Rattle.clients.specs.Lines.{is_over}
use Rattle.clients.specs.declared.clients.Clients.{Clients}
use Rattle.clients.specs.declared.clients.Outlook.{Outlook}
use Rattle.clients.specs.declared.clients.TheConstants.{LONGEST_LOOK, LONGEST_SLEEP}

-- a client of that desk stands in line for a turn, or goes on by itself
abbrev pub is_ready : Clients → Bool
is_ready c = nat_lt 0 (length c.lines.ready) || nat_lt 0 (length c.lines.again)

-- a client of that desk waits for the mark: for room, or for its next output to come under it
abbrev pub awaits_mark : Clients → Bool
awaits_mark c = nat_lt 0 (length c.lines.room.line + length c.lines.outputs.line)

-- this mark lets a client of that desk in
abbrev pub lets_in : ℕ → Clients → Bool
lets_in mark c = is_over mark c.lines.room || is_over mark c.lines.outputs

-- nothing is due at that desk before this moment
abbrev pub due_at : Clients → ℕ
due_at c = min c.timers.earliest c.retry

-- For how many milliseconds a worker waits at a moment. Not at all if somebody wants it. Else until a millisecond after the first moment at
-- which something is due, but no longer than it may before it looks again.
abbrev pub longest_wait : Outlook → ℕ → ℕ
longest_wait o now = cond o.is_wanted 0 (min (cond o.looks_soon LONGEST_LOOK LONGEST_SLEEP) (min (o.due - now + 1) (2 ^ 64 - 1)))
