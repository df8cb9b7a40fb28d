-- What there may be to read of a client's socket.
use Rattle.std.specs.Prelude.{◌&&◌, ℕ, Bool, true, false, Result, Ok, Err, cond, nat_lt}
use Rattle.std.specs.IoError.{error_kind}
use Rattle.std.specs.declared.io.Error.{Error}
use Rattle.std.specs.declared.io.ErrorKind.{ErrorKind}
use Rattle.std.specs.declared.io.ErrorKind.TheVariants as kinds
use Rattle.mio.specs.Event.{is_error, is_read_closed, is_readable, is_write_closed}
use Rattle.mio.specs.declared.event.event.Event.{Event}
use Rattle.clients.specs.declared.read_budget.Supply.{Supply}
use Rattle.clients.specs.declared.read_budget.Supply.TheVariants.{Unknown, Dry, Ending}
use Rattle.clients.specs.declared.read_budget.Reported.{Reported}
use Rattle.clients.specs.declared.read_budget.Reported.TheVariants.{Nothing, Bytes, End}

-- what the poll tells of a socket that is to be read: its end or a failure, or else bytes
abbrev pub reported_by : Event → Reported
reported_by event = cond (is_read_closed event) End (cond (is_write_closed event) End (cond (is_error event) End (cond (is_readable event) Bytes Nothing)))

-- what it has told since the last read, once it has told this after that: an end stays, and so do bytes unless an end comes
abbrev pub reported_after : Reported → Reported → Reported
reported_after End reported = End
reported_after Bytes End = End
reported_after Bytes _ = Bytes
reported_after Nothing reported = reported

-- a read does not ask it
abbrev pub is_dry : Supply → Bool
is_dry Unknown = false
is_dry Dry = true
is_dry Ending = false

-- what there may be to read once the poll has told this; of an end it tells once
abbrev pub with_reported : Reported → Supply → Supply
with_reported Nothing supply = supply
with_reported End supply = Ending
with_reported Bytes Unknown = Unknown
with_reported Bytes Dry = Unknown
with_reported Bytes Ending = Ending

-- there is nothing to read now
abbrev pub is_would_block : ErrorKind → Bool
is_would_block kinds.WouldBlock = true
is_would_block _ = false

-- A read that asked for so many bytes has found that there are no more now: it gave some, but fewer, or there were none. One that gave
-- no byte has found the end.
abbrev pub leaves_nothing : ℕ → Result ℕ Error → Bool
leaves_nothing asked (Ok count) = nat_lt 0 count && nat_lt count asked
leaves_nothing asked (Err error) = is_would_block (error_kind error)

-- what there may be to read after a read that asked for so many bytes: nothing if it has found that, unless the end was told
abbrev pub drained : ℕ → Result ℕ Error → Supply → Supply
drained asked result Unknown = cond (leaves_nothing asked result) Dry Unknown
drained asked result Dry = Dry
drained asked result Ending = Ending
