-- For how long a worker waits for a client, by what has happened to it. Moments are in milliseconds of the worker's own clock.
use Rattle.std.specs.Prelude.{◌≡◌, ◌⊎◌, ℕ, Bool, true, false, Option, Some, None, ◌+◌, ◌-◌, ◌*◌, ◌/◌, ◌^◌, ◌≤◌, ◌<◌, ◌==◌, nat_lt, min, cond, not, ◌||◌, unwrap_or}
use Rattle.std.specs.Option.{is_some}
use Rattle.clients.specs.declared.deadlines.TheConstants.{LONGEST_PART, LONGEST_GREETING, LONGEST_GUEST, QUIET, PINGS, SLOWEST, MOST_UNREAD, LONGEST_WRITE, LONGEST_CLOSE}
use Rattle.clients.specs.declared.deadlines.Due.{Due}
use Rattle.clients.specs.declared.deadlines.Due.TheVariants.{GivenUp, Write, Ping, In}
use Rattle.clients.specs.declared.deadlines.Deadlines.{Deadlines}
use Rattle.clients.specs.declared.deadlines.Opening.{Opening}
use Rattle.clients.specs.declared.deadlines.Opening.TheVariants.{Greeting, Unopened, Open}

-- so long have passed since then
abbrev pub Passed : ℕ → ℕ → ℕ → Type 0
Passed span since now = since + span ≤ now

-- it came to a full server, is no ping that has its WebSocket, and is there for too long
abbrev pub Overstays : Opening → Deadlines → ℕ → Type 0
Overstays Greeting p now = (p.is_guest ≡ true) × Passed LONGEST_GUEST p.connected now
Overstays Unopened p now = ⊥
Overstays Open p now = ⊥

-- it says nothing between two parts of its handshake
abbrev pub SaysNoPart : Opening → Deadlines → ℕ → Type 0
SaysNoPart Greeting p now = Passed LONGEST_PART p.heard now
SaysNoPart Unopened p now = ⊥
SaysNoPart Open p now = ⊥

-- it is connected and opens no session, though it is read
abbrev pub OpensNothing : Opening → Deadlines → ℕ → Type 0
OpensNothing Greeting p now = (p.is_unread ≡ false) × Passed LONGEST_GREETING p.connected now
OpensNothing Unopened p now = (p.is_unread ≡ false) × Passed LONGEST_GREETING p.connected now
OpensNothing Open p now = ⊥

-- Something has waited for it, and its socket took nothing, for so long before it was last offered that.
abbrev pub TakesNothing : Option ℕ → Deadlines → Type 0
TakesNothing None p = ⊥
TakesNothing (Some since) p = Passed LONGEST_WRITE since p.offered × Passed LONGEST_WRITE p.took p.offered

-- its close is waited for and doesn't come
abbrev pub NeverCloses : Option ℕ → ℕ → Type 0
NeverCloses None now = ⊥
NeverCloses (Some since) now = Passed LONGEST_CLOSE since now

-- Its silence counts: it has its WebSocket, so that it answers pings, nothing waits to be written, no close is waited for, and it is read.
abbrev pub counts : Opening → Option ℕ → Option ℕ → (is_unread : Bool) → Bool
counts Greeting held_up parting is_unread = false
counts Unopened None None is_unread = not is_unread
counts Open None None is_unread = not is_unread
counts _ _ _ _ = false

-- in how many milliseconds a client reads so many bytes if it reads as slowly as it may: 300,000 at most
abbrev pub reading_time : ℕ → ℕ
reading_time bytes = min bytes MOST_UNREAD * 1000 / SLOWEST

-- For how long it may be silent before a ping, and after one: then it first has to read what its socket took before.
abbrev pub wait_of : Deadlines → ℕ
wait_of p = cond (p.pings == 0) QUIET (QUIET + reading_time p.unanswered)

-- since when it is silent: since something came from it, or else since it was sent the last ping
abbrev pub silent_since : Deadlines → ℕ
silent_since p = cond (p.pings == 0) p.heard p.pinged

-- it has been silent for so long, and in that time nothing waited to be written, and it was read
abbrev pub IsQuiet : Deadlines → ℕ → Type 0
IsQuiet p now = Passed (wait_of p) (silent_since p) now × Passed (wait_of p) p.freed now

-- it was sent all pings, and has answered none
abbrev pub IsSilent : Opening → Deadlines → ℕ → Type 0
IsSilent progress p now = (counts progress p.held_up p.parting p.is_unread ≡ true) × (PINGS ≤ p.pings) × IsQuiet p now

-- It is to be given up.
abbrev pub IsGivenUp : Opening → Deadlines → ℕ → Type 0
IsGivenUp progress p now = Overstays progress p now ⊎ SaysNoPart progress p now ⊎ OpensNothing progress p now ⊎ TakesNothing p.held_up p ⊎ NeverCloses p.parting now ⊎ IsSilent progress p now

-- Something has waited for it, and its socket took nothing, for so long: that is to be offered once more.
abbrev pub IsWriteDue : Option ℕ → Deadlines → ℕ → Type 0
IsWriteDue None p now = ⊥
IsWriteDue (Some since) p now = Passed LONGEST_WRITE since now × Passed LONGEST_WRITE p.took now

-- it has been silent, and not all pings were sent
abbrev pub IsPingDue : Opening → Deadlines → ℕ → Type 0
IsPingDue progress p now = (counts progress p.held_up p.parting p.is_unread ≡ true) × (p.pings < PINGS) × IsQuiet p now

-- something is to be done
abbrev pub IsSomethingDue : Opening → Deadlines → ℕ → Type 0
IsSomethingDue progress p now = IsGivenUp progress p now ⊎ IsWriteDue p.held_up p now ⊎ IsPingDue progress p now

-- From now on that is not so for so long, and then it is. If no clock can tell that moment, it need not be.
pub record Until (Holds : ℕ → Type 0) (now left : ℕ) : Type 0 where
  pub at_once : left ≡ 0 → Holds now
  pub not_before : (then : ℕ) → now ≤ then → then < now + left → Holds then → ⊥
  pub by_then : Holds (now + left) ⊎ (2 ^ 64 - 1 ≤ now + left)

-- What is due of a client. It is given up exactly if it is to be. Or else what waits is offered, or a ping is sent, exactly if that is
-- to be. Or else nothing is due, and for so long nothing will be.
abbrev pub IsDue : Opening → Deadlines → ℕ → Due → Type 0
IsDue progress p now GivenUp = IsGivenUp progress p now
IsDue progress p now Write = IsWriteDue p.held_up p now × (IsGivenUp progress p now → ⊥)
IsDue progress p now Ping = IsPingDue progress p now × (IsGivenUp progress p now → ⊥) × (IsWriteDue p.held_up p now → ⊥)
IsDue progress p now (In millis) = (0 < millis) × Until (IsSomethingDue progress p) now millis

-- a client was connected just now, to a full server if it is a guest
abbrev pub fresh : (is_guest : Bool) → ℕ → Deadlines
fresh is_guest now = record { connected = now; is_guest = is_guest; heard = now; pings = 0; pinged = now; took = now; unanswered = 0; taken = 0; held_up = None; freed = now; is_unread = false; offered = now; parting = None }

-- something came from it
abbrev pub heard_by : ℕ → Deadlines → Deadlines
heard_by now p = record p { heard = now; pings = 0; unanswered = 0 }

-- it was sent a ping
abbrev pub pinged_by : ℕ → Deadlines → Deadlines
pinged_by now p = record p { pings = min (p.pings + 1) (2 ^ 64 - 1); pinged = now }

-- its socket has taken so many bytes in all
abbrev pub taken_by : ℕ → ℕ → Deadlines → Deadlines
taken_by taken now p = cond (nat_lt p.taken taken) (record p { took = now; unanswered = min (p.unanswered + (taken - p.taken)) (2 ^ 64 - 1); taken = taken }) p

-- something waits to be written, and was offered to its socket
abbrev pub held_up_by : ℕ → Deadlines → Deadlines
held_up_by now p = record p { held_up = Some (unwrap_or p.held_up now); offered = now }

-- nothing waits to be written, and it is read: since now, if that was not so
abbrev pub freed_by : ℕ → Deadlines → Deadlines
freed_by now p = record p { held_up = None; is_unread = false; freed = cond (is_some p.held_up || p.is_unread) now p.freed }

-- nothing waits to be written, and it isn't read
abbrev pub unread_by : Deadlines → Deadlines
unread_by p = record p { held_up = None; is_unread = true }

-- its close is waited for
abbrev pub parting_by : ℕ → Deadlines → Deadlines
parting_by now p = record p { parting = Some (unwrap_or p.parting now) }
