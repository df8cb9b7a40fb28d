-- What contracts see of a worker's clients.
use Rattle.std.specs.Prelude.{◌≡◌, ◌≢◌, ◌||◌, ◌+◌, ◌-◌, ◌^◌, not, ℕ, Bool, true, false, [], Option, Some, None, MatchOption, cond, length, max, min, option_map, suc, zero}
use Rattle.std.specs.Option.{is_some}
use Rattle.clients.specs.declared.turned.Turned.{Turned}
use Rattle.clients.specs.declared.turned.Next.{Next}
use Rattle.clients.specs.declared.turned.Next.TheVariants.{Read, Write, Mark, Close, Memory}
use Rattle.clients.specs.Deadlines.{IsDue, freed_by, heard_by, held_up_by, parting_by, pinged_by, taken_by, unread_by}
use Rattle.clients.specs.declared.deadlines.Due.{Due}
use Rattle.clients.specs.declared.deadlines.Due.TheVariants as dues
use Rattle.clients.specs.declared.deadlines.Deadlines.{Deadlines}
use Rattle.clients.specs.declared.deadlines.Opening.{Opening}
use Rattle.clients.specs.declared.deadlines.Opening.TheVariants.{Open}
use Rattle.clients.specs.declared.read_budget.Reported.{Reported}
use Rattle.clients.specs.declared.read_budget.Reported.TheVariants.{Bytes, End}
use Rattle.clients.specs.declared.clients.ClientState.{ClientState}
use Rattle.clients.specs.declared.clients.ClientState.TheVariants.{Greeting, Refused, Seated, Away}
use Rattle.clients.specs.declared.lines.Lines.{Lines}
use Rattle.slab.specs.Slab.{get, slab_len, Updates}
use Rattle.clients.specs.Timers.{with_earlier, with_moment}
use Rattle.clients.specs.Turns.{IsNobody, going_on, woken}
use Rattle.clients.specs.declared.clients.Scheduled.{Scheduled}
use Rattle.clients.specs.declared.clients.Clients.{Clients}
use Rattle.clients.specs.declared.read_budget.ReadBudget.{ReadBudget}
use Rattle.mio.specs.declared.net.stream.TcpStream.{TcpStream}
use Rattle.ws_core.specs.declared.refusal.Farewell.{Farewell}
use Rattle.clients.specs.declared.wakers.TheConstants.{CLIENTS, SHORTAGE}
use Rattle.clients.specs.declared.timers.TheConstants.{NEVER}

-- the client that has a number
abbrev pub client_at : ℕ → Clients → Option Scheduled
client_at n c = get c.all n

-- no client yet, nobody in a line, and nothing to come
pub record IsEmpty (c : Clients) : Type 0 where
  pub nobody : (n : ℕ) → client_at n c ≡ None
  pub lines : IsNobody c.lines
  pub timers : (length c.timers.all ≡ CLIENTS) × (c.timers.earliest ≡ NEVER)
  pub retry : c.retry ≡ NEVER

-- A client has come, under the next number, and stands in line for a turn. It is to be looked at now, and among those that are looked through.
pub record Admits (now : ℕ) (old new : Clients) (client : Scheduled) : Type 0 where
  pub all : Updates old.all new.all old.all.vacant_key (Some client)
  pub lines : new.lines ≡ woken old.all.vacant_key old.lines
  pub timers : new.timers ≡ with_moment old.all.vacant_key now old.timers
  pub retry : new.retry ≡ old.retry
  pub reach : new.reach ≡ max old.reach (min (old.all.vacant_key + 1) (2 ^ 64 - 1))

-- A client has gone, and is not to be looked at; in lines its number may stand yet. Once there is none, no room is kept for any.
pub record Removes (old new : Clients) (n : ℕ) : Type 0 where
  pub all : Updates old.all new.all n None
  pub lines : new.lines ≡ old.lines
  pub timers : new.timers ≡ with_moment n NEVER old.timers
  pub retry : new.retry ≡ old.retry
  pub reach : new.reach ≡ old.reach
  pub nothing : slab_len new.all ≡ 0 → new.all.slots ≡ []

-- it sits at the desk
abbrev pub is_seated : ClientState → Bool
is_seated Seated = true
is_seated (Greeting greeting) = false
is_seated (Refused farewell) = false
is_seated Away = false

-- its handshake is under way
abbrev pub is_greeted : ClientState → Bool
is_greeted (Greeting greeting) = true
is_greeted (Refused farewell) = false
is_greeted Seated = false
is_greeted Away = false

-- where the client is that has a number
abbrev pub standing_of : Option Scheduled → ClientState
standing_of None = Away
standing_of (Some client) = client.state

abbrev pub state_at : ℕ → Clients → ClientState
state_at n c = standing_of (client_at n c)

-- one at the desk stays there while its turn lasts, and a handshake or an end is taken out
abbrev pub in_turn : ClientState → ClientState
in_turn Seated = Seated
in_turn (Greeting greeting) = Away
in_turn (Refused farewell) = Away
in_turn Away = Away

-- a client whose turn begins
abbrev pub begun : Scheduled → Scheduled
begun client = record client { state = in_turn client.state; is_short = false }

-- all other clients stay as they are
abbrev pub OthersStay : ℕ → Clients → Clients → Type 0
OthersStay n old new = (other : ℕ) → other ≢ n → client_at other new ≡ client_at other old

-- That client's turn has begun. Nothing else has changed but the lines.
pub record Begins (n : ℕ) (old new : Clients) : Type 0 where
  pub client : client_at n new ≡ option_map begun (client_at n old)
  pub others : OthersStay n old new
  pub rest : new ≡ record old { all = new.all; lines = new.lines }

-- so many milliseconds later; if no clock can tell that, a moment that does not come
abbrev pub later : ℕ → ℕ → ℕ
later now millis = min (now + millis) (2 ^ 64 - 1)

-- if something came of it in its turn, that is known
abbrev pub heard_if : Bool → ℕ → Deadlines → Deadlines
heard_if true now p = heard_by now p
heard_if false now p = p

-- what a client is waited for after a turn that came to this
abbrev pub waited_by : Next → (is_unread : Bool) → ℕ → Deadlines → Deadlines
waited_by Write is_unread now p = held_up_by now p
waited_by Close is_unread now p = parting_by now (freed_by now p)
waited_by _ true now p = unread_by p
waited_by _ false now p = freed_by now p

-- what is known of a client after a turn, if its socket has taken so many bytes
abbrev pub waited_for : Turned → (is_unread : Bool) → ℕ → ℕ → Scheduled → Deadlines
waited_for turned is_unread taken now client = waited_by turned.next is_unread now (taken_by taken now (heard_if turned.heard now client.deadlines))

-- its close was not waited for until now
abbrev pub parts_now : Option Scheduled → Bool
parts_now None = false
parts_now (Some client) = not (is_some client.deadlines.parting)

-- More of its bytes may be there of which the poll tells no more. A turn that came to this has read its client last, at the end of a
-- portion. Or it has closed it, before which nothing was heard.
abbrev pub has_more : Bool → Next → Option Scheduled → Bool
has_more has_rest Read client = has_rest
has_more has_rest (Mark mark) client = has_rest
has_more has_rest Close client = has_rest || parts_now client
has_more has_rest _ client = false

-- when it is to be looked at: once what is due then has come, or else now
abbrev pub look_at : Due → ℕ → ℕ
look_at (dues.In millis) now = later now millis
look_at _ now = now

-- when it is to be looked at after a turn, at the latest
pub record LooksBy (p : Deadlines) (now at : ℕ) : Type 0 where
  pub due : Due
  pub is : IsDue Open p now due
  pub moment : at ≡ look_at due now

-- when clients to which memory was refused try again, after a turn that came to this
abbrev pub retry_by : Next → ℕ → ℕ → ℕ
retry_by Memory retry now = min retry (later now SHORTAGE)
retry_by _ retry now = retry

-- that client is looked at by a moment that its turn asks for, or before
abbrev pub IsLookedAtBy : ℕ → Deadlines → ℕ → Clients → Clients → Type 0
IsLookedAtBy n p now old new = (at : ℕ) × LooksBy p now at × (new.timers ≡ with_earlier n at old.timers)

-- memory was refused in a turn that came to this
abbrev pub is_refused : Next → Bool
is_refused Memory = true
is_refused _ = false

-- a client after a turn, if its socket has taken so many bytes
abbrev pub client_after : Turned → (is_unread : Bool) → ℕ → ℕ → Scheduled → Scheduled
client_after turned is_unread taken now client = record client { deadlines = waited_for turned is_unread taken now client; is_short = is_refused turned.next }

-- After a turn a client is waited for as the turn says, and all others stay. A client that is gone is not waited for.
pub record IsWaitedFor (n : ℕ) (turned : Turned) (is_unread : Bool) (taken now : ℕ) (old new : Clients) : Type 0 where
  pub timers : MatchOption (client_at n old) (new.timers ≡ old.timers) (λ client. IsLookedAtBy n (waited_for turned is_unread taken now client) now old new)
  pub retry : MatchOption (client_at n old) (new.retry ≡ old.retry) (λ client. new.retry ≡ retry_by turned.next old.retry now)
  pub client : MatchOption (client_at n old) (new.all ≡ old.all) (λ client. Updates old.all new.all n (Some (client_after turned is_unread taken now client)))
  pub reach : new.reach ≡ old.reach

-- what is known of a client once what was due is done
abbrev pub done_by : Due → ℕ → Deadlines → Deadlines
done_by dues.Ping now p = pinged_by now p
done_by _ now p = p

-- When a client is to be looked at of which this is due: after its next turn if something is done, and never if it is given up.
abbrev pub moment_of : Due → ℕ → ℕ
moment_of dues.GivenUp now = NEVER
moment_of dues.Write now = later now 1
moment_of dues.Ping now = later now 1
moment_of (dues.In millis) now = later now millis

-- This is due of a client. Each ping counts, and the client is looked at next when something is due then.
pub record ComesDue (n : ℕ) (progress : Opening) (now : ℕ) (due : Due) (old new : Clients) (client : Scheduled) : Type 0 where
  pub is : IsDue progress client.deadlines now due
  pub done : Updates old.all new.all n (Some (record client { deadlines = done_by due now client.deadlines }))
  pub then : Due
  pub next : IsDue progress (done_by due now client.deadlines) now then
  pub timers : new.timers ≡ with_moment n (moment_of then now) old.timers
  pub same : new ≡ record old { all = new.all; timers = new.timers }

-- something comes of a client while its handshake is under way: the poll tells of bytes, or of the end
abbrev pub heard_in : Reported → ClientState → ℕ → Deadlines → Deadlines
heard_in Bytes (Greeting greeting) now p = heard_by now p
heard_in End (Greeting greeting) now p = heard_by now p
heard_in _ _ now p = p

abbrev pub heard_greeting : Reported → ℕ → Scheduled → Scheduled
heard_greeting reported now client = record client { deadlines = heard_in reported client.state now client.deadlines }

-- memory was refused in the last turn of the client that has a number
abbrev pub is_short : Option Scheduled → Bool
is_short None = false
is_short (Some client) = client.is_short

-- A client was refused: it goes on by itself, it is waited for as one whose close is, and it is looked at now.
pub record Parts (n : ℕ) (farewell : Farewell (ReadBudget TcpStream)) (now : ℕ) (old new : Clients) (client : Scheduled) : Type 0 where
  pub all : Updates old.all new.all n (Some (record client { state = Refused farewell; deadlines = parting_by now client.deadlines }))
  pub timers : new.timers ≡ with_moment n now old.timers
  pub same : new ≡ record old { all = new.all; timers = new.timers; lines = going_on n old.lines }

-- clients of so many numbers to which memory was refused stand in line for a turn, the lowest first
unfoldable pub woken_short : ℕ → Clients → Lines → Lines
woken_short zero c l = l
woken_short (suc n) c l = cond (is_short (client_at n c)) (woken n (woken_short n c l)) (woken_short n c l)
