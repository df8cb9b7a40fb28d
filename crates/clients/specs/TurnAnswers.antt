-- What a turn of a connection answers.
use Rattle.std.specs.Prelude.{◌≡◌, ◌<◌, ◌≤◌, ℕ, List, [], Bool, true, false, Option, None, IsSome, length}
use Rattle.command_core.specs.Outs.{OutValue}
use Rattle.claim_core.specs.Seats.{SessionSeatValue}
use Rattle.clients.specs.Acts.{all_of}
use Rattle.clients.specs.declared.turned.Ended.{Ended}
use Rattle.clients.specs.declared.progress.Stage.{Stage}
use Rattle.clients.specs.declared.progress.Stage.TheVariants.{Running, GivingUp, Closing, Parting, Leaving, Over}
use Rattle.clients.specs.declared.turned.Outcome.{Outcome}
use Rattle.clients.specs.declared.turned.Outcome.TheVariants as steps
use Rattle.clients.specs.declared.relaying.Kept.{Kept}
use Rattle.clients.specs.declared.relaying.Kept.TheVariants as kept
use Rattle.clients.specs.Boxes.{BoxEntry}
use Rattle.clients.specs.declared.client.Client.{Client}
use Rattle.clients.specs.declared.turned.Next.{Next}
use Rattle.clients.specs.declared.turned.Next.TheVariants as next
use Rattle.clients.specs.declared.turned.Turned.{Turned}

-- whether commands were appended
abbrev pub Appended : Bool → SessionSeatValue → SessionSeatValue → Type 0
Appended true old new = length old.own < length new.own
Appended false old new = new.own ≡ old.own

-- if nothing was heard of the client, no byte came
abbrev pub Heard : {L : Type 0} → (L → Option (List ℕ)) → Bool → L → L → Type 0
Heard received true old new = Unit {0}
Heard received false old new = received new ≡ received old

-- a connection that has not ended
abbrev pub GoesOnYet : Stage → Type 0
GoesOnYet Running = Unit {0}
GoesOnYet GivingUp = Unit {0}
GoesOnYet (Closing ended) = Unit {0}
GoesOnYet (Parting ended) = Unit {0}
GoesOnYet Leaving = Unit {0}
GoesOnYet (Over ended) = ⊥

-- the next output is that one's, and was not under the mark
abbrev pub WaitsFor : ℕ → Kept → Type 0
WaitsFor mark it = (out : OutValue) × (it ≡ kept.Waits out) × (mark ≡ out.number)

-- nothing of what its client asked for is left to be done
abbrev pub IsSatisfied : {B : Type 0} → Client B → Type 0
IsSatisfied client = (client.waiting ≡ None) × (all_of client.acts ≡ [])

-- What a connection waits for if that is said. It has ended exactly if that is said. It waits for room only if an entry does. It waits for
-- a mark over its next output only if that output is kept. It waits for that, or for bytes of its client, only if it runs and nothing of
-- what its client asked for is left to be done. It waits for its socket to take bytes only if it runs, and for its peer's close only after
-- its own.
abbrev pub Awaits : {B : Type 0} → Next → Client B → Type 0
Awaits next.Go client = GoesOnYet client.stage
Awaits next.Read client = (client.stage ≡ Running) × IsSatisfied client
Awaits next.Write client = client.stage ≡ Running
Awaits (next.Room mark) client = GoesOnYet client.stage × IsSome client.waiting
Awaits (next.Mark mark) client = (client.stage ≡ Running) × IsSatisfied client × WaitsFor mark client.kept
Awaits next.Memory client = GoesOnYet client.stage
Awaits next.Close client = (ended : Ended) × (client.stage ≡ Parting ended)
Awaits (next.Over ended) client = client.stage ≡ Over ended

-- a turn's answer
pub record Answers {B L : Type 0} (received : L → Option (List ℕ)) (turned : Turned) (old : SessionSeatValue) (from : L) (is : Client B) (new : SessionSeatValue) (to : L) : Type 0 where
  pub appended : Appended turned.appended old new
  pub heard : Heard received turned.heard from to
  pub next : Awaits turned.next is

-- one act appends a command exactly if it says so
abbrev pub Grows : Outcome → SessionSeatValue → SessionSeatValue → Type 0
Grows steps.Appended old new = length old.own < length new.own
Grows steps.Done old new = new.own ≡ old.own
Grows (steps.Room mark) old new = new.own ≡ old.own
Grows steps.Memory old new = new.own ≡ old.own
Grows steps.Rest old new = new.own ≡ old.own

-- no entry was handled
abbrev pub IsQuiet : Outcome → Type 0
IsQuiet steps.Done = Unit {0}
IsQuiet steps.Memory = Unit {0}
IsQuiet steps.Appended = ⊥
IsQuiet (steps.Room mark) = ⊥
IsQuiet steps.Rest = ⊥

-- what the last act of a turn came to: if it found no room, an entry waits
abbrev pub Leaves : Outcome → Option BoxEntry → Type 0
Leaves (steps.Room mark) waiting = IsSome waiting
Leaves steps.Appended waiting = Unit {0}
Leaves steps.Done waiting = Unit {0}
Leaves steps.Memory waiting = Unit {0}
Leaves steps.Rest waiting = Unit {0}

-- if an act found no room, its seat has seen the mark over which there may be some
abbrev pub IsSeen : Outcome → SessionSeatValue → Type 0
IsSeen (steps.Room mark) seat = mark ≤ seat.seen
IsSeen steps.Appended seat = Unit {0}
IsSeen steps.Done seat = Unit {0}
IsSeen steps.Memory seat = Unit {0}
IsSeen steps.Rest seat = Unit {0}

-- what a connection waits for, by what the last act of its turn came to
abbrev pub AwaitsBy : {B : Type 0} → Next → Outcome → Client B → Type 0
AwaitsBy next.Go last client = GoesOnYet client.stage
AwaitsBy next.Read last client = (client.stage ≡ Running) × IsSatisfied client
AwaitsBy next.Write last client = client.stage ≡ Running
AwaitsBy (next.Room mark) last client = GoesOnYet client.stage × (last ≡ steps.Room mark)
AwaitsBy (next.Mark mark) last client = (client.stage ≡ Running) × IsSatisfied client × WaitsFor mark client.kept
AwaitsBy next.Memory last client = GoesOnYet client.stage
AwaitsBy next.Close last client = (ended : Ended) × (client.stage ≡ Parting ended)
AwaitsBy (next.Over ended) last client = client.stage ≡ Over ended

-- what is to come first, by what the last act came to
abbrev pub IsPressing : Next → Outcome → Type 0
IsPressing next.Go last = Unit {0}
IsPressing next.Memory last = Unit {0}
IsPressing (next.Room mark) last = last ≡ steps.Room mark
IsPressing (next.Mark mark) last = ⊥
IsPressing next.Read last = ⊥
IsPressing next.Write last = ⊥
IsPressing next.Close last = ⊥
IsPressing (next.Over ended) last = ⊥

-- what a connection that has nothing to do waits for
abbrev pub IsRest : {B : Type 0} → Next → Client B → Type 0
IsRest next.Read client = Unit {0}
IsRest (next.Mark mark) client = WaitsFor mark client.kept
IsRest (next.Room mark) client = ⊥
IsRest next.Go client = ⊥
IsRest next.Memory client = ⊥
IsRest next.Write client = ⊥
IsRest next.Close client = ⊥
IsRest (next.Over ended) client = ⊥
