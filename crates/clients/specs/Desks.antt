-- What contracts see of a desk.
use Rattle.std.specs.Prelude.{◌≡◌, ◌≢◌, ◌+◌, ◌-◌, ◌<◌, ◌≤◌, ℕ, List, ◌++◌, Option, Some, None, IsSome, true, map, max, length, replicate, get_or, slice_get}
use Rattle.std.specs.List.{sum_by}
use Rattle.claim_core.specs.Seats.{SessionSeatValue}
use Rattle.clients.specs.Concluding.{Concludes}
use Rattle.clients.specs.Connections.{ConnectionValue, connection_of}
use Rattle.clients.specs.declared.progress.Progress.{Progress}
use Rattle.clients.specs.declared.desk.NotAdmitted.{NotAdmitted}
use Rattle.clients.specs.declared.desk.NotAdmitted.TheVariants.{Memory, Taken}
use Rattle.clients.specs.declared.desk.Seated.{Seated}
use Rattle.clients.specs.declared.turned.Turned.{Turned}
use Rattle.clients.specs.TurnAnswers.{Answers}
use Rattle.clients.specs.Continues.{AreSaid}
use Rattle.clients.specs.Effects.{Effect, commands_of, told_of}
use Rattle.clients.specs.Conversations.{Converse, Speaks}
use Rattle.clients.specs.Halting.{FindsEnd, HasHalted}
use Rattle.clients.specs.Histories.{Heeds, Idles}
use Rattle.clients.specs.Places.{ChangedAt, HasLimit, counted_at, is_over, progress_at}
use Rattle.clients.specs.Clients.{IsNew, Served, Unserved, number_at}
use Rattle.clients.specs.SessionBytes.{IsEvicted}

-- The seat as it was when the desk was made, as it is, what sits at the places, and how many bytes all sessions there may have together in
-- a snapshot of the broker.
pub record DeskValue (B L : Type 0) : Type 0 where
  pub before : SessionSeatValue
  pub seat : SessionSeatValue
  pub places : List (Option (Seated B L))
  pub limit : ℕ

abbrev pub desk : {B L : Type 0} → ℕ → SessionSeatValue → SessionSeatValue → List (Option (Seated B L)) → DeskValue B L
desk limit before seat places = record { before = before; seat = seat; places = places; limit = limit }

-- the connection that sits there, if one does
abbrev pub seated_at : {B L : Type 0} → List (Option (Seated B L)) → ℕ → Option (Seated B L)
seated_at places at = get_or places at None

-- how many bytes are counted for all sessions
abbrev pub counted_in : {B L : Type 0} → List (Option (Seated B L)) → ℕ
counted_in places = sum_by counted_at places

-- This is counted for all sessions, which are within what they may have together; each knows that.
pub record IsCounted {B L : Type 0} (limit counted : ℕ) (places : List (Option (Seated B L))) : Type 0 where
  pub sum : counted ≡ counted_in places
  pub within : counted ≤ limit
  pub limits : (k : ℕ) → HasLimit limit (seated_at places k)

-- how far the conversations have come
abbrev pub stand_of : {B L : Type 0} → List (Option (Seated B L)) → List Progress
stand_of places = map progress_at places

-- the conversations of its connections are what its seat's own commands say
pub record IsDesk {B L : Type 0} (before seat : SessionSeatValue) (places : List (Option (Seated B L))) : Type 0 where
  pub ring : seat.ring ≡ before.ring
  pub number : seat.number ≡ before.number
  pub speaks : Speaks before.own seat.own (stand_of places)

-- Every other place stays as it was: its connection, its outbox, the output that it keeps, and its link with what was sent.
pub record Others {B L : Type 0} (old new : List (Option (Seated B L))) (at : ℕ) : Type 0 where
  pub count : length new ≡ length old
  pub others : (k : ℕ) → k ≢ at → slice_get new k ≡ slice_get old k

-- this connection sits there
abbrev pub SitsAt : {B L : Type 0} → List (Option (Seated B L)) → ℕ → Seated B L → Type 0
SitsAt places at seated = slice_get places at ≡ Some (Some seated)

-- These effects were done at that place. The seat got the commands among them, which are of its own session. Its client was sent the
-- frames among them, beside outputs of that session. They are what it has next of what its bytes ask for. Its session might have what
-- the others left. Its conversation ends by its commands, or by an ERROR that its client is sent. It is stopped only if the seat has found that the ring takes nothing more. The turn answers so.
pub record Turns {B L : Type 0} (sent : L → Option (List (List ℕ))) (received : L → Option (List ℕ)) (old new : DeskValue B L) (at : ℕ) (turned : Turned) : Type 0 where
  pub was : Seated B L
  pub is : Seated B L
  pub sat : SitsAt old.places at was
  pub sits : SitsAt new.places at is
  pub effects : List Effect
  pub limit : new.limit ≡ old.limit
  pub added : new.seat.own ≡ old.seat.own ++ commands_of effects
  pub of_it : AreSaid is.client.progress (commands_of effects)
  pub served : Served sent (told_of effects) was.client was.link is.client is.link
  pub heeds : Heeds received was.client was.link is.client is.link effects
  pub room : is.client.footprint.room + counted_in old.places ≡ old.limit + was.client.footprint.counted
  pub concludes : Concludes sent (connection_of was.client) was.link (connection_of is.client) is.link (commands_of effects)
  pub evicted : IsEvicted is.client.footprint.cut → IsEvicted was.client.footprint.cut
  pub halts : (HasHalted was.client.stage → FindsEnd old.seat) → HasHalted is.client.stage → FindsEnd new.seat
  pub answers : Answers received turned old.seat was.link is.client new.seat is.link

-- no two places have one session
abbrev pub AreApart : {B L : Type 0} → List (Option (Seated B L)) → Type 0
AreApart places = (i j n : ℕ) (s t : Seated _ _) → SitsAt places i s → SitsAt places j t → number_at s.client ≡ Some n → number_at t.client ≡ Some n → i ≡ j

-- What holds for each desk: after what was its seat's own before, what belongs to each session is one conversation, and no two
-- connections have one session. All sessions together are counted for no more than they may have.
pub record TalkApart {B L : Type 0} (d : DeskValue B L) : Type 0 where
  pub converse : Converse d.before.own d.seat.own
  pub apart : AreApart d.places
  pub within : counted_in d.places ≤ d.limit
  pub limits : (k : ℕ) → HasLimit d.limit (seated_at d.places k)

-- the same places, and free ones up to that
abbrev pub reaching : {B L : Type 0} → ℕ → List (Option (Seated B L)) → List (Option (Seated B L))
reaching at places = places ++ replicate (at + 1 - length places) None

-- The link's client sits at that place, where nobody sat, and was not heard yet. At any other place nothing has changed, and places were
-- added up to that one alone.
pub record Admits {B L : Type 0} (old new : DeskValue B L) (link : L) (at : ℕ) : Type 0 where
  pub seated : Seated B L
  pub before : new.before ≡ old.before
  pub limit : new.limit ≡ old.limit
  pub seat : new.seat ≡ old.seat
  pub was_free : seated_at old.places at ≡ None
  pub sits : SitsAt new.places at seated
  pub link_is : seated.link ≡ link
  pub is_new : IsNew old.limit seated.client
  pub others : (k : ℕ) → k ≢ at → seated_at new.places k ≡ seated_at old.places k
  pub count : length new.places ≡ max (length old.places) (at + 1)

-- why no client was taken in at that place
abbrev pub IsWhy : {B L : Type 0} → List (Option (Seated B L)) → ℕ → NotAdmitted → Type 0
IsWhy places at Taken = IsSome (seated_at places at)
IsWhy places at Memory = seated_at places at ≡ None

-- the same places without the free ones at their end
pub record Trims {X : Type 0} (old new : List (Option X)) : Type 0 where
  pub free : ℕ
  pub whole : old ≡ new ++ replicate free None
  pub last : (k : ℕ) → slice_get new k ≡ Some None → k + 1 < length new

-- What sat at that place had ended, and sits there no more. At any other place nothing has changed. There is no place after the last one
-- at which somebody sits.
pub record Leaves {B L : Type 0} (old new : DeskValue B L) (at : ℕ) (link : L) : Type 0 where
  pub was : Seated B L
  pub before : new.before ≡ old.before
  pub limit : new.limit ≡ old.limit
  pub seat : new.seat ≡ old.seat
  pub sat : SitsAt old.places at was
  pub over : is_over was.client.stage ≡ true
  pub link_is : link ≡ was.link
  pub free : seated_at new.places at ≡ None
  pub others : (k : ℕ) → k ≢ at → seated_at new.places k ≡ seated_at old.places k
  pub count : length new.places ≤ length old.places
  pub last : (k : ℕ) → slice_get new.places k ≡ Some None → k + 1 < length new.places

-- At that place the connection is changed so, if one sits there, and nothing else is.
pub record Changes {B L : Type 0} (f : ConnectionValue → ConnectionValue) (old new : DeskValue B L) (at : ℕ) : Type 0 where
  pub before : new.before ≡ old.before
  pub limit : new.limit ≡ old.limit
  pub seat : new.seat ≡ old.seat
  pub others : Others old.places new.places at
  pub changed : ChangedAt f (seated_at old.places at) (seated_at new.places at)

-- Nothing was said or sent at any place. Nothing has changed but what the connection at that place is told, which goes on from there with
-- no effect.
pub record Touches {B L : Type 0} (sent : L → Option (List (List ℕ))) (received : L → Option (List ℕ)) (old new : DeskValue B L) (at : ℕ) : Type 0 where
  pub before : new.before ≡ old.before
  pub limit : new.limit ≡ old.limit
  pub seat : new.seat ≡ old.seat
  pub others : Others old.places new.places at
  pub unserved : (was : Seated B L) → SitsAt old.places at was → (is : Seated B L) × SitsAt new.places at is × Unserved sent was.client was.link is.client is.link × Idles received was.client was.link is.client is.link
