-- What is done at a place of a desk.
use Rattle.std.specs.Prelude.{◌≡◌, ◌≤◌, ◌+◌, ◌++◌, ℕ, List, Bool, true, false, Option, Some, None, is_some}
use Rattle.clients.specs.Concluding.{Concludes}
use Rattle.clients.specs.Connections.{ConnectionValue, connection_of}
use Rattle.clients.specs.declared.footprint.Cut.{Cut}
use Rattle.clients.specs.declared.footprint.Cut.TheVariants as cuts
use Rattle.clients.specs.declared.progress.Progress.{Progress}
use Rattle.clients.specs.declared.progress.Progress.TheVariants.{Gone}
use Rattle.clients.specs.declared.desk.Seated.{Seated}
use Rattle.claim_core.specs.Seats.{SessionSeatValue}
use Rattle.clients.specs.declared.turned.Turned.{Turned}
use Rattle.clients.specs.TurnAnswers.{Answers}
use Rattle.clients.specs.Effects.{Effect, commands_of, told_of}
use Rattle.clients.specs.Halting.{FindsEnd, HasHalted}
use Rattle.clients.specs.Histories.{Heeds, Idles}
use Rattle.clients.specs.SessionBytes.{IsEvicted}
use Rattle.clients.specs.declared.progress.Stage.{Stage}
use Rattle.clients.specs.declared.progress.Stage.TheVariants.{Running, GivingUp, Closing, Parting, Leaving, Over}
use Rattle.clients.specs.Clients.{Served, Unserved, number_at}
use Rattle.ws_core.specs.Sending.{IsPinged}
use Rattle.ws_core.specs.declared.link.LinkFault.{LinkFault}

-- how far the conversation has come of what sits at a place
abbrev pub progress_at : {B L : Type 0} → Option (Seated B L) → Progress
progress_at None = Gone
progress_at (Some seated) = seated.client.progress

-- The connection there goes on. Its client is served, and what its seat got is what it has next of what its client's bytes ask for. The
-- turn answers so. Its session might have so many bytes.
pub record ServedAt {B L : Type 0} (sent : L → Option (List (List ℕ))) (received : L → Option (List ℕ)) (room : ℕ) (old : Option (Seated B L)) (before : SessionSeatValue) (new : Option (Seated B L)) (after : SessionSeatValue) (turned : Turned) : Type 0 where
  pub was : Seated B L
  pub is : Seated B L
  pub sat : old ≡ Some was
  pub sits : new ≡ Some is
  pub effects : List Effect
  pub added : after.own ≡ before.own ++ commands_of effects
  pub served : Served sent (told_of effects) was.client was.link is.client is.link
  pub heeds : Heeds received was.client was.link is.client is.link effects
  pub has_room : is.client.footprint.room ≡ room
  pub concludes : Concludes sent (connection_of was.client) was.link (connection_of is.client) is.link (commands_of effects)
  pub evicted : IsEvicted is.client.footprint.cut → IsEvicted was.client.footprint.cut
  pub halts : (HasHalted was.client.stage → FindsEnd before) → HasHalted is.client.stage → FindsEnd after
  pub answers : Answers received turned before was.link is.client after is.link

-- how many bytes are counted for the session at a place
abbrev pub counted_at : {B L : Type 0} → Option (Seated B L) → ℕ
counted_at None = 0
counted_at (Some seated) = seated.client.footprint.counted

-- the session at a place knows how many bytes all of its desk may have together
abbrev pub HasLimit : {B L : Type 0} → ℕ → Option (Seated B L) → Type 0
HasLimit limit None = Unit {0}
HasLimit limit (Some seated) = seated.client.footprint.limit ≡ limit

-- so many bytes are counted for all sessions of its desk, no more than they may have, and among them those of the session at a place
abbrev pub KeepsWithin : {B L : Type 0} → (limit counted : ℕ) → Option (Seated B L) → Type 0
KeepsWithin limit counted place = (counted_at place ≤ counted) × (counted ≤ limit) × HasLimit limit place

-- what is counted for all has changed by what is counted for that session
abbrev pub Recounts : {B L : Type 0} → (limit counted : ℕ) → Option (Seated B L) → ℕ → Option (Seated B L) → Type 0
Recounts limit counted old recounted new = (recounted + counted_at old ≡ counted + counted_at new) × KeepsWithin limit recounted new

-- it has ended
abbrev pub is_over : Stage → Bool
is_over Running = false
is_over GivingUp = false
is_over (Closing ended) = false
is_over (Parting ended) = false
is_over Leaving = false
is_over (Over ended) = true

-- its link is over
abbrev pub has_no_link : Stage → Bool
has_no_link Running = false
has_no_link GivingUp = false
has_no_link (Closing ended) = false
has_no_link (Parting ended) = false
has_no_link Leaving = true
has_no_link (Over ended) = true

-- the connection that sits at a place has ended
abbrev pub is_over_at : {B L : Type 0} → Option (Seated B L) → Bool
is_over_at None = false
is_over_at (Some seated) = is_over seated.client.stage

-- the connection that sits at a place has opened its session
abbrev pub is_open_at : {B L : Type 0} → Option (Seated B L) → Bool
is_open_at None = false
is_open_at (Some seated) = is_some (number_at seated.client)

-- a connection is changed so, and nothing else of what sits there
pub record IsChanged {B L : Type 0} (f : ConnectionValue → ConnectionValue) (was is : Seated B L) : Type 0 where
  pub connection : (connection_of is.client) ≡ f (connection_of was.client)
  pub waiting : is.client.waiting ≡ was.client.waiting
  pub opening : is.client.opening ≡ was.client.opening
  pub outbox : is.client.outbox ≡ was.client.outbox
  pub kept : is.client.kept ≡ was.client.kept
  pub link : is.link ≡ was.link

-- it asked for a command that waits for room
abbrev pub awaits_room_at : {B L : Type 0} → Option (Seated B L) → Bool
awaits_room_at None = false
awaits_room_at (Some seated) = is_some seated.client.waiting

-- why acts of the connection at a place were cut off
abbrev pub cut_at : {B L : Type 0} → Option (Seated B L) → Cut
cut_at None = cuts.No
cut_at (Some seated) = seated.client.footprint.cut

-- nobody came or went, and the connection of one who sits there is changed so
abbrev pub ChangedAt : {B L : Type 0} → (ConnectionValue → ConnectionValue) → Option (Seated B L) → Option (Seated B L) → Type 0
ChangedAt f None new = new ≡ None
ChangedAt f (Some was) new = (is : Seated _ _) × (new ≡ Some is) × IsChanged f was is

-- nothing was sent there, nobody came or went, and a connection that sits there goes on from there with no effect
abbrev pub UnservedAt : {B L : Type 0} → (L → Option (List (List ℕ))) → (L → Option (List ℕ)) → Option (Seated B L) → Option (Seated B L) → Type 0
UnservedAt sent received None new = new ≡ None
UnservedAt sent received (Some was) new =
    (is : Seated _ _) × (new ≡ Some is) × Unserved sent was.client was.link is.client is.link × Idles received was.client was.link is.client is.link

-- nobody came or went, and the link of one who sits there was pinged
abbrev pub PingedAt : {B L : Type 0} → (L → L → Type 0) → (L → L → LinkFault → Type 0) → (L → L → Type 0) → Option (Seated B L) → Option (Seated B L) → Type 0
PingedAt pings refuses flushes None new = new ≡ None
PingedAt pings refuses flushes (Some was) new = (is : Seated _ _) × (new ≡ Some is) × IsPinged pings refuses flushes was.link is.link
