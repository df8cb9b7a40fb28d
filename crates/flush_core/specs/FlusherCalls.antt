-- What a call of a flusher leaves, by its answer.
use Rattle.std.specs.Prelude.{◌≡◌, ◌≢◌, ◌⊎◌, ◌<◌, ◌≤◌, ◌+◌, ◌-◌, ◌^◌, ◌++◌, ℕ, List, [], Result, Vec, vec_capacity, true, false, drop, take, length, min, IsErrOf, IsOk, OnErr, OnOk}
use Rattle.std.specs.declared.alloc.Global.{Global}
use Rattle.disk_core.specs.declared.disk.Disk.{Ghosts}
use Rattle.disk_core.specs.Moments.{LeavesOnly}
use Rattle.command_core.specs.Commands.{CommandValue}
use Rattle.command_core.specs.Entries.{EntryValue}
use Rattle.command_core.specs.Outs.{OutValue}
use Rattle.outbox_core.specs.Boxes.{SenderValue}
use Rattle.outbox_core.specs.Giving.{AreGiven, Kept, unboxed, without}
use Rattle.area_core.specs.declared.faults.AreaFault.{AreaFault}
use Rattle.area_core.specs.declared.faults.AreaFault.TheVariants as areas
use Rattle.area_core.specs.Areas.{commands, records}
use Rattle.area_core.specs.Puts.{Each}
use Rattle.area_core.specs.Steps.{IsCaused}
use Rattle.broker_state.specs.States.{IsInOrder}
use Rattle.broker_core.specs.States.{BrokerValue}
use Rattle.broker_core.specs.Steps.{outs, outs_of, state_after, step}
use Rattle.claim_core.specs.Seats.{FlushSeatValue, next_ticket, with_mark}
use Rattle.recover_core.specs.declared.store.Store.{Store}
use Rattle.recover_core.specs.Calls.{StoreAdds, StoreRefuses}
use Rattle.recover_core.specs.Compactions.{HasNoRoomFor, HoldsItAlone}
use Rattle.recover_core.specs.Standing.{StandFor, Stands, StandsForEither}
use Rattle.recover_core.specs.Stores.{disk_of, is_broken, size_of, used_of}
use Rattle.flush_core.specs.declared.faults.FlushFault.{FlushFault}
use Rattle.flush_core.specs.declared.faults.FlushFault.TheVariants.{Full}
use Rattle.flush_core.specs.declared.outlet.Outlet.{Outlet}
use Rattle.flush_core.specs.Backlogs.{IsLight, most_counted}
use Rattle.flush_core.specs.Batches.{IsBatch, block_bytes, from_on, state_at, with_more}
use Rattle.flush_core.specs.Faults.{IfMemory, IsFlushCaused, NeedsNoDisk}
use Rattle.flush_core.specs.Flusher.{AreUnder, Flushed, HasStopped, gathered, state_stored}
use Rattle.flush_core.specs.FlusherOutcomes.{IsCompacted, IsLeft, IsNext, IsOutcome, IsTurn, IsTurned, PublishesNone, compacted, storing, taking}
use Rattle.flush_core.specs.Room.{Fits, HasNoRoom, HasNoRoomForState, HasNoRoomLeft, IsTooLong, StoresAfresh, used_afresh}
use Rattle.flush_core.specs.Sessions.{boxes_after, ended_by, ended_of}

-- Unless the flusher is broken, an honest disk that stops at any moment of the call is left with bytes that have P.
abbrev pub UnbrokenThroughout : {D : Type 0} → Ghosts D → Flushed D → Flushed D → (List ℕ → Type 0) → Type 0
UnbrokenThroughout disk old new P = disk.honest old.disk → old.broken ≡ false → LeavesOnly disk.moment disk.images_since old.disk new.disk P

-- And it stands for the state after what is stored.
abbrev pub SameThroughout : {D : Type 0} → Ghosts D → Flushed D → Flushed D → Type 0
SameThroughout disk old new = UnbrokenThroughout disk old new (λ c. Stands c (state_stored old))

-- Or it stands for that state, or for the one after `count` more commands.
abbrev pub EitherThroughout : {D : Type 0} → Ghosts D → Flushed D → Flushed D → ℕ → Type 0
EitherThroughout disk old new count = UnbrokenThroughout disk old new (StandsForEither (state_stored old) (state_at old.opening old.seat (old.stored + count)))

-- A call that fails breaks the flusher and stops its ring. A broken flusher answers `Broken` and stays as it is. The disk failed just if
-- that is the answer.
pub record FlushBreaks {D X : Type 0} (disk : Ghosts D) (old new : Flushed D) (result : Result X FlushFault) : Type 0 where
  pub outcome : IsOutcome old new result
  pub stops : OnErr result (HasStopped new)
  pub cause : IsFlushCaused (disk.failures old.disk) (disk.failures new.disk) result

-- The same for a call that reaches no disk.
pub record BreaksInMemory {D X : Type 0} (old new : Flushed D) (result : Result X FlushFault) : Type 0 where
  pub outcome : IsOutcome old new result
  pub stops : OnErr result (HasStopped new)
  pub fault : NeedsNoDisk result

-- The same for a turn, which may have taken and stored commands by then. It has published none of them, unless memory was refused.
pub record TurnBreaks {D X : Type 0} (disk : Ghosts D) (old new : Flushed D) (result : Result X FlushFault) : Type 0 where
  pub outcome : IsTurn old new result
  pub unpublished : PublishesNone old new result
  pub stops : OnErr result (HasStopped new)
  pub cause : IsFlushCaused (disk.failures old.disk) (disk.failures new.disk) result

-- Each image holds only a snapshot of the state after all that is stored, and nothing else has changed.
pub record FlushCompacts {D : Type 0} (disk : Ghosts D) (old new : Flushed D) : Type 0 where
  pub alone : disk.honest old.disk → Each (disk.images new.disk) (HoldsItAlone new.size new.used (state_stored old))
  pub compacted_is : new ≡ compacted old new.disk (used_afresh (state_stored old))

-- The journal was compacted, or nothing has changed. Or no snapshot of the state fits into an area, and what is stored from then on counts.
pub data MayCompact {D : Type 0} (disk : Ghosts D) (old new : Flushed D) : Type 0 where
  is_left : new ≡ old → MayCompact disk old new
  is_compacted : FlushCompacts disk old new → MayCompact disk old new
  is_too_long : HasNoRoomFor old.size (state_stored old) → new ≡ record old { last = record old.last { counted = old.stored } } → MayCompact disk old new

-- A start has less to repeat than it may. If it had before, nothing has changed.
pub record CompactsIfDue {D : Type 0} (disk : Ghosts D) (old new : Flushed D) : Type 0 where
  pub may : MayCompact disk old new
  pub light : IsLight new
  pub needed : IsLight old → new ≡ old

-- If the answer is `Full`, no snapshot of that state fits into an area, and the disk stays.
pub record RefusesState {D X : Type 0} (disk : Ghosts D) (old new : Flushed D) (result : Result X FlushFault) : Type 0 where
  pub full : IsErrOf result Full → HasNoRoomFor old.size (state_stored old) × (new.disk ≡ old.disk)
  pub no_room : disk.honest old.disk → IsErrOf result Full → HasNoRoomForState (disk.content new.disk) (state_stored old)

-- There is room for what is gathered, or the journal was compacted for it. The call fails only if compaction was needed.
pub record WinsRoom {D X : Type 0} (disk : Ghosts D) (old new : Flushed D) (result : Result X FlushFault) : Type 0 where
  pub made : OnOk result (IsLeft old new ⊎ IsCompacted disk old new)
  pub needed : OnErr result (IsTooLong old.size old.used (gathered old))

-- The first `count` entries are in a block after what was used, and the rest is taken out.
pub record AddsFirst {B D : Type 0} (disk : Ghosts D) (old new : Store D disk) (batch first rest : List (EntryValue B)) (count : ℕ) : Type 0 where
  pub first_is : first ≡ take count batch
  pub rest_is : rest ≡ drop count batch
  pub adds : StoreAdds disk old new (commands (take count batch))
  pub fits : Fits (size_of old) (used_of old) (commands (take count batch))
  pub whole : is_broken new ≡ false

-- If the answer is `Full`, their block doesn't fit. If it is `Broken`, the store was broken. The disk failed just if that is the answer.
pub record RefusesFirst {B D T : Type 0} (disk : Ghosts D) (old new : Store D disk) (first : List (EntryValue B)) (result : Result T AreaFault) : Type 0 where
  pub block : StoreRefuses disk old new (commands first) result
  pub sound : IsErrOf result areas.Broken → is_broken old ≡ true
  pub cause : IsCaused (disk.failures (disk_of old)) (disk.failures (disk_of new)) result

-- The first `count` of the gathered commands are stored, in one block after what was used.
pub record StoresFirst {D : Type 0} (disk : Ghosts D) (old new : Flushed D) (count : ℕ) : Type 0 where
  pub stands : disk.honest old.disk → StandFor (disk.images new.disk) (state_at old.opening old.seat (old.stored + count))
  pub stored : new ≡ storing old (old.stored + count) new.disk new.size new.used (record old.last { block = old.stored })
  pub used : new.used ≡ old.used + 9 + length (records (take count (gathered old)))
  pub fits : Fits old.size old.used (take count (gathered old))
  pub size : new.size ≡ old.size

-- If the answer is `Full`, their block doesn't fit. The disk stays then, and also if memory was refused.
pub record RefusesToStoreFirst {D X : Type 0} (disk : Ghosts D) (old new : Flushed D) (count : ℕ) (result : Result X FlushFault) : Type 0 where
  pub full : IsErrOf result Full → IsTooLong old.size old.used (take count (gathered old)) × (new.disk ≡ old.disk)
  pub no_room : disk.honest old.disk → IsErrOf result Full → HasNoRoom (disk.content old.disk) (state_stored old) (take count (gathered old))
  pub memory : IfMemory result (new.disk ≡ old.disk)

-- what waits to be stored of all that the second flusher has taken
abbrev pub to_store : {D : Type 0} → Flushed D → Flushed D → List CommandValue
to_store old taken = from_on taken.seat old.stored

-- At any moment of the call an image stands for the state after what was stored before, or after what is stored at the end. What is stored
-- at the end is of all that the third flusher has taken.
pub record IsStoring {D X : Type 0} (disk : Ghosts D) (old new taken : Flushed D) (result : Result X FlushFault) : Type 0 where
  pub number : ℕ
  pub next : IsNext old taken.seat number
  pub end : OnOk result (number ≡ new.stored)
  pub leaves : LeavesOnly disk.moment disk.images_since old.disk new.disk (StandsForEither (state_stored old) (state_at taken.opening taken.seat number))

-- Unless the flusher is broken, this holds of an honest disk.
abbrev pub StoresThroughout : {D X : Type 0} → Ghosts D → Flushed D → Flushed D → Flushed D → Result X FlushFault → Type 0
StoresThroughout disk old new taken result = disk.honest old.disk → old.broken ≡ false → IsStoring disk old new taken result

-- The disk stands for the state after what is stored. If its block fits, what waits is stored after what was used. Otherwise as much of it
-- as fits is stored after a snapshot.
pub record StoresNext {D : Type 0} (disk : Ghosts D) (old new taken : Flushed D) : Type 0 where
  pub stands : disk.honest old.disk → StandFor (disk.images new.disk) (state_at taken.opening taken.seat new.stored)
  pub behind : Fits old.size old.used (to_store old taken) → to_store old taken ≢ []
      → (new.stored ≡ next_ticket taken.seat) × (new.used ≡ old.used + 9 + length (records (to_store old taken))) × (new.last ≡ record old.last { block = old.stored })
  pub afresh : IsTooLong old.size old.used (to_store old taken) → to_store old taken ≢ []
      → StoresAfresh old.size old.used old.stored (state_stored old) (to_store old taken) (new.stored - old.stored) new.used new.last
  pub size : new.size ≡ old.size

-- If the answer is `Full`, the block of what waits doesn't fit. Nor does a snapshot, and the disk stays; or the next command doesn't fit
-- after one. The disk shows it.
pub record RefusesNext {D X : Type 0} (disk : Ghosts D) (old new taken : Flushed D) (result : Result X FlushFault) : Type 0 where
  pub full : IsErrOf result Full → IsTooLong old.size old.used (to_store old taken)
      × ((HasNoRoomFor old.size (state_stored old) × (new.disk ≡ old.disk)) ⊎ IsTooLong old.size (used_afresh (state_stored old)) (take 1 (to_store old taken)))
  pub no_room : disk.honest old.disk → IsErrOf result Full → HasNoRoomLeft (disk.content new.disk) (state_stored old) (take 1 (to_store old taken))

-- A part of what is gathered is stored, and nothing else has changed.
pub record StoresGathered {D : Type 0} (disk : Ghosts D) (old new : Flushed D) : Type 0 where
  pub stored : new ≡ storing old new.stored new.disk new.size new.used new.last
  pub within : (old.stored ≤ new.stored) × (new.stored ≤ next_ticket old.seat)
  pub next : StoresNext disk old new old

-- If the answer is `Full`, there is no room for what is gathered. If its block fits and memory was refused, the disk stays. If nothing is
-- gathered, the call is never refused, and nothing changes.
pub record RefusesToStore {D X : Type 0} (disk : Ghosts D) (old new : Flushed D) (result : Result X FlushFault) : Type 0 where
  pub room : RefusesNext disk old new old result
  pub memory : Fits old.size old.used (gathered old) → IfMemory result (new.disk ≡ old.disk)
  pub nothing : old.broken ≡ false → gathered old ≡ [] → IsOk result × (new ≡ old)

-- `count` commands are taken. As much of what waits as has room is stored, executed and published. What waits is a batch; if it is empty,
-- no compaction was made.
pub record HasTurned {D : Type 0} (disk : Ghosts D) (most most_bytes : ℕ) (old new : Flushed D) (count : ℕ) : Type 0 where
  pub more : List (EntryValue SenderValue)
  pub many : length more ≡ count
  pub turned : IsTurned old new more
  pub batch : IsBatch most (block_bytes old.size most_bytes) (to_store old new)
  pub stores : StoresNext disk old new new
  pub idle : to_store old new ≡ [] → new.last ≡ old.last

-- If the answer is `Full`, there is no room for what waits, which is a batch that is not empty.
pub record RefusesTurn {D X : Type 0} (disk : Ghosts D) (most most_bytes : ℕ) (old new : Flushed D) (result : Result X FlushFault) : Type 0 where
  pub room : RefusesNext disk old new new result
  pub batch : IsErrOf result Full → IsBatch most (block_bytes old.size most_bytes) (to_store old new) × (to_store old new ≢ [])

-- `count` more entries are taken, and come after the batch.
abbrev pub TakesMore : FlushSeatValue → FlushSeatValue → List (EntryValue SenderValue) → List (EntryValue SenderValue) → ℕ → Type 0
TakesMore old new batch longer count = (more : List (EntryValue SenderValue)) × (length more ≡ count) × (new ≡ with_more old (commands more)) × (longer ≡ batch ++ more)

-- The same of a flusher, of which nothing else has changed.
abbrev pub Gathers : {D : Type 0} → Flushed D → Flushed D → ℕ → Type 0
Gathers old new count = (more : List (EntryValue SenderValue)) × (length more ≡ count) × (new ≡ taking old more)

-- No command is taken, and the disk stays.
abbrev pub GathersNone : {D : Type 0} → Flushed D → Flushed D → Type 0
GathersNone old new = (new.disk ≡ old.disk) × (new.seat.taken ≡ old.seat.taken)

-- The commands are executed, in turn. The broker has the state after them, their outputs come after those that wait, and the sessions that
-- ended are noted.
pub record Executes (cs : List CommandValue) (old new : BrokerValue) (waited waiting : Vec OutValue Global) (noted ended : Vec ℕ Global) : Type 0 where
  pub broker : new ≡ record { state = state_after old.state cs; broken = false }
  pub outs : waiting.items ≡ waited.items ++ outs_of old.state cs
  pub ended_are : ended.items ≡ noted.items ++ ended_of old.state cs

-- One command is executed by an outlet. The broker has the state after it, its outputs come after those that wait, and the session that it
-- ends is noted.
pub record ExecutesOne {B : Type 0} (c : CommandValue) (old new : BrokerValue) (from to : Outlet B) : Type 0 where
  pub broker : new ≡ record { state = step old.state c; broken = false }
  pub outputs : to.waiting.items ≡ from.waiting.items ++ outs old.state c
  pub ended_are : to.ended.items ≡ from.ended.items ++ ended_by old.state c

-- `count` commands can be executed in portions. The broker is whole and in order, and has numbers for them. They are taken, and the mark is
-- not over the first of them. All that waits is of commands before it, and `spare` is empty.
pub record AreReady (count : ℕ) (broker : BrokerValue) (seat : FlushSeatValue) (waiting spare : List OutValue) : Type 0 where
  pub whole : broker.broken ≡ false
  pub order : IsInOrder broker.state
  pub few : broker.state.count + count ≤ 2 ^ 62
  pub marked : seat.published ≤ broker.state.count
  pub taken : broker.state.count + count ≤ next_ticket seat
  pub under : AreUnder broker.state.count waiting
  pub none : length spare ≡ 0

-- The commands are executed, in turn. Some of the first outputs were given to these boxes by then, and the mark is over them; the others
-- wait. The number of outputs that came of the commands is counted, as far as it can be.
pub record ExecutesInPortions (cs : List CommandValue) (old new : BrokerValue) (waited waiting : List OutValue) (noted ended : List ℕ) (kept boxes : Kept)
    (could left : List OutValue) (many : ℕ) : Type 0 where
  pub broker : new ≡ record { state = state_after old.state cs; broken = false }
  pub ended_are : ended ≡ noted ++ ended_of old.state cs
  pub given : List OutValue
  pub outs : given ++ waiting ≡ waited ++ outs_of old.state cs
  pub boxed : AreGiven given kept boxes
  pub left_are : left ≡ could ++ unboxed kept given
  pub counted : many ≡ min (length (outs_of old.state cs)) most_counted

-- An outlet executes these entries in portions. It keeps their boxes, and lets go of those of sessions whose last outputs are given, before it
-- gives anything.
abbrev pub ExecutesStored : {B : Type 0} → List (EntryValue SenderValue) → BrokerValue → BrokerValue → Outlet B → Outlet B → ℕ → Type 0
ExecutesStored entries old new from to many =
    ExecutesInPortions (commands entries) old new from.waiting.items to.waiting.items from.ended.items to.ended.items (without (boxes_after old.state.count from.boxes entries) from.past.items) to.boxes
    from.left.items to.left.items many

-- The mark is raised, if at all, up to at most that number, and what may be handed out in addition is under it.
pub record RaisesUpTo (most : ℕ) (old new : FlushSeatValue) (could left : List OutValue) : Type 0 where
  pub seat : new ≡ with_mark old new.published
  pub raised : old.published ≤ new.published
  pub within : new.published ≤ most
  pub more : List OutValue
  pub left_are : left ≡ could ++ more
  pub under : AreUnder new.published more

-- The first of the outputs that wait are given to these boxes, and the mark is over what is given.
pub record GivesFirst (mark : ℕ) (old new : FlushSeatValue) (waited waiting : List OutValue) (kept boxes : Kept) (could left : List OutValue) : Type 0 where
  pub given : List OutValue
  pub outs : given ++ waiting ≡ waited
  pub boxed : AreGiven given kept boxes
  pub left_are : left ≡ could ++ unboxed kept given
  pub raised : RaisesUpTo mark old new could left

-- The same of an outlet, by the boxes that it has.
abbrev pub GivesPortion : {B : Type 0} → ℕ → FlushSeatValue → FlushSeatValue → Outlet B → Outlet B → Type 0
GivesPortion mark old new from to = GivesFirst mark old new from.waiting.items to.waiting.items from.boxes to.boxes from.left.items to.left.items

-- There is room for the outputs that wait: after those that are left, if any are, and in `spare`, for those that go to no box. `spare` is
-- empty.
pub record HasRoom (waiting left spare : Vec OutValue Global) : Type 0 where
  pub behind : 0 < length left.items → length left.items + length waiting.items ≤ vec_capacity left
  pub none : length spare.items ≡ 0
  pub beside : length waiting.items ≤ vec_capacity spare
