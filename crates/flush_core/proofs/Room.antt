-- Where a block does not fit.
use Rattle.std.proofs.Common.{◌≡◌, ◌≢◌, ◌⊎◌, ◌<◌, ◌≤◌, ◌+◌, ◌-◌, ℕ, List, [], false, Err, length, take, ap, subst, sym, ◌∙◌, arith}
use Rattle.std.specs.Prelude.{IsErrOf}
use Rattle.std.proofs.lemmas.Bool.{false≢true}
use Rattle.std.proofs.Math.Logic.{∥∥₁_prop, ∥∥₁_elim}
use Rattle.command_core.specs.Commands.{CommandValue}
use Rattle.command_core.specs.Entries.{EntryValue}
use Rattle.outbox_core.specs.Boxes.{SenderValue}
use Rattle.disk_core.specs.declared.disk.Disk.{Ghosts}
use Rattle.area_core.specs.Areas.{records}
use Rattle.area_core.specs.declared.area.Area.{Area}
use Rattle.broker_core.specs.States.{State}
use Rattle.recover_core.specs.Sound.{IsSound, Sound}
use Rattle.recover_core.specs.Standing.{StandFor, Standing}
use Rattle.recover_core.proofs.Stores.{leads}
use Rattle.flush_core.specs.declared.faults.FlushFault.{FlushFault}
use Rattle.flush_core.specs.declared.faults.FlushFault.TheVariants.{Device, Full, Broken, Memory}
use Rattle.flush_core.specs.Batches.{IsBatch, block_bytes, from_on, state_at}
use Rattle.flush_core.specs.FlusherCalls.{RefusesToStore, RefusesTurn}
use Rattle.flush_core.specs.Flusher.{Latest, Flushed, IsFlusher, gathered, state_stored}
use Rattle.claim_core.specs.Seats.{FlushSeatValue, next_ticket}
use Rattle.flush_core.specs.FlusherOutcomes.{Gives, GivesAndFalls, IsOutcome, publishing, storing, taking}
use Rattle.recover_core.specs.Compactions.{HasNoRoomFor}
use Rattle.flush_core.specs.Room.{Fits, HasNoRoom, HasNoRoomForState, HasNoRoomLeft, IsTooLong, StoresAfresh, used_afresh}
use Rattle.flush_core.proofs.StoreFaults.{same_fault}
use Rattle.flush_core.proofs.TakenCommands.{at_more}
use Rattle.area_core.specs.Areas.{commands}

-- the area that is held on the disk is too short
pub lacks_room : (area : Area) (images : List ℕ → Type 0) (content : List ℕ) (s : State) (cs : List CommandValue) → images content → IsSound images area → StandFor images s
    → area.size < (area.gate + 1) + 9 + length (records cs) → HasNoRoom content s cs
lacks_room area images content s cs reads sound stand short = ∥∥₁_elim sound ∥∥₁_prop (λ (it : Sound images area). ∥∥₁_elim (stand content reads) ∥∥₁_prop (λ (st : Standing content s).
    let at = it.held content reads in
    ∣ record {
      version = area.version;
      size = area.size;
      selector = area.selector;
      snapshot = it.snapshot;
      blocks = it.blocks;
      reads = at.reads;
      leads = leads area.version area.size area.selector it.snapshot it.blocks content s at.reads st;
      short = omega (arith, short, at.gate);
    } ∣₁))

-- and here it is too short for any snapshot of the state
pub lacks_room_for_state : (area : Area) (images : List ℕ → Type 0) (content : List ℕ) (s : State) → images content → IsSound images area → StandFor images s
    → HasNoRoomFor area.size s → HasNoRoomForState content s
lacks_room_for_state area images content s reads sound stand none = ∥∥₁_elim sound ∥∥₁_prop (λ (it : Sound images area). ∥∥₁_elim (stand content reads) ∥∥₁_prop (λ (st : Standing content s).
    let at = it.held content reads in
    ∣ record {
      version = area.version;
      size = area.size;
      selector = area.selector;
      snapshot = it.snapshot;
      blocks = it.blocks;
      reads = at.reads;
      leads = leads area.version area.size area.selector it.snapshot it.blocks content s at.reads st;
      none = none;
    } ∣₁))

-- a step that fails leaves what was taken
rest_stays : {D : Type 0} (old new : Flushed D) (n : ℕ) (fault : FlushFault) → IsOutcome {X = Unit {0}} old new (Err fault) → from_on old.seat n ≡ from_on new.seat n
rest_stays old new n Device fell = sym (ap (λ s. from_on s n) fell.seat)
rest_stays old new n Full fell = sym (ap (λ s. from_on s n) fell.seat)
rest_stays {D} old new n Broken was = sym (ap (λ (f : Flushed D). from_on f.seat n) was.1)
rest_stays old new n (Memory refused) fell = sym (ap (λ s. from_on s n) fell.seat)

-- The disk is as it was where nothing was gathered: storing then changed nothing, and what comes behind it calls no disk.
module _ {D : Type 0} (f g h : Flushed D) (entries : List (EntryValue SenderValue)) (n : ℕ) (next : D) (size used : ℕ) (last : Latest) (took : g ≡ taking f entries) (did : h ≡ storing g n next size used last) (nothing : gathered g ≡ [] → h ≡ g) where
  gathered_before : (seat : FlushSeatValue) → from_on h.seat g.stored ≡ from_on seat g.stored → from_on seat f.stored ≡ [] → gathered g ≡ []
  gathered_before seat rest none =
      ap (λ (x : Flushed D). from_on x.seat g.stored) (sym did) ∙ (rest ∙ (ap (λ (x : Flushed D). from_on seat x.stored) took ∙ none))

  -- what was gathered is what was taken from there on, also where all is published
  pub taken_stays : (k l : Flushed D) → Gives h k → l ≡ publishing k l.boxes → gathered g ≡ from_on l.seat f.stored
  taken_stays k l executed published =
      let seat : from_on h.seat g.stored ≡ from_on l.seat g.stored = ap (λ (x : Flushed D). from_on x.seat g.stored) (sym executed.is) ∙ ap (λ (x : Flushed D). from_on x.seat g.stored) (sym published) in
      ap (λ (x : Flushed D). from_on x.seat g.stored) (sym did) ∙ (seat ∙ ap (λ (x : Flushed D). from_on l.seat x.stored) took)

  -- what is used and won once the turn went through is what storing left
  same_used : (k l : Flushed D) → Gives h k → l ≡ publishing k l.boxes → (l.used ≡ h.used) × (l.last ≡ h.last)
  same_used k l executed published = (
    ap (λ (x : Flushed D). x.used) published ∙ ap (λ (x : Flushed D). x.used) executed.is,
    ap (λ (x : Flushed D). x.last) published ∙ ap (λ (x : Flushed D). x.last) executed.is,
  )

  -- nor does the number stored change
  same_stored : (k l : Flushed D) → Gives h k → l ≡ publishing k l.boxes → l.stored ≡ h.stored
  same_stored k l executed published = ap (λ (x : Flushed D). x.stored) published ∙ ap (λ (x : Flushed D). x.stored) executed.is

  same_end : (k l : Flushed D) → Gives h k → l ≡ publishing k l.boxes → next_ticket g.seat ≡ next_ticket l.seat
  same_end k l executed published =
      sym (ap (λ (x : Flushed D). next_ticket x.seat) published ∙ (ap (λ (x : Flushed D). next_ticket x.seat) executed.is ∙ ap (λ (x : Flushed D). next_ticket x.seat) did))

  pub came_behind : (k l : Flushed D) → Gives h k → l ≡ publishing k l.boxes
      → (Fits g.size g.used (gathered g) → gathered g ≢ [] → (h.stored ≡ next_ticket g.seat) × (h.used ≡ g.used + 9 + length (records (gathered g))) × (h.last ≡ record g.last { block = g.stored }))
      → Fits f.size f.used (from_on l.seat f.stored) → from_on l.seat f.stored ≢ []
      → (l.stored ≡ next_ticket l.seat) × (l.used ≡ f.used + 9 + length (records (from_on l.seat f.stored))) × (l.last ≡ record f.last { block = f.stored })
  came_behind k l executed published told fits some =
      let same = same_used k l executed published in
      let all = subst (λ (z : Flushed D × List CommandValue). Fits z.0.size z.0.used z.1 → z.1 ≢ [] → (h.stored ≡ next_ticket g.seat) × (h.used ≡ z.0.used + 9 + length (records z.1)) × (h.last ≡ record z.0.last { block = z.0.stored })) (λ i. (took i, taken_stays k l executed published i)) told fits some in
      (same_stored k l executed published ∙ (all.0 ∙ same_end k l executed published), same.0 ∙ all.1, same.1 ∙ all.2)

  pub came_afresh : (k l : Flushed D) → Gives h k → l ≡ publishing k l.boxes → f.stored ≤ next_ticket f.seat
      → (IsTooLong g.size g.used (gathered g) → gathered g ≢ []
      → StoresAfresh g.size g.used g.stored (state_at g.opening g.seat g.stored) (gathered g) (h.stored - g.stored) h.used h.last)
      → IsTooLong f.size f.used (from_on l.seat f.stored) → from_on l.seat f.stored ≢ []
      → StoresAfresh f.size f.used f.stored (state_at f.opening f.seat f.stored) (from_on l.seat f.stored) (l.stored - f.stored) l.used l.last
  came_afresh k l executed published few told long some =
      let state : state_at g.opening g.seat g.stored ≡ state_at f.opening f.seat f.stored = ap (λ (x : Flushed D). state_at x.opening x.seat x.stored) took ∙ at_more f.opening f.seat (commands entries) f.stored few in
      let same = same_used k l executed published in
      let all = subst (λ (z : Flushed D × State × List CommandValue). IsTooLong z.0.size z.0.used z.2 → z.2 ≢ [] → StoresAfresh z.0.size z.0.used z.0.stored z.1 z.2 (h.stored - z.0.stored) h.used h.last) (λ i. (took i, state i, taken_stays k l executed published i)) told long some in
      subst (λ (z : ℕ × ℕ × Latest). StoresAfresh f.size f.used f.stored (state_at f.opening f.seat f.stored) (from_on l.seat f.stored) (z.0 - f.stored) z.1 z.2)
      (sym (λ i. (same_stored k l executed published i, same.0 i, same.1 i))) all

  -- nothing is won where nothing was gathered
  pub none_won : (k l : Flushed D) → Gives h k → l ≡ publishing k l.boxes → from_on l.seat f.stored ≡ [] → l.last ≡ f.last
  none_won k l executed published none =
      let seat : from_on h.seat g.stored ≡ from_on l.seat g.stored = ap (λ (x : Flushed D). from_on x.seat g.stored) (sym executed.is) ∙ ap (λ (x : Flushed D). from_on x.seat g.stored) (sym published) in
      (same_used k l executed published).1 ∙ ap (λ (x : Flushed D). x.last) (nothing (gathered_before l.seat seat none) ∙ took)

  -- executing failed
  pub still_unexecuted : (k : Flushed D) → GivesAndFalls h k → k.disk ≡ h.disk → from_on k.seat f.stored ≡ [] → k.disk ≡ f.disk
  still_unexecuted k fell same none =
      same ∙ ap (λ (x : Flushed D). x.disk) (nothing (gathered_before k.seat (sym (ap (λ (s : FlushSeatValue). from_on s g.stored) fell.seat)) none) ∙ took)

  -- the turn went through
  pub still_published : (k l : Flushed D) → Gives h k → k.disk ≡ h.disk → l ≡ publishing k l.boxes → from_on l.seat f.stored ≡ [] → l.disk ≡ f.disk
  still_published k l executed same published none =
      let seat : from_on h.seat g.stored ≡ from_on l.seat g.stored = ap (λ (x : Flushed D). from_on x.seat g.stored) (sym executed.is) ∙ ap (λ (x : Flushed D). from_on x.seat g.stored) (sym published) in
      ap (λ (x : Flushed D). x.disk) published ∙ (same ∙ ap (λ (x : Flushed D). x.disk) (nothing (gathered_before l.seat seat none) ∙ took))

module _ {D : Type 0} (disk : Ghosts D) (f g h : Flushed D) (entries : List (EntryValue SenderValue)) (fault : FlushFault) (kept : IsFlusher disk.honest disk.images f) (took : g ≡ taking f entries) (outcome : IsOutcome {X = Unit {0}} g h (Err fault)) where
  -- what waits is what was gathered
  pub gathered_stays : gathered g ≡ from_on h.seat f.stored
  gathered_stays = rest_stays g h g.stored fault outcome ∙ ap (λ (x : Flushed D). from_on h.seat x.stored) took

  -- the state is the one after what was stored before
  before_taking : state_stored g ≡ state_stored f
  before_taking = ap (λ (x : Flushed D). state_at x.opening x.seat x.stored) took ∙ at_more f.opening f.seat (commands entries) f.stored kept.stored

  -- so where room was looked for and not found
  found_none : IsTooLong g.size g.used (gathered g)
      × ((HasNoRoomFor g.size (state_stored g) × (h.disk ≡ g.disk)) ⊎ IsTooLong g.size (used_afresh (state_stored g)) (take 1 (gathered g)))
      → IsTooLong f.size f.used (from_on h.seat f.stored)
      × ((HasNoRoomFor f.size (state_stored f) × (h.disk ≡ f.disk)) ⊎ IsTooLong f.size (used_afresh (state_stored f)) (take 1 (from_on h.seat f.stored)))
  found_none told =
      subst (λ (z : Flushed D × State × List CommandValue). IsTooLong z.0.size z.0.used z.2 × ((HasNoRoomFor z.0.size z.1 × (h.disk ≡ z.0.disk)) ⊎ IsTooLong z.0.size (used_afresh z.1) (take 1 z.2)))
      (λ i. (took i, before_taking i, gathered_stays i)) told

  has_none_left : HasNoRoomLeft (disk.content h.disk) (state_stored g) (take 1 (gathered g)) → HasNoRoomLeft (disk.content h.disk) (state_stored f) (take 1 (from_on h.seat f.stored))
  has_none_left told = subst (λ (z : State × List CommandValue). HasNoRoomLeft (disk.content h.disk) z.0 (take 1 z.1)) (λ i. (before_taking i, gathered_stays i)) told

  pub refuses_turn : (most most_bytes : ℕ) → g.broken ≡ false → IsBatch most (block_bytes f.size most_bytes) (gathered g) → RefusesToStore {X = Unit {0}} disk g h (Err fault) → RefusesTurn {X = ℕ} disk most most_bytes f h (Err fault)
  refuses_turn most most_bytes whole batch refuses =
      let told : IsErrOf {T = ℕ} (Err fault) Full → IsErrOf {T = Unit {0}} (Err fault) Full = λ is. ap (λ (x : FlushFault). Err x) (same_fault fault Full is) in
      record {
        room = record {
          full = λ is. found_none (refuses.room.full (told is));
          no_room = λ honest is. has_none_left (refuses.room.no_room (subst (λ (x : Flushed D). disk.honest x.disk) (sym took) honest) (told is));
        };
        batch = λ is. (subst (IsBatch most (block_bytes f.size most_bytes)) gathered_stays batch, λ none. false≢true (refuses.nothing whole (gathered_stays ∙ none)).0);
      }
