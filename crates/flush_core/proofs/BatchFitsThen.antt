-- A batch is stored once room was won for it.
use Rattle.std.proofs.Common.{◌≡◌, ◌≢◌, ◌<◌, ◌≤◌, ◌+◌, ◌-◌, ◌⊎◌, inl, inr, ⊎_elim, ℕ, List, [], Result, Ok, Err, OnErr, OnOk, false, length, take, sym, ◌∙◌, ap, subst, arith}
use Rattle.std.specs.Prelude.{IsErrOf}
use Rattle.std.proofs.lemmas.Bool.{false≢true}
use Rattle.std.proofs.lemmas.List.{take_all}
use Rattle.std.proofs.lemmas.Result.{on_ok_weaker}
use Rattle.std.proofs.Math.Logic.{∥∥₁_map}
use Rattle.disk_core.specs.declared.disk.Disk.{Ghosts}
use Rattle.disk_core.specs.Moments.{LeavesOnly}
use Rattle.area_core.specs.Areas.{records}
use Rattle.claim_core.specs.Seats.{next_ticket}
use Rattle.broker_core.specs.States.{State}
use Rattle.command_core.specs.Commands.{CommandValue}
use Rattle.recover_core.specs.Compactions.{HasNoRoomFor}
use Rattle.recover_core.specs.Opens.{HoldsOnlySnapshot}
use Rattle.recover_core.specs.Standing.{StandFor, Stands, StandsForEither}
use Rattle.flush_core.specs.declared.faults.FlushFault.{FlushFault}
use Rattle.flush_core.specs.declared.faults.FlushFault.TheVariants.{Broken, Device, Full, Memory}
use Rattle.flush_core.specs.Batches.{state_at}
use Rattle.flush_core.specs.FlusherCalls.{EitherThroughout, FlushBreaks, FlushCompacts, IsStoring, RefusesState, RefusesToStore, RefusesToStoreFirst, StoresFirst, StoresGathered, WinsRoom}
use Rattle.flush_core.specs.Faults.{IfMemory, IsFlushCaused}
use Rattle.flush_core.specs.Flusher.{Latest, Flushed, IsFlusher, gathered, state_stored}
use Rattle.flush_core.specs.FlusherOutcomes.{Falls, IsNext, IsCompacted, IsLeft, IsOutcome, storing, using}
use Rattle.flush_core.specs.Room.{Fits, HasNoRoomForState, HasNoRoomLeft, IsLongest, IsTooLong, LacksRoomForState, StoresAfresh, used_afresh}
use Rattle.flush_core.proofs.BatchPrefixes.{is_longest, records_cut}
use Rattle.flush_core.proofs.TakenCommands.{length_from}

-- where nothing is done the disk stands for the state after what is stored
pub stays_so : {D : Type 0} (disk : Ghosts D) (f : Flushed D) → IsFlusher disk.honest disk.images f → f.broken ≡ false
    → ((c : List ℕ) → disk.images_since f.disk (disk.moment f.disk) c → disk.images f.disk c) → disk.honest f.disk
    → LeavesOnly disk.moment disk.images_since f.disk f.disk (λ c. Stands c (state_at f.opening f.seat f.stored))
stays_so disk f kept whole only honest = record {
  later = omega arith;
  each = λ c since. (kept.running whole).stands honest c (only c since);
  before = λ t c le since. inl since;
}

-- the journal was compacted, since the block did not fit
pub was_compacted : {D : Type 0} (disk : Ghosts D) (old new : Flushed D) (result : Result (Unit {0}) FlushFault) → old.broken ≡ false → IsTooLong old.size old.used (gathered old)
    → OnOk result (FlushCompacts disk old new) → WinsRoom disk old new result
was_compacted disk old new (Ok x) whole long did = record { made = inr (record { whole = whole; long = long; is = did.compacted_is; alone = did.alone }); needed = tt }
was_compacted disk old new (Err fault) whole long did = record { made = tt; needed = long }

-- what is so of each answer is so of a refusal
pub on_err : {X E : Type 0} (result : Result X E) (P : Type 0) → P → OnErr result P
on_err (Ok x) P p = tt
on_err (Err e) P p = p

-- the disk did not fail
pub calm_so : {D : Type 0} (disk : Ghosts D) (old new : Flushed D) (result : Result (Unit {0}) FlushFault) → FlushBreaks disk old new result → OnOk result (disk.failures new.disk ≡ disk.failures old.disk)
calm_so disk old new (Ok x) breaks = breaks.cause
calm_so disk old new (Err fault) breaks = tt

-- no snapshot of the state fits
none_left : (image : List ℕ) (s : State) (cs : List CommandValue) → HasNoRoomForState image s → HasNoRoomLeft image s cs
none_left image s cs lacks = ∥∥₁_map lacks (λ (l : LacksRoomForState image s). inl l)

-- so nothing is stored
pub unwon : {D : Type 0} (disk : Ghosts D) (old new : Flushed D) (fault : FlushFault) → gathered old ≢ [] → WinsRoom {X = Unit {0}} disk old new (Err fault) → RefusesState {X = Unit {0}} disk old new (Err fault)
    → RefusesToStore {X = Unit {0}} disk old new (Err fault)
unwon disk old new fault there wins refuses = record {
  room = record {
    full = λ is. (wins.needed, inl (refuses.full is));
    no_room = λ honest is. none_left (disk.content new.disk) (state_stored old) (take 1 (gathered old)) (refuses.no_room honest is);
  };
  memory = λ fits. absurd (omega (arith, fits, wins.needed));
  nothing = λ whole none. absurd (there none);
}

module _ {D : Type 0} (disk : Ghosts D) (old mid : Flushed D) (made : IsLeft old mid ⊎ IsCompacted disk old mid) where
  -- nothing but the disk, the bytes used and what was won has changed
  all_but_disk : mid ≡ using old mid.disk mid.used mid.last
  all_but_disk =
      ⊎_elim
      (λ (l : IsLeft old mid). l.same ∙ sym (λ i. using old ((l.same i).disk) ((l.same i).used) ((l.same i).last)))
      (λ (w : IsCompacted disk old mid). w.is ∙ sym (λ i. using old mid.disk ((w.is i).used) ((w.is i).last)))
      made

  pub still_whole : old.broken ≡ false → mid.broken ≡ false
  still_whole whole = ap (λ (f : Flushed D). f.broken) all_but_disk ∙ whole

  pub still_executed : old.executed ≡ old.stored → mid.executed ≡ mid.stored
  still_executed executed = subst (λ (f : Flushed D). f.executed ≡ f.stored) (sym all_but_disk) executed

  pub still_ring : mid.seat.ring ≡ old.seat.ring
  still_ring = ap (λ (f : Flushed D). f.seat.ring) all_but_disk

  pub still_gathered : gathered mid ≡ gathered old
  still_gathered = ap (λ (f : Flushed D). gathered f) all_but_disk

  -- a stop within it, and within what is stored then
  stored_moments : (n : ℕ) (new : D)
      → ((start now next : D) (P : List ℕ → Type 0) → LeavesOnly disk.moment disk.images_since start now P → LeavesOnly disk.moment disk.images_since now next P → LeavesOnly disk.moment disk.images_since start next P)
      → LeavesOnly disk.moment disk.images_since old.disk mid.disk (StandsForEither (state_at old.opening old.seat old.stored) (state_at old.opening old.seat (old.stored + n)))
      → (disk.honest mid.disk → mid.broken ≡ false → LeavesOnly disk.moment disk.images_since mid.disk new (StandsForEither (state_at mid.opening mid.seat mid.stored) (state_at mid.opening mid.seat (mid.stored + n))))
      → disk.honest mid.disk → old.broken ≡ false
      → LeavesOnly disk.moment disk.images_since old.disk new (StandsForEither (state_at old.opening old.seat old.stored) (state_at old.opening old.seat (old.stored + n)))
  stored_moments n new join first then honest whole =
      join old.disk mid.disk new (StandsForEither (state_at old.opening old.seat old.stored) (state_at old.opening old.seat (old.stored + n))) first
      (subst (λ (m : Flushed D). disk.honest m.disk → m.broken ≡ false → LeavesOnly disk.moment disk.images_since m.disk new (StandsForEither (state_at m.opening m.seat m.stored) (state_at m.opening m.seat (m.stored + n)))) all_but_disk then honest whole)

  -- the disk stays where memory is refused and the block fits
  memory_so : (new : D) (result : Result (Unit {0}) FlushFault) → IfMemory result (new ≡ mid.disk) → Fits old.size old.used (gathered old) → IfMemory result (new ≡ old.disk)
  memory_so new result kept fits =
      ⊎_elim
      (λ (l : IsLeft old mid). subst (λ (d : D). IfMemory result (new ≡ d)) (ap (λ (f : Flushed D). f.disk) l.same) kept)
      (λ (w : IsCompacted disk old mid). absurd (omega (arith, fits, w.long)))
      made

  -- The first so many have a block that fits, or else are one.
  module _ (kept : IsFlusher disk.honest disk.images old) (whole : old.broken ≡ false) (there : gathered old ≢ []) (count : ℕ) (within : count ≤ length (gathered mid)) (some : 0 < count)
      (one : IsTooLong mid.size mid.used (take count (gathered mid)) → IsTooLong mid.size mid.used (take 1 (gathered mid)))
      (more : count < length (gathered mid) → IsTooLong mid.size mid.used (take (count + 1) (gathered mid))) where
    count_within : count ≤ length (gathered old)
    count_within = subst (λ (l : List CommandValue). count ≤ length l) still_gathered within

    to_end : old.stored + length (gathered old) ≡ next_ticket old.seat
    to_end = length_from old.seat old.stored (omega (arith, kept.begun, kept.marked, kept.executed)) kept.stored

    count_longest : IsLongest mid.size mid.used (gathered old) count
    count_longest = is_longest mid.size mid.used count (gathered old) some count_within
        (subst (λ (l : List CommandValue). count < length l → IsTooLong mid.size mid.used (take (count + 1) l)) still_gathered more)

    -- all of it, where its block fits
    count_behind : Fits old.size old.used (gathered old) → count ≡ length (gathered old)
    count_behind fits =
        ⊎_elim
        (λ (l : IsLeft old mid). (subst (λ (f : Flushed D). IsLongest f.size f.used (gathered old) count) l.same count_longest).all fits)
        (λ (w : IsCompacted disk old mid). absurd (omega (arith, fits, w.long)))
        made

    -- else the most that have room behind the snapshot
    count_afresh : IsTooLong old.size old.used (gathered old) → IsLongest old.size (used_afresh (state_at old.opening old.seat old.stored)) (gathered old) count
    count_afresh long =
        ⊎_elim
        (λ (l : IsLeft old mid). absurd (omega (arith, l.fits, long)))
        (λ (w : IsCompacted disk old mid). subst (λ (f : Flushed D). IsLongest f.size f.used (gathered old) count) w.is count_longest)
        made

    is_next : IsNext old old.seat (old.stored + count)
    is_next =
        let same_count : (old.stored + count) - old.stored ≡ count = omega arith in
        record {
          from = omega arith;
          to = omega (arith, count_within, to_end);
          behind = λ less fits. omega (arith, count_behind fits, to_end);
          afresh = λ less long. subst (λ (k : ℕ). IsLongest old.size (used_afresh (state_at old.opening old.seat old.stored)) (gathered old) k) (sym same_count) (count_afresh long);
        }

    -- the block of one command does not fit behind the snapshot either
    full_so : (new : Flushed D) (result : Result (Unit {0}) FlushFault)
        → (IsErrOf result Full → IsTooLong mid.size mid.used (take count (gathered mid)) × (new.disk ≡ mid.disk)) → IsErrOf result Full
        → IsTooLong old.size old.used (gathered old)
        × ((HasNoRoomFor old.size (state_at old.opening old.seat old.stored) × (new.disk ≡ old.disk)) ⊎ IsTooLong old.size (used_afresh (state_at old.opening old.seat old.stored)) (take 1 (gathered old)))
    full_so new result full is =
        let told = full is in
        let single : IsTooLong mid.size mid.used (take 1 (gathered old)) = subst (λ (l : List CommandValue). IsTooLong mid.size mid.used (take 1 l)) still_gathered (one told.0) in
        ⊎_elim
        (λ (l : IsLeft old mid).
        let long : IsTooLong old.size old.used (take 1 (gathered old)) = subst (λ (f : Flushed D). IsTooLong f.size f.used (take 1 (gathered old))) l.same single in
        absurd (omega (arith, l.fits, long, records_cut 1 (gathered old))))
        (λ (w : IsCompacted disk old mid). (w.long, inr (subst (λ (f : Flushed D). IsTooLong f.size f.used (take 1 (gathered old))) w.is single)))
        made

    -- nor does it fit by what the image then shows
    no_room_left : (new : Flushed D) (result : Result (Unit {0}) FlushFault) → IsErrOf result Full → disk.honest old.disk → disk.images mid.disk (disk.content mid.disk)
        → (IsErrOf result Full → IsTooLong mid.size mid.used (take count (gathered mid)) × (new.disk ≡ mid.disk))
        → HasNoRoomLeft (disk.content new.disk) (state_at old.opening old.seat old.stored) (take 1 (gathered old))
    no_room_left new result is honest reads full =
        let told = full is in
        let s = state_at old.opening old.seat old.stored in
        let single : IsTooLong mid.size mid.used (take 1 (gathered old)) = subst (λ (l : List CommandValue). IsTooLong mid.size mid.used (take 1 l)) still_gathered (one told.0) in
        subst (λ (d : D). HasNoRoomLeft (disk.content d) s (take 1 (gathered old))) (sym told.1)
        (⊎_elim
        (λ (l : IsLeft old mid).
        let long : IsTooLong old.size old.used (take 1 (gathered old)) = subst (λ (f : Flushed D). IsTooLong f.size f.used (take 1 (gathered old))) l.same single in
        absurd (omega (arith, l.fits, long, records_cut 1 (gathered old))))
        (λ (w : IsCompacted disk old mid). ∥∥₁_map (w.alone honest (disk.content mid.disk) reads) (λ (h : HoldsOnlySnapshot mid.size mid.used s (disk.content mid.disk)).
        inr (record { size = mid.size; used = mid.used; holds = h; short = single })))
        made)

    -- the first so many are stored then
    module _ (new : Flushed D) (did : StoresFirst disk mid new count) where
      number_so : new.stored ≡ old.stored + count
      number_so = ap (λ (f : Flushed D). f.stored) did.stored ∙ ap (λ (f : Flushed D). f.stored + count) all_but_disk

      won_so : new.last ≡ record mid.last { block = mid.stored }
      won_so = ap (λ (f : Flushed D). f.last) did.stored

      stored_so : new ≡ storing old new.stored new.disk new.size new.used new.last
      stored_so =
          let n : new.stored ≡ mid.stored + count = ap (λ (f : Flushed D). f.stored) did.stored in
          subst (λ (z : ℕ × Latest). new ≡ storing old z.0 new.disk new.size new.used z.1) (sym (λ i. (n i, won_so i)))
          (did.stored ∙ ap (λ (f : Flushed D). storing f (mid.stored + count) new.disk new.size new.used (record mid.last { block = mid.stored })) all_but_disk)

      -- the disk stands for the state after as much as is stored
      stands_so : disk.honest mid.disk → StandFor (disk.images new.disk) (state_at old.opening old.seat new.stored)
      stands_so honest =
          subst (λ (n : ℕ). StandFor (disk.images new.disk) (state_at old.opening old.seat n)) (sym number_so)
          (subst (λ (f : Flushed D). StandFor (disk.images new.disk) (state_at f.opening f.seat (f.stored + count))) all_but_disk (did.stands honest))

      -- an area is as long as it was
      size_so : new.size ≡ old.size
      size_so = did.size ∙ ap (λ (f : Flushed D). f.size) all_but_disk

      -- the block stands behind what was used
      behind_so : Fits old.size old.used (gathered old)
          → (new.stored ≡ next_ticket old.seat) × (new.used ≡ old.used + 9 + length (records (gathered old))) × (new.last ≡ record old.last { block = old.stored })
      behind_so fits =
          let all : count ≡ length (gathered old) = count_behind fits in
          let first : take count (gathered mid) ≡ gathered old = (λ i. take (all i) (still_gathered i)) ∙ take_all (length (gathered old)) (gathered old) (omega arith) in
          ⊎_elim
          (λ (l : IsLeft old mid). (
            omega (arith, number_so, all, to_end),
            did.used ∙ (λ i. (l.same i).used + 9 + length (records (first i))),
            won_so ∙ ap (λ (f : Flushed D). record f.last { block = f.stored }) l.same,
          ))
          (λ (w : IsCompacted disk old mid). absurd (omega (arith, fits, w.long)))
          made

      -- or behind the snapshot
      afresh_so : IsTooLong old.size old.used (gathered old)
          → StoresAfresh old.size old.used old.stored (state_stored old) (gathered old) (new.stored - old.stored) new.used new.last
      afresh_so long =
          let s = state_stored old in
          let k : new.stored - old.stored ≡ count = omega (arith, number_so) in
          let Of : ℕ → Type 0 = λ k. StoresAfresh old.size old.used old.stored s (gathered old) k new.used new.last in
          ⊎_elim
          (λ (l : IsLeft old mid). absurd (omega (arith, l.fits, long)))
          (λ (w : IsCompacted disk old mid). subst Of (sym k) (record {
            longest = count_afresh long;
            fits = subst (λ (z : Flushed D × List CommandValue). Fits z.0.size z.0.used (take count z.1)) (λ i. (w.is i, still_gathered i)) did.fits;
            used_is = did.used ∙ (λ i. (w.is i).used + 9 + length (records (take count (still_gathered i))));
            last_is = won_so ∙ ap (λ (f : Flushed D). record f.last { block = f.stored }) w.is;
          }))
          made

      pub stores_so : (disk.honest old.disk → disk.honest mid.disk) → StoresGathered disk old new
      stores_so honest = record {
        stored = stored_so;
        within = (omega (arith, number_so), omega (arith, number_so, count_within, to_end));
        next = record { stands = λ was. stands_so (honest was); behind = λ fits some. behind_so fits; afresh = λ long some. afresh_so long; size = size_so };
      }

    -- a stop within it finds the state before, or that after them
    pub storing_so : (new : Flushed D) (result : Result (Unit {0}) FlushFault)
        → ((start now next : D) (P : List ℕ → Type 0) → LeavesOnly disk.moment disk.images_since start now P → LeavesOnly disk.moment disk.images_since now next P → LeavesOnly disk.moment disk.images_since start next P)
        → LeavesOnly disk.moment disk.images_since old.disk mid.disk (StandsForEither (state_stored old) (state_at old.opening old.seat (old.stored + count)))
        → EitherThroughout disk mid new count → disk.honest mid.disk → OnOk result (StoresFirst disk mid new count) → IsStoring disk old new old result
    storing_so new result join first then honest did = record {
      number = old.stored + count;
      next = is_next;
      end = on_ok_weaker result (λ (d : StoresFirst disk mid new count). sym (number_so new d)) did;
      leaves = stored_moments count new.disk join first then honest whole;
    }

    pub refuses_so : (new : Flushed D) (result : Result (Unit {0}) FlushFault) → (disk.honest old.disk → disk.images mid.disk (disk.content mid.disk)) → RefusesToStoreFirst disk mid new count result → RefusesToStore disk old new result
    refuses_so new result reads refuses = record {
      room = record {
        full = full_so new result refuses.full;
        no_room = λ honest is. no_room_left new result is honest (reads honest) refuses.full;
      };
      memory = memory_so new.disk result refuses.memory;
      nothing = λ _ none. absurd (there none);
    }

  falls_so : (new : Flushed D) → Falls mid new → Falls old new
  falls_so new fell =
      let f = subst (λ (f : Flushed D). Falls f new) all_but_disk fell in
      record { was = f.was; now = f.now; seat = f.seat; stored = f.stored; opening = f.opening; left = f.left }

  outcome_so : (new : Flushed D) (result : Result (Unit {0}) FlushFault) → IsOutcome mid new result → IsOutcome old new result
  outcome_so new (Ok x) outcome = (ap (λ (f : Flushed D). f.broken) (sym all_but_disk) ∙ outcome.0, outcome.1)
  outcome_so new (Err Device) outcome = falls_so new outcome
  outcome_so new (Err Full) outcome = falls_so new outcome
  outcome_so new (Err (Memory refused)) outcome = falls_so new outcome
  outcome_so new (Err Broken) outcome =
      ⊎_elim
      (λ (l : IsLeft old mid). (ap (λ (f : Flushed D). f.broken) (sym l.same) ∙ outcome.0, outcome.1 ∙ l.same))
      (λ (w : IsCompacted disk old mid). absurd (false≢true (sym w.whole ∙ (ap (λ (f : Flushed D). f.broken) (sym all_but_disk) ∙ outcome.0))))
      made

  pub breaks_so : (new : Flushed D) (result : Result (Unit {0}) FlushFault) → disk.failures mid.disk ≡ disk.failures old.disk → FlushBreaks disk mid new result → FlushBreaks disk old new result
  breaks_so new result calm breaks = record {
    outcome = outcome_so new result breaks.outcome;
    stops = breaks.stops;
    cause = subst (λ (n : ℕ). IsFlushCaused n (disk.failures new.disk) result) calm breaks.cause;
  }
