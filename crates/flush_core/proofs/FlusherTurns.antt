-- A turn: what a stop within it leaves.
use Rattle.std.proofs.Common.{◌<◌, ◌≤◌, ◌-◌, ◌++◌, [], drop, take, refl, ◌≡◌, inl, false, true, ℕ, List, Err, sym, ◌∙◌, ap, subst, arith}
use Rattle.std.proofs.lemmas.List.{append-nil}
use Rattle.std.proofs.lemmas.Bool.{false≢true}
use Rattle.disk_core.specs.declared.disk.Disk.{Ghosts}
use Rattle.disk_core.specs.Moments.{LeavesOnly}
use Rattle.broker_core.specs.States.{State}
use Rattle.broker_core.specs.Steps.{outs_of, state_after}
use Rattle.area_core.specs.Areas.{commands}
use Rattle.command_core.specs.Entries.{EntryValue}
use Rattle.outbox_core.specs.Boxes.{SenderValue}
use Rattle.claim_core.specs.Seats.{FlushSeatValue, flushing, next_ticket, when_stopped, with_mark}
use Rattle.recover_core.specs.Standing.{StandFor, StandsForEither}
use Rattle.flush_core.specs.declared.faults.FlushFault.{FlushFault}
use Rattle.flush_core.specs.declared.faults.FlushFault.TheVariants.{Device, Full, Broken, Memory}
use Rattle.flush_core.specs.Batches.{between, from_on, state_at, with_more}
use Rattle.flush_core.specs.FlusherCalls.{FlushBreaks, RefusesTurn, TurnBreaks}
use Rattle.flush_core.specs.Faults.{IsFlushCaused, IsMemory, NeedsNoDisk}
use Rattle.flush_core.specs.Flusher.{Latest, Flushed, IsFlusher, unexecuted}
use Rattle.flush_core.specs.FlusherOutcomes.{Falls, Gives, GivesAndFalls, IsNext, IsOutcome, IsTurn, IsTurned, IsUnpublished, PublishesNone, TurnFalls, publishing, executing, giving, standing, stored_entries, storing, taking, turned_boxes, turned_outs}
use Rattle.flush_core.specs.Sessions.{boxes_after, ended_of}
use Rattle.outbox_core.specs.Giving.{AreGiven, Kept, unboxed, without}
use Rattle.command_core.specs.Commands.{CommandValue}
use Rattle.command_core.specs.Outs.{OutValue}
use Rattle.flush_core.specs.Room.{IsLongest, IsTooLong, used_afresh}
use Rattle.outbox_core.proofs.Gifts.{are_more}
use Rattle.flush_core.proofs.PublishedPortions.{left_both}
use Rattle.flush_core.proofs.StoreFaults.{caused_as, caused_none, never_full}
use Rattle.flush_core.proofs.TakenCommands.{at_more}

-- a step that fails keeps what was taken
fallen : {D : Type 0} (old new : Flushed D) → Falls old new → (new.opening ≡ old.opening) × (new.seat.taken ≡ old.seat.taken) × (new.seat.base ≡ old.seat.base)
fallen old new fell = (fell.opening, ap (λ (s : FlushSeatValue). s.taken) fell.seat, ap (λ (s : FlushSeatValue). s.base) fell.seat)

-- nor what is executed, as far as that goes
pub fallen_midway : {D : Type 0} (old new : Flushed D) → GivesAndFalls old new → (new.opening ≡ old.opening) × (new.seat.taken ≡ old.seat.taken) × (new.seat.base ≡ old.seat.base)
fallen_midway old new fell = (fell.opening, ap (λ (s : FlushSeatValue). s.taken) fell.seat, ap (λ (s : FlushSeatValue). s.base) fell.seat)

pub failed_keeps : {D : Type 0} (X : Type 0) (old new : Flushed D) (fault : FlushFault) → IsOutcome {X = X} old new (Err fault) → (new.opening ≡ old.opening) × (new.seat.taken ≡ old.seat.taken) × (new.seat.base ≡ old.seat.base)
failed_keeps X old new Device fell = fallen old new fell
failed_keeps X old new Full fell = fallen old new fell
failed_keeps {D} X old new Broken was = (ap (λ (f : Flushed D). f.opening) was.1, ap (λ (f : Flushed D). f.seat.taken) was.1, ap (λ (f : Flushed D). f.seat.base) was.1)
failed_keeps X old new (Memory refused) fell = fallen old new fell

module _ {D : Type 0} (disk : Ghosts D) where
  -- nothing was stored: the disk is as it was
  pub unstored : (f : Flushed D) (last : D) (t : State) → IsFlusher disk.honest disk.images f → f.broken ≡ false
      → ((c : List ℕ) → disk.images_since f.disk (disk.moment f.disk) c → disk.images f.disk c) → last ≡ f.disk → disk.honest f.disk
      → LeavesOnly disk.moment disk.images_since f.disk last (StandsForEither (state_at f.opening f.seat f.stored) t)
  unstored f last t kept whole only same honest =
      subst (λ (d : D). LeavesOnly disk.moment disk.images_since f.disk d (StandsForEither (state_at f.opening f.seat f.stored) t)) (sym same) (record {
        later = omega arith;
        each = λ c since. ∣ inl ((kept.running whole).stands honest c (only c since)) ∣₁;
        before = λ t c le since. inl since;
      })

  -- what was taken was stored up to a number, or its storing failed
  pub stored : (f g : Flushed D) (entries : List (EntryValue SenderValue)) (n : ℕ) (next last : D) (opening : State) (seat : FlushSeatValue) → IsFlusher disk.honest disk.images f → f.broken ≡ false → g ≡ taking f entries
      → (disk.honest g.disk → g.broken ≡ false → LeavesOnly disk.moment disk.images_since g.disk next (StandsForEither (state_at g.opening g.seat g.stored) (state_at g.opening g.seat n)))
      → last ≡ next → opening ≡ g.opening → seat.taken ≡ g.seat.taken → seat.base ≡ g.seat.base → disk.honest f.disk
      → LeavesOnly disk.moment disk.images_since f.disk last (StandsForEither (state_at f.opening f.seat f.stored) (state_at opening seat n))
  stored f g entries n next last opening seat kept whole is leaves same opened taken base honest =
      let more = commands entries in
      let here : disk.honest f.disk → f.broken ≡ false → LeavesOnly disk.moment disk.images_since f.disk next (StandsForEither (state_at f.opening (with_more f.seat more) f.stored) (state_at f.opening (with_more f.seat more) n)) =
      subst (λ (g : Flushed D). disk.honest g.disk → g.broken ≡ false → LeavesOnly disk.moment disk.images_since g.disk next (StandsForEither (state_at g.opening g.seat g.stored) (state_at g.opening g.seat n))) is leaves in
      let all : state_at f.opening (with_more f.seat more) n ≡ state_at opening seat n =
      sym ((λ i. state_after (opened i) (take (n - base i) (taken i))) ∙ ap (λ (h : Flushed D). state_at h.opening h.seat n) is) in
      subst (λ (d : D). LeavesOnly disk.moment disk.images_since f.disk d (StandsForEither (state_at f.opening f.seat f.stored) (state_at opening seat n))) (sym same)
      (subst (λ (t : State). LeavesOnly disk.moment disk.images_since f.disk next (StandsForEither (state_at f.opening f.seat f.stored) t)) all
      (subst (λ (s : State). LeavesOnly disk.moment disk.images_since f.disk next (StandsForEither s (state_at f.opening (with_more f.seat more) n))) (at_more f.opening f.seat more f.stored kept.stored)
      (here honest whole)))

  -- the disk stands for the state after what is stored, once that is executed and published
  pub stands_so : (g did left new : Flushed D) (n : ℕ) (next : D) (size used : ℕ) (last : Latest) → did ≡ storing g n next size used last → Gives did left → left.disk ≡ did.disk → new ≡ publishing left new.boxes
      → StandFor (disk.images did.disk) (state_at g.opening g.seat n) → StandFor (disk.images new.disk) (state_at new.opening new.seat new.stored)
  stands_so g did left new n next size used last did_is left_is same new_is stand =
      let opened : new.opening ≡ g.opening = ap (λ (f : Flushed D). f.opening) new_is ∙ (ap (λ (f : Flushed D). f.opening) left_is.is ∙ ap (λ (f : Flushed D). f.opening) did_is) in
      let taken : new.seat.taken ≡ g.seat.taken = ap (λ (f : Flushed D). f.seat.taken) new_is ∙ (ap (λ (f : Flushed D). f.seat.taken) left_is.is ∙ ap (λ (f : Flushed D). f.seat.taken) did_is) in
      let base : new.seat.base ≡ g.seat.base = ap (λ (f : Flushed D). f.seat.base) new_is ∙ (ap (λ (f : Flushed D). f.seat.base) left_is.is ∙ ap (λ (f : Flushed D). f.seat.base) did_is) in
      let number : new.stored ≡ n = ap (λ (f : Flushed D). f.stored) new_is ∙ (ap (λ (f : Flushed D). f.stored) left_is.is ∙ ap (λ (f : Flushed D). f.stored) did_is) in
      subst (λ (d : D). StandFor (disk.images d) (state_at new.opening new.seat new.stored)) (sym (ap (λ (f : Flushed D). f.disk) new_is ∙ same))
      (subst (λ (s : State). StandFor (disk.images did.disk) s) (sym (λ i. state_after (opened i) (take (number i - base i) (taken i)))) stand)

  -- what is stored next of what was taken
  pub next_taken : (f g : Flushed D) (entries : List (EntryValue SenderValue)) (n : ℕ) (seat : FlushSeatValue) → IsFlusher disk.honest disk.images f → g ≡ taking f entries → seat.taken ≡ g.seat.taken → seat.base ≡ g.seat.base
      → IsNext g g.seat n → IsNext f seat n
  next_taken f g entries n seat kept is taken base next =
      let there : IsNext f (with_more f.seat (commands entries)) n =
      let Of : Flushed D → Type 0 = λ g. IsNext g g.seat n in
      let it = subst Of is next in
      record {
        from = it.from;
        to = it.to;
        behind = it.behind;
        afresh = subst (λ (s : State). f.stored < n → IsTooLong f.size f.used (from_on (with_more f.seat (commands entries)) f.stored)
            → IsLongest f.size (used_afresh s) (from_on (with_more f.seat (commands entries)) f.stored) (n - f.stored)) (at_more f.opening f.seat (commands entries) f.stored kept.stored) it.afresh;
      } in
      let same : seat.taken ≡ f.seat.taken ++ commands entries = taken ∙ ap (λ (h : Flushed D). h.seat.taken) is in
      let begun : seat.base ≡ f.seat.base = base ∙ ap (λ (h : Flushed D). h.seat.base) is in
      let at : (b : ℕ) → List CommandValue → FlushSeatValue = λ b l. flushing seat.ring b l seat.published seat.stopped seat.seats in
      let here : IsNext f (at f.seat.base (f.seat.taken ++ commands entries)) n = record { from = there.from; to = there.to; behind = there.behind; afresh = there.afresh } in
      subst (λ (z : ℕ × List CommandValue). IsNext f (at z.0 z.1) n) (sym (λ i. (begun i, same i))) here

  -- nothing is stored
  pub next_none : (f : Flushed D) (seat : FlushSeatValue) → f.stored ≤ next_ticket seat → IsNext f seat f.stored
  next_none f seat few = record {
    from = omega arith;
    to = few;
    behind = λ less. absurd (omega (arith, less));
    afresh = λ less. absurd (omega (arith, less));
  }

  -- a turn of the four steps
  pub turned : (old took did left new : Flushed D) (entries : List (EntryValue SenderValue)) (n : ℕ) (next : D) (size used : ℕ) (last : Latest) → old.executed ≡ old.stored → old.stored ≤ n → n ≤ next_ticket (with_more old.seat (commands entries))
      → took ≡ taking old entries → did ≡ storing took n next size used last → Gives did left → new ≡ publishing left new.boxes → AreGiven left.waiting (standing left) new.boxes → IsTurned old new entries
  turned old took did left new entries n next size used last executed rises few took_is did_is left_is new_is given =
      let stored = storing (taking old entries) n next size used last in
      let all = executing stored in
      let did_all : did ≡ stored = did_is ∙ ap (λ (f : Flushed D). storing f n next size used last) took_is in
      let first = left_is.given in
      let is : left ≡ giving stored left.seat.published left.boxes first left.waiting = left_is.is ∙ ap (λ (f : Flushed D). giving f left.seat.published left.boxes first left.waiting) did_all in
      let end : new ≡ publishing (giving stored left.seat.published left.boxes first left.waiting) new.boxes = new_is ∙ ap (λ (f : Flushed D). publishing f new.boxes) is in
      let more = commands entries in
      let number : new.stored ≡ n = ap (λ (f : Flushed D). f.stored) end in
      let marked : new.seat ≡ with_mark (with_more old.seat more) n = ap (λ (f : Flushed D). f.seat) end in
      let seat : new.seat ≡ with_mark (with_more old.seat more) new.stored = marked ∙ ap (λ (m : ℕ). with_mark (with_more old.seat more) m) (sym number) in
      let cs : unexecuted stored ≡ between new.seat old.stored new.stored =
      (λ i. between (with_more old.seat more) (executed i) n) ∙ (λ i. between (sym marked i) old.stored (sym number i)) in
      let es : stored_entries stored ≡ take (new.stored - old.stored) (old.brought ++ entries) = λ i. take (sym number i - executed i) (old.brought ++ entries) in
      let outs : all.waiting ≡ turned_outs old new = ap (λ (l : List CommandValue). old.waiting ++ outs_of old.broker.state l) cs in
      let stands : standing all ≡ turned_boxes old new entries = ap (λ (l : List (EntryValue SenderValue)). without (boxes_after old.executed old.boxes l) old.past) es in
      let opening : new.opening ≡ old.opening = ap (λ (f : Flushed D). f.opening) end in
      let split : first ++ left.waiting ≡ all.waiting = left_is.outs ∙ ap (λ (f : Flushed D). (executing f).waiting) did_all in
      let before : AreGiven first (standing all) left.boxes = subst (λ (f : Flushed D). AreGiven first (standing (executing f)) left.boxes) did_all left_is.boxed in
      let rest : AreGiven left.waiting left.boxes new.boxes = subst (λ (l : List ℕ). AreGiven left.waiting (without left.boxes l) new.boxes) (ap (λ (f : Flushed D). f.past) is) given in
      let both : AreGiven all.waiting (standing all) new.boxes = subst (λ (l : List OutValue). AreGiven l (standing all) new.boxes) split (are_more first left.waiting (standing all) left.boxes new.boxes before rest) in
      let remains : new.left ≡ old.left ++ unboxed (standing all) (first ++ left.waiting) =
      left_both first left.waiting (standing all) left.boxes old.left (old.left ++ unboxed (standing all) first) new.left before refl (ap (λ (f : Flushed D). f.left) end) in
      record {
        seat = seat;
        within = (omega (arith, number, rises), omega (arith, number, few, ap (λ (s : FlushSeatValue). next_ticket s) marked));
        executed = ap (λ (f : Flushed D). f.executed) end ∙ sym number;
        brought = ap (λ (f : Flushed D). f.brought) end ∙ (λ i. drop (sym number i - executed i) (old.brought ++ entries));
        opening = opening;
        broker = ap (λ (f : Flushed D). f.broker) end ∙ ap (λ (s : State). record { state = s; broken = false }) (sym (λ i. state_at (opening i) (marked i) (number i)));
        given = subst (λ (l : List OutValue). AreGiven l (turned_boxes old new entries) new.boxes) outs (subst (λ (b : Kept). AreGiven all.waiting b new.boxes) stands both);
        past = ap (λ (f : Flushed D). f.past) end ∙ ap (λ (l : List CommandValue). old.ended ++ ended_of old.broker.state l) cs;
        ended = ap (λ (f : Flushed D). f.ended) end;
        waiting = ap (λ (f : Flushed D). f.waiting) end;
        left = remains ∙ (λ i. old.left ++ unboxed (stands i) ((split ∙ outs) i));
      }

-- a turn whose commands are taken and stored fails where executing them does
module _ {D : Type 0} (old took did new : Flushed D) (entries : List (EntryValue SenderValue)) (n : ℕ) (next : D) (size used : ℕ) (last : Latest)
    (whole : old.broken ≡ false) (took_is : took ≡ taking old entries) (did_is : did ≡ storing took n next size used last) where
  did_all : did ≡ storing (taking old entries) n next size used last
  did_all = did_is ∙ ap (λ (f : Flushed D). storing f n next size used last) took_is

  pub midway_falls : GivesAndFalls did new → TurnFalls old new
  midway_falls fell =
      let seat : new.seat ≡ when_stopped (with_mark (with_more old.seat (commands entries)) new.seat.published) = fell.seat ∙ ap (λ (f : Flushed D). when_stopped (with_mark f.seat new.seat.published)) did_all in
      record {
        was = whole;
        now = fell.now;
        stopped = ap (λ (s : FlushSeatValue). s.stopped) seat;
        ring = ap (λ (s : FlushSeatValue). s.ring) seat;
        base = ap (λ (s : FlushSeatValue). s.base) seat;
        seats = ap (λ (s : FlushSeatValue). s.seats) seat;
        published = omega (arith, fell.raised, ap (λ (f : Flushed D). f.seat.published) did_all);
        taken = (commands entries, ap (λ (s : FlushSeatValue). s.taken) seat);
        opening = fell.opening ∙ ap (λ (f : Flushed D). f.opening) did_all;
        left = (fell.left.0, fell.left.1 ∙ ap (λ (f : Flushed D). f.left ++ fell.left.0) did_all);
      }

-- a turn of which nothing is executed fails
module _ {D : Type 0} (old took new : Flushed D) (entries : List (EntryValue SenderValue)) (whole : old.broken ≡ false) (took_is : took ≡ taking old entries) where
  turn_falls : Falls took new → TurnFalls old new
  turn_falls fell =
      let seat : new.seat ≡ when_stopped (with_more old.seat (commands entries)) = fell.seat ∙ ap (λ (f : Flushed D). when_stopped f.seat) took_is in
      record {
        was = whole;
        now = fell.now;
        stopped = ap (λ (s : FlushSeatValue). s.stopped) seat;
        ring = ap (λ (s : FlushSeatValue). s.ring) seat;
        base = ap (λ (s : FlushSeatValue). s.base) seat;
        seats = ap (λ (s : FlushSeatValue). s.seats) seat;
        published = omega (arith, ap (λ (s : FlushSeatValue). s.published) seat);
        taken = (commands entries, ap (λ (s : FlushSeatValue). s.taken) seat);
        opening = fell.opening ∙ ap (λ (f : Flushed D). f.opening) took_is;
        left = ([], fell.left ∙ (ap (λ (f : Flushed D). f.left) took_is ∙ sym (append-nil old.left)));
      }

  none_published : Falls took new → IsUnpublished old new
  none_published fell = (
    ap (λ (s : FlushSeatValue). s.published) fell.seat ∙ ap (λ (f : Flushed D). f.seat.published) took_is,
    fell.left ∙ ap (λ (f : Flushed D). f.left) took_is,
  )

  store_falls : (X : Type 0) (fault : FlushFault) → took.broken ≡ false → IsOutcome {X = Unit {0}} took new (Err fault) → IsTurn {X = X} old new (Err fault) × PublishesNone {X = X} old new (Err fault)
  store_falls X Device sound outcome = (turn_falls outcome, none_published outcome)
  store_falls X Full sound outcome = (turn_falls outcome, none_published outcome)
  store_falls X (Memory refused) sound outcome = (turn_falls outcome, tt)
  store_falls X Broken sound outcome = absurd (false≢true (sym sound ∙ outcome.0))

-- a turn that took nothing
gather_falls : {D : Type 0} (old new : Flushed D) → Falls old new → TurnFalls old new
gather_falls old new fell = record {
  was = fell.was;
  now = fell.now;
  stopped = ap (λ (s : FlushSeatValue). s.stopped) fell.seat;
  ring = ap (λ (s : FlushSeatValue). s.ring) fell.seat;
  base = ap (λ (s : FlushSeatValue). s.base) fell.seat;
  seats = ap (λ (s : FlushSeatValue). s.seats) fell.seat;
  published = omega (arith, ap (λ (s : FlushSeatValue). s.published) fell.seat);
  taken = ([], ap (λ (s : FlushSeatValue). s.taken) fell.seat ∙ sym (append-nil old.seat.taken));
  opening = fell.opening;
  left = ([], fell.left ∙ sym (append-nil old.left));
}

gather_shows : {D : Type 0} (old new : Flushed D) → Falls old new → IsUnpublished old new
gather_shows old new fell = (ap (λ (s : FlushSeatValue). s.published) fell.seat, fell.left)

gather_fails : {D : Type 0} (old new : Flushed D) (fault : FlushFault) → IsOutcome {X = ℕ} old new (Err fault) → IsTurn {X = ℕ} old new (Err fault) × PublishesNone {X = ℕ} old new (Err fault)
gather_fails old new Device fell = (gather_falls old new fell, gather_shows old new fell)
gather_fails old new Full fell = (gather_falls old new fell, gather_shows old new fell)
gather_fails old new Broken was = (was, tt)
gather_fails old new (Memory refused) fell = (gather_falls old new fell, tt)

-- memory was refused midway
pub midway_fails : {D : Type 0} (X : Type 0) (old new : Flushed D) (fault : FlushFault) → IsMemory {T = X} (Err fault) → TurnFalls old new → IsTurn {X = ℕ} old new (Err fault) × PublishesNone {X = ℕ} old new (Err fault)
midway_fails X old new Device memory fell = absurd memory
midway_fails X old new Full memory fell = absurd memory
midway_fails X old new Broken memory fell = absurd memory
midway_fails X old new (Memory refused) memory fell = (fell, tt)

module _ {D : Type 0} (disk : Ghosts D) where
  pub gather_breaks : (old new : Flushed D) (fault : FlushFault) → NeedsNoDisk {T = ℕ} (Err fault) → new.disk ≡ old.disk → IsOutcome {X = ℕ} old new (Err fault) → (new.broken ≡ true) × (new.seat.stopped ≡ true)
      → TurnBreaks {X = ℕ} disk old new (Err fault)
  gather_breaks old new fault none same outcome stops = record {
    outcome = (gather_fails old new fault outcome).0;
    unpublished = (gather_fails old new fault outcome).1;
    stops = stops;
    cause = caused_none ℕ ℕ fault (disk.failures old.disk) (disk.failures new.disk) none (ap (λ (d : D). disk.failures d) same);
  }

  -- a turn that stored nothing, or failed at that
  pub store_breaks : (old took new : Flushed D) (entries : List (EntryValue SenderValue)) (fault : FlushFault) → old.broken ≡ false → took.broken ≡ false → took ≡ taking old entries
      → FlushBreaks {X = Unit {0}} disk took new (Err fault) → TurnBreaks {X = ℕ} disk old new (Err fault)
  store_breaks old took new entries fault whole sound is breaks = record {
    outcome = (store_falls old took new entries whole is ℕ fault sound breaks.outcome).0;
    unpublished = (store_falls old took new entries whole is ℕ fault sound breaks.outcome).1;
    stops = breaks.stops;
    cause = subst (λ (f : Flushed D). IsFlushCaused {T = ℕ} (disk.failures f.disk) (disk.failures new.disk) (Err fault)) is (caused_as (Unit {0}) ℕ fault (disk.failures took.disk) (disk.failures new.disk) breaks.cause);
  }

  -- a step that needs no disk finds room
  pub refuses_none : (X : Type 0) (most most_bytes : ℕ) (old new : Flushed D) (fault : FlushFault) → NeedsNoDisk {T = X} (Err fault) → RefusesTurn {X = ℕ} disk most most_bytes old new (Err fault)
  refuses_none X most most_bytes old new fault none = record {
    room = record { full = λ is. absurd (never_full X ℕ fault none is); no_room = λ honest is. absurd (never_full X ℕ fault none is) };
    batch = λ is. absurd (never_full X ℕ fault none is);
  }
