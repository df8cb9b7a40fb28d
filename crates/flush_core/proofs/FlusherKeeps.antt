-- What a flusher keeps, from call to call.
use Rattle.std.proofs.Common.{◌≡◌, ◌<◌, ◌≤◌, ◌+◌, ◌-◌, ◌^◌, ◌++◌, ⊎_elim, ℕ, Bool, true, false, List, [], ◌∷◌, cond, drop, length, length-append, take, refl, sym, ◌∙◌, ap, subst, arith}
use Rattle.std.proofs.Math.Logic.{∥∥₁_map}
use Rattle.std.proofs.lemmas.List.{length-take-le, take-append-drop, take-map}
use Rattle.std.specs.List.{drop-map}
use Rattle.frame_core.proofs.Lists.{all_append}
use Rattle.command_core.specs.Commands.{CommandValue}
use Rattle.area_core.specs.Areas.{commands, records}
use Rattle.command_core.specs.Entries.{EntryValue}
use Rattle.command_core.specs.Outs.{OutValue}
use Rattle.broker_core.specs.Sound.{IsSound}
use Rattle.broker_core.specs.States.{BrokerValue, State}
use Rattle.broker_state.specs.States.{IsInOrder}
use Rattle.broker_core.specs.Steps.{outs_of, state_after}
use Rattle.claim_core.specs.Seats.{FlushSeatValue, next_ticket, when_stopped, with_mark}
use Rattle.recover_core.specs.Standing.{StandFor, Stands, StandsForEither}
use Rattle.flush_core.specs.Batches.{IsBatch, between, from_on, state_at, with_more}
use Rattle.flush_core.specs.Flusher.{AfterSome, AreUnder, Latest, Flushed, HoldBetween, IsFlusher, IsHeld, unexecuted}
use Rattle.flush_core.specs.FlusherOutcomes.{Gives, executing, standing, stored_entries}
use Rattle.flush_core.specs.Sessions.{boxes_after, ended_of}
use Rattle.outbox_core.specs.Boxes.{SenderValue}
use Rattle.outbox_core.specs.Giving.{AreGiven, Kept, unboxed}
use Rattle.std.specs.Prelude.{filter}
use Rattle.flush_core.proofs.BatchPrefixes.{records_cut}
use Rattle.flush_core.proofs.SessionBoxes.{commands_both, no_entries}
use Rattle.std.proofs.Math.Seq.{drop-append_seam, take-append_seam}
use Rattle.flush_core.proofs.TakenCommands.{at_between, at_more, at_start, between_from, between_more, between_none, count_after, from_end, from_front, length_between, length_commands, order_after, outs_under, under_more}

-- each image stands for the state at one number
pub hold_at : (images : List ℕ → Type 0) (opening : State) (seat : FlushSeatValue) (n : ℕ) → seat.published ≤ n → n ≤ next_ticket seat → StandFor images (state_at opening seat n) → HoldBetween images opening seat
hold_at images opening seat n marked taken stand c image = ∣ record { number = n; marked = marked; taken = taken; stands = stand c image } ∣₁

-- each image stands for the state at one number, or at another
pub hold_either : (images : List ℕ → Type 0) (opening : State) (seat : FlushSeatValue) (n m : ℕ) → seat.published ≤ n → n ≤ m → m ≤ next_ticket seat
    → ((c : List ℕ) → images c → StandsForEither (state_at opening seat n) (state_at opening seat m) c) → HoldBetween images opening seat
hold_either images opening seat n m marked rises taken either c image =
    ∥∥₁_map (either c image) (⊎_elim before after)
  where
    before : Stands c (state_at opening seat n) → AfterSome opening seat c
    before st = record { number = n; marked = marked; taken = omega (arith, rises, taken); stands = st }

    after : Stands c (state_at opening seat m) → AfterSome opening seat c
    after st = record { number = m; marked = omega (arith, marked, rises); taken = taken; stands = st }

-- the ring is stopped
pub hold_stopped : (images : List ℕ → Type 0) (opening : State) (seat : FlushSeatValue) → HoldBetween images opening seat → HoldBetween images opening (when_stopped seat)
hold_stopped images opening seat hold c image =
    ∥∥₁_map (hold c image) (λ (h : AfterSome opening seat c). record { number = h.number; marked = h.marked; taken = h.taken; stands = h.stands })

pub hold_more : (images : List ℕ → Type 0) (opening : State) (seat : FlushSeatValue) (more : List CommandValue) → HoldBetween images opening seat → HoldBetween images opening (with_more seat more)
hold_more images opening seat more hold c image =
    ∥∥₁_map (hold c image) (λ (h : AfterSome opening seat c). record {
      number = h.number;
      marked = h.marked;
      taken = omega (arith, h.taken, length-append seat.taken more);
      stands = subst (λ (s : State). Stands c s) (sym (at_more opening seat more h.number h.taken)) h.stands;
    })

-- the entries stand for the same where the mark is raised
pub held_marked : {B : Type 0} (seat marked : FlushSeatValue) (n stored executed : ℕ) (journal : Bool) (batch done : List (EntryValue B)) (bytes left waiting room l w r : ℕ) → marked ≡ with_mark seat n → (0 < l → l + w ≤ r)
    → IsHeld seat stored executed journal batch done bytes left waiting room → IsHeld marked stored executed journal batch done bytes l w r
held_marked seat marked n stored executed journal batch done bytes left waiting room l w r is fits held =
    subst (λ (s : FlushSeatValue). IsHeld s stored executed journal batch done bytes l w r) (sym is)
    (record { whole = held.whole; batch_is = held.batch_is; bytes_is = held.bytes_is; done_is = held.done_is; few = held.few; room_is = fits })

-- more waits to be stored
pub held_more : {B : Type 0} (seat next : FlushSeatValue) (more : List CommandValue) (stored executed : ℕ) (journal : Bool) (batch done next_batch : List (EntryValue B)) (bytes now left waiting room : ℕ)
    → next ≡ with_more seat more → commands next_batch ≡ from_on next stored → now ≡ length (records (commands next_batch))
    → executed ≤ stored → stored ≤ next_ticket seat → seat.base ≤ executed
    → IsHeld seat stored executed journal batch done bytes left waiting room → IsHeld next stored executed journal next_batch done now left waiting room
held_more seat next more stored executed journal batch done next_batch bytes now left waiting room is batch_is bytes_is rises few begun held = record {
  whole = held.whole;
  batch_is = batch_is;
  bytes_is = bytes_is;
  done_is = held.done_is ∙ (sym (between_more seat more executed stored begun rises few) ∙ ap (λ (s : FlushSeatValue). between s executed stored) (sym is));
  few = held.few;
  room_is = held.room_is;
}

-- the first of what waited to be stored waits to be executed
pub held_stored : {B : Type 0} (seat : FlushSeatValue) (stored next executed k : ℕ) (journal now : Bool) (batch done next_batch next_done : List (EntryValue B)) (bytes fewer left waiting room : ℕ)
    → next_batch ≡ drop k batch → next_done ≡ take k batch → next ≡ stored + k → next ≤ 2 ^ 62 → now ≡ false → executed ≡ stored → seat.base ≤ stored → fewer ≡ bytes - length (records (commands next_done))
    → IsHeld seat stored executed journal batch done bytes left waiting room → IsHeld seat next executed now next_batch next_done fewer left waiting room
held_stored {B} seat stored next executed k journal now batch done next_batch next_done bytes fewer left waiting room batch_is done_is next_is most whole same begun bytes_are held =
    let first : commands next_done ≡ take k (commands batch) = ap (λ (l : List (EntryValue B)). commands l) done_is ∙ sym (take-map (λ (entry : EntryValue B). entry.command) k batch) in
    let rest : commands next_batch ≡ drop k (commands batch) = ap (λ (l : List (EntryValue B)). commands l) batch_is ∙ sym (drop-map (λ (entry : EntryValue B). entry.command) k batch) in
    let count : k ≡ next - executed = omega (arith, next_is, same) in
    record {
      whole = whole;
      batch_is = rest ∙ (ap (λ (l : List CommandValue). drop k l) held.batch_is ∙ (from_front seat stored k begun ∙ ap (λ (n : ℕ). from_on seat n) (sym next_is)));
      bytes_is = omega (
        arith,
        bytes_are,
        held.bytes_is,
        records_cut k (commands batch),
        ap (λ (l : List CommandValue). length (records l)) first,
        ap (λ (l : List CommandValue). length (records l)) rest,
      );
      done_is = first
          ∙ (ap (λ (l : List CommandValue). take k l) held.batch_is
          ∙ (ap (λ (n : ℕ). take n (from_on seat stored)) count ∙ ap (λ (n : ℕ). take (next - executed) (from_on seat n)) (sym same)));
      few = most;
      room_is = held.room_is;
    }

-- nothing waits to be executed
pub held_executed : {B : Type 0} (seat : FlushSeatValue) (stored executed : ℕ) (journal : Bool) (batch done next_done : List (EntryValue B)) (bytes left waiting room l w r : ℕ)
    → next_done ≡ [] → (0 < l → l + w ≤ r) → IsHeld seat stored executed journal batch done bytes left waiting room → IsHeld seat stored stored journal batch next_done bytes l w r
held_executed {B} seat stored executed journal batch done next_done bytes left waiting room l w r none fits held = record {
  whole = held.whole;
  batch_is = held.batch_is;
  bytes_is = held.bytes_is;
  done_is = ap (λ (l : List (EntryValue B)). commands l) none ∙ sym (between_none seat stored);
  few = held.few;
  room_is = fits;
}

-- where all that is stored is executed, none waits to be executed
pub none_done : {B : Type 0} (seat : FlushSeatValue) (stored executed : ℕ) (journal : Bool) (batch done : List (EntryValue B)) (bytes left waiting room : ℕ) → executed ≡ stored
    → IsHeld seat stored executed journal batch done bytes left waiting room → commands done ≡ []
none_done seat stored executed journal batch done bytes left waiting room same held =
    held.done_is ∙ (ap (λ (n : ℕ). between seat n stored) same ∙ between_none seat stored)

-- the entries that are stored or gathered are those of the commands from the executed number on
pub all_brought : {B : Type 0} (seat : FlushSeatValue) (stored executed : ℕ) (journal : Bool) (batch done : List (EntryValue B)) (bytes left waiting room : ℕ) → seat.base ≤ executed → executed ≤ stored
    → IsHeld seat stored executed journal batch done bytes left waiting room → commands (done ++ batch) ≡ from_on seat executed
all_brought seat stored executed journal batch done bytes left waiting room begun rises held =
    commands_both done batch ∙ ((λ i. held.done_is i ++ held.batch_is i) ∙ between_from seat executed stored begun rises)

-- what was gathered and is stored stays brought
pub stored_brought : {B : Type 0} (seat : FlushSeatValue) (stored executed k : ℕ) (journal : Bool) (batch done next_batch next_done : List (EntryValue B)) (bytes left waiting room : ℕ) → next_batch ≡ drop k batch → next_done ≡ take k batch
    → executed ≡ stored → IsHeld seat stored executed journal batch done bytes left waiting room → next_done ++ next_batch ≡ done ++ batch
stored_brought {B} seat stored executed k journal batch done next_batch next_done bytes left waiting room batch_is done_is same held =
    let none : done ≡ [] = no_entries done (held.done_is ∙ (ap (λ (n : ℕ). between seat n stored) same ∙ between_none seat stored)) in
    (λ i. done_is i ++ batch_is i) ∙ (take-append-drop k batch ∙ ap (λ (l : List (EntryValue B)). l ++ batch) (sym none))

-- of what was brought the stored entries come first, and then the gathered ones
pub executed_entries : {B : Type 0} (seat : FlushSeatValue) (stored executed : ℕ) (journal : Bool) (batch done : List (EntryValue B)) (bytes left waiting room : ℕ) → seat.base ≤ executed → executed ≤ stored → stored ≤ next_ticket seat
    → IsHeld seat stored executed journal batch done bytes left waiting room → (take (stored - executed) (done ++ batch) ≡ done) × (drop (stored - executed) (done ++ batch) ≡ batch)
executed_entries seat stored executed journal batch done bytes left waiting room begun rises few held =
    let long : stored - executed ≡ length done =
    omega (arith, length_commands done, ap (λ (l : List CommandValue). length l) held.done_is, length_between seat executed stored begun rises few) in (
      ap (λ (n : ℕ). take n (done ++ batch)) long ∙ take-append_seam done batch,
      ap (λ (n : ℕ). drop n (done ++ batch)) long ∙ drop-append_seam done batch,
    )

-- what a filter keeps is under the mark too
pub under_kept : (n : ℕ) (p : OutValue → Bool) (outs : List OutValue) → AreUnder n outs → AreUnder n (filter p outs)
under_kept n p [] under = tt
under_kept n p (out ∷ outs) under = by (p out) (under_kept n p outs under.1)
  where
    by : (b : Bool) → AreUnder n (filter p outs) → AreUnder n (cond b (out ∷ filter p outs) (filter p outs))
    by true rest = (under.0, rest)
    by false rest = rest

-- and so is what comes after others
pub under_rest : (n : ℕ) (xs ys : List OutValue) → AreUnder n (xs ++ ys) → AreUnder n ys
under_rest n [] ys under = under
under_rest n (x ∷ xs) ys under = under_rest n xs ys under.1

pub nothing : {X : Type 0} (l : List X) → length l ≡ 0 → l ≡ []
nothing [] none = refl
nothing (x ∷ l) none = absurd (omega (arith, none))

-- the batch of none
pub no_batch : (most most_bytes : ℕ) → IsBatch most most_bytes []
no_batch most most_bytes = record { few = omega arith; small = λ some. absurd (some refl) }

module _ {D : Type 0} (honest : D → Type 0) (images : D → List ℕ → Type 0) where
  pub starts : (f : Flushed D) → f.seat.taken ≡ [] → f.seat.published ≡ f.seat.base → f.stored ≡ f.seat.base → f.executed ≡ f.seat.base
      → f.broker ≡ record { state = f.opening; broken = false } → f.opening.count ≡ f.seat.base → IsSound f.opening
      → (honest f.disk → StandFor (images f.disk) f.opening) → f.brought ≡ [] → f.waiting ≡ [] → f.left ≡ [] → f.broken ≡ false → IsFlusher honest images f
  starts f none published stored executed broker count sound stand brought waiting left whole =
      let same : (n : ℕ) → state_at f.opening f.seat n ≡ f.opening = λ n. at_start f.opening f.seat n none in
      let at : (n : ℕ) → honest f.disk → StandFor (images f.disk) (state_at f.opening f.seat n) = λ n h. subst (λ (s : State). StandFor (images f.disk) s) (sym (same n)) (stand h) in
      record {
        begun = omega (arith, published);
        marked = omega (arith, published, executed);
        executed = omega (arith, executed, stored);
        stored = omega (arith, stored);
        opened = count;
        sound = sound;
        each = λ h. hold_at (images f.disk) f.opening f.seat f.seat.base (omega (arith, published)) (omega arith) (at f.seat.base h);
        under = subst (λ (l : List OutValue). AreUnder f.seat.published l) (sym left) tt;
        stopped = λ broken. absurd (cc (broken, whole));
        running = λ _. record {
          stands = at f.stored;
          broker = broker ∙ ap (λ (s : State). record { state = s; broken = false }) (sym (same f.executed));
          brought = ap (λ (l : List (EntryValue SenderValue)). commands l) brought ∙ sym (from_end f.seat f.executed (omega (arith, executed, ap (λ (l : List CommandValue). length l) none)));
          waiting = subst (λ (l : List OutValue). AreUnder f.executed l) (sym waiting) tt;
        };
      }

  -- more is taken
  pub takes : (f : Flushed D) (seat : FlushSeatValue) (more : List CommandValue) (brought : List (EntryValue SenderValue)) → seat ≡ with_more f.seat more → commands brought ≡ from_on seat f.executed → f.broken ≡ false
      → IsFlusher honest images f → IsFlusher honest images (record f { seat = seat; brought = brought })
  takes f seat more brought is entries whole kept = subst (λ (s : FlushSeatValue). IsFlusher honest images (record f { seat = s; brought = brought })) (sym is) (record {
    begun = kept.begun;
    marked = kept.marked;
    executed = kept.executed;
    stored = omega (arith, kept.stored, length-append f.seat.taken more);
    opened = kept.opened;
    sound = kept.sound;
    each = λ h. hold_more (images f.disk) f.opening f.seat more (kept.each h);
    under = kept.under;
    stopped = kept.stopped;
    running = λ _.
        let run = kept.running whole in
        let executed : f.executed ≤ next_ticket f.seat = omega (arith, kept.executed, kept.stored) in
        record {
          stands = λ h. subst (λ (s : State). StandFor (images f.disk) s) (sym (at_more f.opening f.seat more f.stored kept.stored)) (run.stands h);
          broker = run.broker ∙ ap (λ (s : State). record { state = s; broken = false }) (sym (at_more f.opening f.seat more f.executed executed));
          brought = subst (λ (s : FlushSeatValue). commands brought ≡ from_on s f.executed) is entries;
          waiting = run.waiting;
        };
  })

  -- a step fails that reaches no disk
  pub fails : (f : Flushed D) (seat : FlushSeatValue) (brought : List (EntryValue SenderValue)) (broker : BrokerValue) (boxes : Kept) (ended past : List ℕ) (waiting left : List OutValue) → seat ≡ when_stopped f.seat → left ≡ f.left
      → IsFlusher honest images f → IsFlusher honest images (record f { seat = seat; brought = brought; broker = broker; boxes = boxes; ended = ended; past = past; waiting = waiting; left = left; broken = true })
  fails f seat brought broker boxes ended past waiting left is same kept =
      subst (λ (s : FlushSeatValue). IsFlusher honest images (record f { seat = s; brought = brought; broker = broker; boxes = boxes; ended = ended; past = past; waiting = waiting; left = left; broken = true })) (sym is) (record {
        begun = kept.begun;
        marked = kept.marked;
        executed = kept.executed;
        stored = kept.stored;
        opened = kept.opened;
        sound = kept.sound;
        each = λ h. hold_stopped (images f.disk) f.opening f.seat (kept.each h);
        under = subst (λ (l : List OutValue). AreUnder f.seat.published l) (sym same) kept.under;
        stopped = λ _. refl;
        running = λ whole. absurd (cc whole);
      })

  -- the store fails
  pub store_fails : (f : Flushed D) (seat : FlushSeatValue) (next : D) (size used : ℕ) (brought : List (EntryValue SenderValue)) → seat ≡ when_stopped f.seat
      → (honest next → HoldBetween (images next) f.opening f.seat) → IsFlusher honest images f
      → IsFlusher honest images (record f { disk = next; size = size; used = used; seat = seat; brought = brought; broken = true })
  store_fails f seat next size used brought is each kept = subst (λ (s : FlushSeatValue). IsFlusher honest images (record f { disk = next; size = size; used = used; seat = s; brought = brought; broken = true })) (sym is) (record {
    begun = kept.begun;
    marked = kept.marked;
    executed = kept.executed;
    stored = kept.stored;
    opened = kept.opened;
    sound = kept.sound;
    each = λ h. hold_stopped (images next) f.opening f.seat (each h);
    under = kept.under;
    stopped = λ _. refl;
    running = λ whole. absurd (cc whole);
  })

  -- the journal is compacted
  pub compacts : (f : Flushed D) (next : D) (size used : ℕ) (last : Latest) → f.broken ≡ false → (honest next → StandFor (images next) (state_at f.opening f.seat f.stored)) → IsFlusher honest images f
      → IsFlusher honest images (record f { disk = next; size = size; used = used; last = last })
  compacts f next size used last whole stand kept =
      let run = kept.running whole in
      record {
        begun = kept.begun;
        marked = kept.marked;
        executed = kept.executed;
        stored = kept.stored;
        opened = kept.opened;
        sound = kept.sound;
        each = λ h. hold_at (images next) f.opening f.seat f.stored (omega (arith, kept.marked, kept.executed)) kept.stored (stand h);
        under = kept.under;
        stopped = kept.stopped;
        running = λ _. record { stands = stand; broker = run.broker; brought = run.brought; waiting = run.waiting };
      }

  -- what was won is told
  pub tells : (f : Flushed D) (last : Latest) → IsFlusher honest images f → IsFlusher honest images (record f { last = last })
  tells f last kept =
      record {
        begun = kept.begun;
        marked = kept.marked;
        executed = kept.executed;
        stored = kept.stored;
        opened = kept.opened;
        sound = kept.sound;
        each = kept.each;
        under = kept.under;
        stopped = kept.stopped;
        running = λ whole. let run = kept.running whole in record { stands = run.stands; broker = run.broker; brought = run.brought; waiting = run.waiting };
      }

  -- what was taken is stored up to a number
  pub stores : (f : Flushed D) (next : D) (size used n : ℕ) (last : Latest) (brought : List (EntryValue SenderValue)) → f.stored ≤ n → n ≤ next_ticket f.seat → f.broken ≡ false
      → (honest next → StandFor (images next) (state_at f.opening f.seat n)) → brought ≡ f.brought → IsFlusher honest images f
      → IsFlusher honest images (record f { disk = next; size = size; used = used; stored = n; brought = brought; last = last })
  stores f next size used n last brought rises few whole stand same kept =
      let run = kept.running whole in
      record {
        begun = kept.begun;
        marked = kept.marked;
        executed = omega (arith, rises, kept.executed);
        stored = few;
        opened = kept.opened;
        sound = kept.sound;
        each = λ h. hold_at (images next) f.opening f.seat n (omega (arith, rises, kept.marked, kept.executed)) few (stand h);
        under = kept.under;
        stopped = kept.stopped;
        running = λ _. record {
          stands = stand;
          broker = run.broker;
          brought = ap (λ (l : List (EntryValue SenderValue)). commands l) same ∙ run.brought;
          waiting = run.waiting;
        };
      }

  -- the broker counts what is executed
  pub count_at : (f : Flushed D) → IsFlusher honest images f → (state_at f.opening f.seat f.executed).count ≡ f.executed
  count_at f kept =
      let most : f.executed - f.seat.base ≤ length f.seat.taken = omega (arith, kept.executed, kept.stored) in
      omega (arith, count_after (take (f.executed - f.seat.base) f.seat.taken) f.opening, kept.opened, length-take-le (f.executed - f.seat.base) f.seat.taken most, kept.begun, kept.marked)

  pub broker_count : (f : Flushed D) → f.broken ≡ false → IsFlusher honest images f → f.broker.state.count ≡ f.executed
  broker_count f whole kept = ap (λ (b : BrokerValue). b.state.count) (kept.running whole).broker ∙ count_at f kept

  pub executed_state : (f : Flushed D) → f.broken ≡ false → IsFlusher honest images f → state_after f.broker.state (unexecuted f) ≡ state_at f.opening f.seat f.stored
  executed_state f whole kept =
      let state : f.broker.state ≡ state_at f.opening f.seat f.executed = ap (λ (b : BrokerValue). b.state) (kept.running whole).broker in
      ap (λ (s : State). state_after s (unexecuted f)) state ∙ at_between f.opening f.seat f.executed f.stored (omega (arith, kept.begun, kept.marked)) kept.executed

  -- the numbers that are executed are counted in 62 bits
  pub counts : {B : Type 0} (f : Flushed D) (done : List (EntryValue B)) → f.broken ≡ false → IsFlusher honest images f → commands done ≡ unexecuted f → f.stored ≤ 2 ^ 62 → f.broker.state.count + length done ≤ 2 ^ 62
  counts f done whole kept is few =
      let begun : f.seat.base ≤ f.executed = omega (arith, kept.begun, kept.marked) in
      let state = ap (λ (b : BrokerValue). b.state.count) (kept.running whole).broker in
      omega (arith, state, count_at f kept, length_commands done, ap (λ (l : List CommandValue). length l) is, length_between f.seat f.executed f.stored begun kept.executed kept.stored, kept.executed, few)

  pub executing_is : (f : Flushed D) (brought : List (EntryValue SenderValue)) (broker : BrokerValue) (boxes : Kept) (ended past : List ℕ) (waiting left : List OutValue) → f.broken ≡ false → IsFlusher honest images f
      → brought ≡ drop (f.stored - f.executed) f.brought → boxes ≡ boxes_after f.executed f.boxes (stored_entries f) → ended ≡ f.ended ++ ended_of f.broker.state (unexecuted f) → past ≡ f.past
      → broker ≡ record { state = state_after f.broker.state (unexecuted f); broken = false } → waiting ≡ f.waiting ++ outs_of f.broker.state (unexecuted f) → left ≡ f.left
      → record f { executed = f.stored; brought = brought; broker = broker; boxes = boxes; ended = ended; past = past; waiting = waiting; left = left } ≡ executing f
  executing_is f brought broker boxes ended past waiting left whole kept entries given ends last is outs same =
      let all : broker ≡ record { state = state_at f.opening f.seat f.stored; broken = false } = is ∙ ap (λ (s : State). record { state = s; broken = false }) (executed_state f whole kept) in
      λ i. record f { executed = f.stored; brought = entries i; broker = all i; boxes = given i; ended = ends i; past = last i; waiting = outs i; left = same i }

  -- all that is stored is executed
  pub executes : (f : Flushed D) (brought : List (EntryValue SenderValue)) (broker : BrokerValue) (boxes : Kept) (ended past : List ℕ) (waiting left : List OutValue) → commands brought ≡ from_on f.seat f.stored
      → broker ≡ record { state = state_after f.broker.state (unexecuted f); broken = false } → waiting ≡ f.waiting ++ outs_of f.broker.state (unexecuted f) → left ≡ f.left → f.broken ≡ false
      → IsFlusher honest images f → IsFlusher honest images (record f { executed = f.stored; brought = brought; broker = broker; boxes = boxes; ended = ended; past = past; waiting = waiting; left = left })
  executes f brought broker boxes ended past waiting left entries is outs same whole kept =
      let run = kept.running whole in
      let begun : f.seat.base ≤ f.executed = omega (arith, kept.begun, kept.marked) in
      let state : f.broker.state ≡ state_at f.opening f.seat f.executed = ap (λ (b : BrokerValue). b.state) run.broker in
      let all = executed_state f whole kept in
      let order : IsInOrder f.broker.state = subst (λ (s : State). IsInOrder s) (sym state) (order_after (take (f.executed - f.seat.base) f.seat.taken) f.opening kept.sound.order) in
      let counted : f.broker.state.count ≡ f.executed = ap (λ (s : State). s.count) state ∙ count_at f kept in
      let new : AreUnder f.stored (outs_of f.broker.state (unexecuted f)) = outs_under (unexecuted f) f.broker.state f.stored order (omega (arith, counted, length_between f.seat f.executed f.stored begun kept.executed kept.stored, kept.executed)) in
      record {
        begun = kept.begun;
        marked = omega (arith, kept.marked, kept.executed);
        executed = omega arith;
        stored = kept.stored;
        opened = kept.opened;
        sound = kept.sound;
        each = kept.each;
        under = subst (λ (l : List OutValue). AreUnder f.seat.published l) (sym same) kept.under;
        stopped = kept.stopped;
        running = λ _. record {
          stands = run.stands;
          broker = is ∙ ap (λ (s : State). record { state = s; broken = false }) all;
          brought = entries;
          waiting = subst (λ (l : List OutValue). AreUnder f.stored l) (sym outs) (all_append (λ (out : OutValue). out.number < f.stored) f.waiting (outs_of f.broker.state (unexecuted f)) (under_more f.executed f.stored f.waiting kept.executed run.waiting) new);
        };
      }

  -- The first outputs are published, and the others wait.
  raises : (f : Flushed D) (seat : FlushSeatValue) (boxes : Kept) (ended past : List ℕ) (given waiting more left : List OutValue) → seat ≡ with_mark f.seat seat.published → f.seat.published ≤ seat.published → seat.published ≤ f.executed
      → given ++ waiting ≡ f.waiting → left ≡ f.left ++ more → AreUnder seat.published more → f.broken ≡ false
      → IsFlusher honest images f → IsFlusher honest images (record f { seat = seat; boxes = boxes; ended = ended; past = past; waiting = waiting; left = left })
  raises f seat boxes ended past given waiting more left is raised few outs left_is under whole kept =
      subst (λ (s : FlushSeatValue). IsFlusher honest images (record f { seat = s; boxes = boxes; ended = ended; past = past; waiting = waiting; left = left })) (sym is)
      (let run = kept.running whole in record {
        begun = omega (arith, kept.begun, raised);
        marked = few;
        executed = kept.executed;
        stored = kept.stored;
        opened = kept.opened;
        sound = kept.sound;
        each = λ h. hold_at (images f.disk) f.opening (with_mark f.seat seat.published) f.stored (omega (arith, few, kept.executed)) kept.stored (run.stands h);
        under = subst (λ (l : List OutValue). AreUnder seat.published l) (sym left_is) (all_append (λ (out : OutValue). out.number < seat.published) f.left more (under_more f.seat.published seat.published f.left raised kept.under) under);
        stopped = kept.stopped;
        running = λ _. record { stands = run.stands; broker = run.broker; brought = run.brought; waiting = under_rest f.executed given waiting (subst (λ (l : List OutValue). AreUnder f.executed l) (sym outs) run.waiting) };
      })

  -- all that is stored is executed, and the first outputs are published
  pub gives : (f : Flushed D) (seat : FlushSeatValue) (brought : List (EntryValue SenderValue)) (broker : BrokerValue) (boxes : Kept) (ended past : List ℕ) (given waiting more left : List OutValue) → commands brought ≡ from_on f.seat f.stored
      → broker ≡ record { state = state_after f.broker.state (unexecuted f); broken = false } → given ++ waiting ≡ f.waiting ++ outs_of f.broker.state (unexecuted f)
      → seat ≡ with_mark f.seat seat.published → f.seat.published ≤ seat.published → seat.published ≤ f.stored → left ≡ f.left ++ more → AreUnder seat.published more → f.broken ≡ false
      → IsFlusher honest images f → IsFlusher honest images (record f { seat = seat; executed = f.stored; brought = brought; broker = broker; boxes = boxes; ended = ended; past = past; waiting = waiting; left = left })
  gives f seat brought broker boxes ended past given waiting more left entries is outs seat_is raised few left_is under whole kept =
      let all = record f { executed = f.stored; brought = brought; broker = broker; boxes = boxes; ended = ended; past = past; waiting = given ++ waiting; left = f.left } in
      raises all seat boxes ended past given waiting more left seat_is raised few refl left_is under whole
      (executes f brought broker boxes ended past (given ++ waiting) f.left entries is outs refl whole kept)

  -- memory was refused by then
  pub gives_and_falls : (f : Flushed D) (seat : FlushSeatValue) (mark executed : ℕ) (brought : List (EntryValue SenderValue)) (broker : BrokerValue) (boxes : Kept) (ended past : List ℕ) (waiting more left : List OutValue)
      → seat ≡ when_stopped (with_mark f.seat mark) → f.seat.published ≤ mark → mark ≤ executed → executed ≤ f.stored → left ≡ f.left ++ more → AreUnder mark more → f.broken ≡ false
      → IsFlusher honest images f → IsFlusher honest images (record f { seat = seat; executed = executed; brought = brought; broker = broker; boxes = boxes; ended = ended; past = past; waiting = waiting; left = left; broken = true })
  gives_and_falls f seat mark executed brought broker boxes ended past waiting more left is raised few most left_is under whole kept =
      subst (λ (s : FlushSeatValue). IsFlusher honest images (record f { seat = s; executed = executed; brought = brought; broker = broker; boxes = boxes; ended = ended; past = past; waiting = waiting; left = left; broken = true })) (sym is)
      (let run = kept.running whole in record {
        begun = omega (arith, kept.begun, raised);
        marked = few;
        executed = most;
        stored = kept.stored;
        opened = kept.opened;
        sound = kept.sound;
        each = λ h. hold_stopped (images f.disk) f.opening (with_mark f.seat mark) (hold_at (images f.disk) f.opening (with_mark f.seat mark) f.stored (omega (arith, few, most)) kept.stored (run.stands h));
        under = subst (λ (l : List OutValue). AreUnder mark l) (sym left_is) (all_append (λ (out : OutValue). out.number < mark) f.left more (under_more f.seat.published mark f.left raised kept.under) under);
        stopped = λ _. refl;
        running = λ whole. absurd (cc whole);
      })

  pub gives_is : (f : Flushed D) (seat : FlushSeatValue) (brought : List (EntryValue SenderValue)) (broker : BrokerValue) (boxes base : Kept) (ended past : List ℕ) (given waiting left : List OutValue) → f.broken ≡ false → IsFlusher honest images f
      → brought ≡ drop (f.stored - f.executed) f.brought → base ≡ standing (executing f) → ended ≡ f.ended ++ ended_of f.broker.state (unexecuted f) → past ≡ []
      → broker ≡ record { state = state_after f.broker.state (unexecuted f); broken = false } → given ++ waiting ≡ f.waiting ++ outs_of f.broker.state (unexecuted f) → left ≡ f.left ++ unboxed base given
      → AreGiven given base boxes → seat ≡ with_mark f.seat seat.published → f.seat.published ≤ seat.published → seat.published ≤ f.stored
      → Gives f (record f { seat = seat; executed = f.stored; brought = brought; broker = broker; boxes = boxes; ended = ended; past = past; waiting = waiting; left = left })
  gives_is f seat brought broker boxes base ended past given waiting left whole kept entries base_is ends none is outs left_is boxed seat_is raised few =
      let all : broker ≡ record { state = state_at f.opening f.seat f.stored; broken = false } = is ∙ ap (λ (s : State). record { state = s; broken = false }) (executed_state f whole kept) in
      let remains : left ≡ f.left ++ unboxed (standing (executing f)) given = left_is ∙ ap (λ (b : Kept). f.left ++ unboxed b given) base_is in
      record {
        given = given;
        is = λ i. record f { seat = seat_is i; executed = f.stored; brought = entries i; broker = all i; boxes = boxes; ended = ends i; past = none i; waiting = waiting; left = remains i };
        outs = outs;
        boxed = subst (λ (b : Kept). AreGiven given b boxes) base_is boxed;
        raised = raised;
        within = few;
      }

  -- the broker is one whose commands came in order
  pub broker_in_order : (f : Flushed D) → f.broken ≡ false → IsFlusher honest images f → IsInOrder f.broker.state
  broker_in_order f whole kept =
      let state : f.broker.state ≡ state_at f.opening f.seat f.executed = ap (λ (b : BrokerValue). b.state) (kept.running whole).broker in
      subst (λ (s : State). IsInOrder s) (sym state) (order_after (take (f.executed - f.seat.base) f.seat.taken) f.opening kept.sound.order)

  -- once what is done is executed, the broker has counted all that is stored
  pub counts_stored : {B : Type 0} (f : Flushed D) (done : List (EntryValue B)) → f.broken ≡ false → IsFlusher honest images f → commands done ≡ unexecuted f → f.broker.state.count + length done ≡ f.stored
  counts_stored f done whole kept is =
      let begun : f.seat.base ≤ f.executed = omega (arith, kept.begun, kept.marked) in
      omega (arith, broker_count f whole kept, length_commands done, ap (λ (l : List CommandValue). length l) is, length_between f.seat f.executed f.stored begun kept.executed kept.stored, kept.executed)

  -- all that is stored is published
  pub publishes : (f : Flushed D) (seat : FlushSeatValue) (boxes : Kept) (ended past : List ℕ) (p : OutValue → Bool) (waiting left : List OutValue) → seat ≡ with_mark f.seat f.stored → waiting ≡ [] → left ≡ f.left ++ filter p f.waiting → f.executed ≡ f.stored → f.broken ≡ false
      → IsFlusher honest images f → IsFlusher honest images (record f { seat = seat; boxes = boxes; ended = ended; past = past; waiting = waiting; left = left })
  publishes f seat boxes ended past p waiting left is none outs executed whole kept = subst (λ (s : FlushSeatValue). IsFlusher honest images (record f { seat = s; boxes = boxes; ended = ended; past = past; waiting = waiting; left = left })) (sym is)
      (let run = kept.running whole in record {
        begun = omega (arith, kept.begun, kept.marked, kept.executed);
        marked = omega (arith, executed);
        executed = kept.executed;
        stored = kept.stored;
        opened = kept.opened;
        sound = kept.sound;
        each = λ h. hold_at (images f.disk) f.opening (with_mark f.seat f.stored) f.stored (omega arith) kept.stored (run.stands h);
        under = subst (λ (l : List OutValue). AreUnder f.stored l) (sym outs) (all_append (λ (out : OutValue). out.number < f.stored) f.left (filter p f.waiting)
            (under_more f.seat.published f.stored f.left (omega (arith, kept.marked, kept.executed)) kept.under)
            (under_kept f.stored p f.waiting (under_more f.executed f.stored f.waiting kept.executed run.waiting)));
        stopped = kept.stopped;
        running = λ _. record { stands = run.stands; broker = run.broker; brought = run.brought; waiting = subst (λ (l : List OutValue). AreUnder f.executed l) (sym none) tt };
      })

  -- the outputs are handed out
  pub hands_out : (f : Flushed D) → IsFlusher honest images f → IsFlusher honest images (record f { left = [] })
  hands_out f kept = record {
    begun = kept.begun;
    marked = kept.marked;
    executed = kept.executed;
    stored = kept.stored;
    opened = kept.opened;
    sound = kept.sound;
    each = kept.each;
    under = tt;
    stopped = kept.stopped;
    running = λ whole. let run = kept.running whole in record { stands = run.stands; broker = run.broker; brought = run.brought; waiting = run.waiting };
  }
