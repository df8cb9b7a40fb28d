-- How far a flusher has gone.
use Rattle.std.proofs.Common.{ne_eqb, ◌≡◌, ◌≢◌, ◌==◌, suc, zero, ◌+◌, ◌-◌, ◌≤◌, ◌++◌, ℕ, List, [], ◌∷◌, false, Err, length, take, drop, refl, sym, ap, ◌∙◌, subst, arith, length-append, true, Option, Some, None, is_none, is_some, if◌then◌else◌}
use Rattle.std.proofs.lemmas.List.{append-nil, append_assoc, take_all, take-append-drop, take-append-le}
use Rattle.std.proofs.Math.Seq.{drop-append-add, take-append-add}
use Rattle.std.proofs.lemmas.Bool.{false≢true}
use Rattle.command_core.specs.Commands.{CommandValue}
use Rattle.command_core.specs.Entries.{EntryValue}
use Rattle.command_core.specs.Outs.{OutValue}
use Rattle.area_core.specs.Areas.{commands}
use Rattle.outbox_core.specs.Boxes.{SenderValue}
use Rattle.outbox_core.specs.Giving.{AreGiven, GivesTo, Kept, box_of, to_session, unboxed}
use Rattle.broker_core.specs.States.{State, BrokerValue}
use Rattle.broker_core.specs.Steps.{outs, outs_of, state_after, step}
use Rattle.claim_core.specs.Seats.{FlushSeatValue, SessionSeatValue, flushing, next_ticket, with_mark}
use Rattle.recover_core.proofs.Stores.{after-append}
use Rattle.flush_core.specs.declared.faults.FlushFault.{FlushFault}
use Rattle.flush_core.specs.declared.faults.FlushFault.TheVariants.{Device, Full, Broken, Memory}
use Rattle.flush_core.specs.Batches.{between, from_on, state_at, with_more}
use Rattle.flush_core.specs.Flusher.{Flushed}
use Rattle.flush_core.specs.FlusherOutcomes.{IsTurn, IsTurned, TurnFalls, turned_boxes, turned_outs}
use Rattle.flush_core.specs.Room.{HasNoRoomLeft}
use Rattle.flush_core.proofs.TakenCommands.{all_at}
use Rattle.engine_core.specs.Going.{HasCome, HasFilled, HasGone, HasGoneFront, HasGoneSomeWay, IsIdle}
use Rattle.engine_core.specs.Journals.{IsFull}
use Rattle.engine_core.specs.Placed.{AgreeAll, ArePlaced, commands_of}
use Rattle.engine_core.specs.declared.command_queue.Waiting.{Waiting}
use Rattle.engine_core.proofs.Fronts.{took_front}

outs_append : (xs : List CommandValue) (s : State) (ys : List CommandValue) → outs_of s (xs ++ ys) ≡ outs_of s xs ++ outs_of (state_after s xs) ys
outs_append [] s ys = refl
outs_append (x ∷ xs) s ys = ap (λ (l : List OutValue). outs s x ++ l) (outs_append xs (step s x) ys) ∙ sym (append_assoc (outs s x) (outs_of (step s x) xs) (outs_of (state_after (step s x) xs) ys))

-- where no box is left, there was none
none_boxed : (outs : List OutValue) (boxes : Kept) → AreGiven outs boxes [] → (session : ℕ) → is_none (box_of session boxes) ≡ true
none_boxed outs boxes given session = none_there (to_session session outs) (box_of session boxes) (given session)
  where
    none_there : (mine : List OutValue) (box : Option SenderValue) → GivesTo mine box None → is_none box ≡ true
    none_there mine None gives = refl
    none_there mine (Some old) gives = absurd (false≢true (ap is_some gives.1))

all_unboxed : (boxes : Kept) (outs : List OutValue) → ((session : ℕ) → is_none (box_of session boxes) ≡ true) → unboxed boxes outs ≡ outs
all_unboxed boxes [] none = refl
all_unboxed boxes (out ∷ outs) none =
    ap (λ b. if b then out ∷ unboxed boxes outs else unboxed boxes outs) (none out.session) ∙ ap (λ (l : List OutValue). out ∷ l) (all_unboxed boxes outs none)

pub no_boxes : (boxes : Kept) → (length boxes == 0) ≡ true → boxes ≡ []
no_boxes [] none = refl
no_boxes (b ∷ boxes) none = absurd (false≢true (sym (ne_eqb (length (b ∷ boxes)) 0 (λ e. omega (arith, e))) ∙ none))

-- so many, and so many behind these
take_sum : {X : Type 0} (k m : ℕ) (xs : List X) → take (k + m) xs ≡ take k xs ++ take m (drop k xs)
take_sum zero m xs = let none : 0 + m ≡ m = omega arith in ap (λ (n : ℕ). take n xs) none
take_sum (suc k) m [] = take_all (suc k + m) [] (omega arith) ∙ sym (take_all m [] (omega arith))
take_sum (suc k) m (x ∷ xs) =
    let one : suc k + m ≡ suc (k + m) = omega arith in
    ap (λ (n : ℕ). take n (x ∷ xs)) one ∙ ap (λ (l : List _). x ∷ l) (take_sum k m xs)

-- what is no empty list has a first item
pub first_and_rest : {X : Type 0} (xs : List X) → xs ≢ [] → (x : X) × (rest : List X) × (xs ≡ x ∷ rest)
first_and_rest [] some = absurd (some refl)
first_and_rest (x ∷ xs) some = (x, xs, refl)

module _ {D : Type 0} where
  pub come_none : (f : Flushed D) → IsIdle f → HasCome f f [] 0
  come_none f idle =
      let same : f.seat.taken ≡ f.seat.taken ++ [] = sym (append-nil f.seat.taken) in
      let mark : f.seat.published ≡ f.stored = idle.marked ∙ sym idle.stored in
      record {
        calm = record { whole = idle.whole; executed = idle.executed ∙ sym idle.stored; marked = mark; waiting = idle.waiting; state = idle.state ∙ sym (all_at f.opening f.seat f.stored idle.stored) };
        few = omega arith;
        stored = omega arith;
        seat = λ i. flushing f.seat.ring f.seat.base (same i) (mark i) f.seat.stopped f.seat.seats;
        opening = refl;
        state = refl;
        left = sym (append-nil f.left);
      }

  module _ (f g h : Flushed D) (more : List CommandValue) (k : ℕ) (entries : List (EntryValue SenderValue)) (idle : IsIdle f) (come : HasCome f g more k) (turned : IsTurned g h entries) where
    abbrev new : List CommandValue
    new = commands entries

    abbrev all : List CommandValue
    all = more ++ new

    abbrev now : ℕ
    now = h.stored - f.stored

    seat_is : h.seat ≡ with_mark (with_more f.seat all) h.stored
    seat_is =
        let assoc : (f.seat.taken ++ more) ++ commands entries ≡ f.seat.taken ++ (more ++ commands entries) = append_assoc f.seat.taken more (commands entries) in
        turned.seat ∙ (ap (λ (s : FlushSeatValue). with_mark (with_more s (commands entries)) h.stored) come.seat ∙ (λ i. flushing f.seat.ring f.seat.base (assoc i) h.stored f.seat.stopped f.seat.seats))

    taken_is : h.seat.taken ≡ f.seat.taken ++ all
    taken_is = ap (λ (s : FlushSeatValue). s.taken) seat_is

    base_is : h.seat.base ≡ f.seat.base
    base_is = ap (λ (s : FlushSeatValue). s.base) seat_is

    begun : f.stored ≡ f.seat.base + length f.seat.taken
    begun = idle.stored

    few_now : now ≤ length all
    few_now = omega (arith, turned.within.1, base_is, ap length taken_is, length-append f.seat.taken all, begun)

    stored_now : h.stored ≡ f.stored + now
    stored_now = omega (arith, turned.within.0, come.stored)

    state_now : h.broker.state ≡ state_after f.broker.state (take now all)
    state_now =
        let long : h.stored - h.seat.base ≡ length f.seat.taken + now = omega (arith, stored_now, begun, base_is) in
        let cut : take (h.stored - h.seat.base) h.seat.taken ≡ f.seat.taken ++ take now all = (λ i. take (long i) (taken_is i)) ∙ take-append-add f.seat.taken all now in
        ap (λ (b : BrokerValue). b.state) turned.broker
        ∙ ((λ i. state_after ((turned.opening ∙ come.opening) i) (cut i))
        ∙ (after-append f.seat.taken f.opening (take now all) ∙ ap (λ (s : State). state_after s (take now all)) (sym idle.state)))

    first_are : take k more ≡ take k all
    first_are = sym (take-append-le k more new come.few)

    -- what this turn stored
    between_are : between h.seat g.stored h.stored ≡ take (h.stored - g.stored) (drop k all)
    between_are =
        let long : g.stored - h.seat.base ≡ length f.seat.taken + k = omega (arith, come.stored, begun, base_is) in
        (λ i. take (h.stored - g.stored) (drop (long i) (taken_is i))) ∙ ap (λ (l : List CommandValue). take (h.stored - g.stored) l) (drop-append-add f.seat.taken all k)

    whole_are : take k all ++ take (h.stored - g.stored) (drop k all) ≡ take now all
    whole_are =
        let sum : k + (h.stored - g.stored) ≡ h.stored - f.stored = omega (arith, come.stored, turned.within.0) in
        sym (take_sum k (h.stored - g.stored) all) ∙ ap (λ (n : ℕ). take n all) sum

    outs_are : outs_of f.broker.state (take k more) ++ turned_outs g h ≡ outs_of f.broker.state (take now all)
    outs_are =
        let s = f.broker.state in
        let m = take (h.stored - g.stored) (drop k all) in
        let told : turned_outs g h ≡ outs_of (state_after s (take k all)) m = (λ i. come.calm.waiting i ++ outs_of ((come.state ∙ ap (λ (l : List CommandValue). state_after s l) first_are) i) (between_are i)) in
        (λ i. outs_of s (first_are i) ++ told i) ∙ (sym (outs_append (take k all) s m) ∙ ap (λ (l : List CommandValue). outs_of s l) whole_are)

    pub come_turn : h.broken ≡ false → h.boxes ≡ [] → HasCome f h (more ++ commands entries) (h.stored - f.stored)
    come_turn whole boxless =
        let unsent : unboxed (turned_boxes g h entries) (turned_outs g h) ≡ turned_outs g h =
        all_unboxed (turned_boxes g h entries) (turned_outs g h) (none_boxed (turned_outs g h) (turned_boxes g h entries) (subst (AreGiven (turned_outs g h) (turned_boxes g h entries)) boxless turned.given)) in
        record {
          calm = record { whole = whole; executed = turned.executed; marked = ap (λ (s : FlushSeatValue). s.published) turned.seat; waiting = turned.waiting; state = ap (λ (b : BrokerValue). b.state) turned.broker };
          few = few_now;
          stored = stored_now;
          seat = seat_is;
          opening = turned.opening ∙ come.opening;
          state = state_now;
          left = turned.left ∙ ((λ i. come.left i ++ unsent i) ∙ (append_assoc f.left (outs_of f.broker.state (take k more)) (turned_outs g h) ∙ ap (λ (l : List OutValue). f.left ++ l) outs_are));
        }

    -- and more were taken, whether some box is left or not
    pub turned_some_way : HasGoneSomeWay f h
    turned_some_way = record {
      ring = ap (λ (s : FlushSeatValue). s.ring) seat_is;
      opening = turned.opening ∙ come.opening;
      more = all;
      taken = taken_is;
      published = omega (arith, idle.marked, idle.stored, ap (λ (s : FlushSeatValue). s.published) turned.seat, stored_now);
    }

  -- all that was taken is stored
  pub come_all : (f g : Flushed D) (more : List CommandValue) (k : ℕ) → IsIdle f → HasCome f g more k → g.stored ≡ next_ticket g.seat → (length more ≡ k) × HasGone f g more
  come_all f g more k idle come all =
      let many : length more ≡ k = omega (arith, come.stored, idle.stored, all, ap next_ticket come.seat, length-append f.seat.taken more) in
      let whole : take k more ≡ more = take_all k more (omega (arith, many)) in (
        many,
        record {
          idle = record {
            whole = come.calm.whole;
            stored = all;
            executed = come.calm.executed ∙ all;
            marked = come.calm.marked ∙ all;
            waiting = come.calm.waiting;
            state = come.calm.state ∙ all_at g.opening g.seat g.stored all;
          };
          seat = come.seat ∙ ap (λ (n : ℕ). with_mark (with_more f.seat more) n) (all ∙ ap next_ticket come.seat);
          opening = come.opening;
          state = come.state ∙ ap (λ (l : List CommandValue). state_after f.broker.state l) whole;
          left = come.left ∙ ap (λ (l : List CommandValue). f.left ++ outs_of f.broker.state l) whole;
        },
      )

  pub some_way : (f g : Flushed D) (more : List CommandValue) → IsIdle f → HasGone f g more → HasGoneSomeWay f g
  some_way f g more idle gone = record {
    ring = ap (λ (s : FlushSeatValue). s.ring) gone.seat;
    opening = gone.opening;
    more = more;
    taken = ap (λ (s : FlushSeatValue). s.taken) gone.seat;
    published = omega (arith, idle.marked, ap (λ (s : FlushSeatValue). s.published) gone.seat, length-append f.seat.taken more);
  }

  falls_some_way : (f g h : Flushed D) (more : List CommandValue) (k : ℕ) → IsIdle f → HasCome f g more k → TurnFalls g h → HasGoneSomeWay f h
  falls_some_way f g h more k idle come fell = record {
    ring = fell.ring ∙ ap (λ (s : FlushSeatValue). s.ring) come.seat;
    opening = fell.opening ∙ come.opening;
    more = more ++ fell.taken.0;
    taken = fell.taken.1 ∙ (ap (λ (s : FlushSeatValue). s.taken ++ fell.taken.0) come.seat ∙ append_assoc f.seat.taken more fell.taken.0);
    published = omega (arith, idle.marked, idle.stored, come.calm.marked, come.stored, fell.published);
  }

  pub come_some_way : (f g : Flushed D) (more : List CommandValue) (k : ℕ) → IsIdle f → HasCome f g more k → HasGoneSomeWay f g
  come_some_way f g more k idle come = record {
    ring = ap (λ (s : FlushSeatValue). s.ring) come.seat;
    opening = come.opening;
    more = more;
    taken = ap (λ (s : FlushSeatValue). s.taken) come.seat;
    published = omega (arith, idle.marked, idle.stored, come.calm.marked, come.stored);
  }

  pub failed_some_way : (X : Type 0) (f g h : Flushed D) (more : List CommandValue) (k : ℕ) (fault : FlushFault) → IsIdle f → HasCome f g more k → IsTurn {X = X} g h (Err fault) → HasGoneSomeWay f h
  failed_some_way X f g h more k Device idle come fell = falls_some_way f g h more k idle come fell
  failed_some_way X f g h more k Full idle come fell = falls_some_way f g h more k idle come fell
  failed_some_way X f g h more k Broken idle come was = absurd (false≢true (sym come.calm.whole ∙ was.0))
  failed_some_way X f g h more k (Memory refused) idle come fell = falls_some_way f g h more k idle come fell

  -- what has gone is what the seats have there
  pub gone_all : (f g : Flushed D) (first : ℕ) (seats : List SessionSeatValue) (more : List CommandValue) (waiting : List Waiting) → first ≡ next_ticket f.seat → HasGone f g more → length more ≡ length (commands_of waiting)
      → ArePlaced first seats waiting → AgreeAll g.seat seats → HasGone f g (commands_of waiting)
  gone_all f g first seats more waiting begins gone many placed agree =
      let cs = commands_of waiting in
      let begun : g.seat.base + length f.seat.taken ≡ first = ap (λ (s : FlushSeatValue). s.base + length f.seat.taken) gone.seat ∙ sym begins in
      let front : more ≡ take (length more) cs = took_front first seats g.seat f.seat.taken more waiting begun (ap (λ (s : FlushSeatValue). s.taken) gone.seat) placed agree (omega (arith, many)) in
      subst (HasGone f g) (front ∙ take_all (length more) cs (omega (arith, many))) gone

  pub gone_front : (f g : Flushed D) (first last count : ℕ) (seats : List SessionSeatValue) (waiting : List Waiting) → first ≡ next_ticket f.seat → last ≡ next_ticket g.seat → last - first ≤ count → count ≡ length (commands_of waiting)
      → f.opening.count ≡ f.seat.base → g.opening.count ≡ g.seat.base → HasGoneSomeWay f g → ArePlaced first seats waiting → AgreeAll g.seat seats → HasGoneFront f g (commands_of waiting)
  gone_front f g first last count seats waiting begins ends few many opened opened' way placed agree =
      let cs = commands_of waiting in
      let base : g.seat.base ≡ f.seat.base = sym opened' ∙ (ap (λ (s : State). s.count) way.opening ∙ opened) in
      let long : length g.seat.taken ≡ length f.seat.taken + length way.more = ap length way.taken ∙ length-append f.seat.taken way.more in
      let fits : length way.more ≤ length cs = omega (arith, begins, ends, few, many, base, long) in
      let front : way.more ≡ take (length way.more) cs = took_front first seats g.seat f.seat.taken way.more waiting (omega (arith, begins, base)) way.taken placed agree fits in
      record {
        ring = way.ring;
        base = base;
        opening = way.opening;
        n = length way.more;
        few = fits;
        taken = way.taken ∙ ap (λ (l : List CommandValue). f.seat.taken ++ l) front;
        published = way.published;
      }

  -- a turn whose next command has no room, behind those that came
  pub filled : (f g h : Flushed D) (more : List CommandValue) (k : ℕ) (image : List ℕ) → IsIdle f → HasCome f g more k → TurnFalls g h → from_on h.seat g.stored ≢ []
      → HasNoRoomLeft image (state_at g.opening g.seat g.stored) (take 1 (from_on h.seat g.stored)) → HasFilled f h image
  filled f g h more k image idle come fell some room =
      let all = more ++ fell.taken.0 in
      let base : h.seat.base ≡ f.seat.base = fell.base ∙ ap (λ (s : FlushSeatValue). s.base) come.seat in
      let taken : h.seat.taken ≡ f.seat.taken ++ all = fell.taken.1 ∙ (ap (λ (s : FlushSeatValue). s.taken ++ fell.taken.0) come.seat ∙ append_assoc f.seat.taken more fell.taken.0) in
      let long : g.stored - h.seat.base ≡ length f.seat.taken + k = omega (arith, come.stored, idle.stored, base) in
      let rest : from_on h.seat g.stored ≡ drop k all = (λ i. drop (long i) (taken i)) ∙ drop-append-add f.seat.taken all k in
      let next = first_and_rest (drop k all) (λ none. some (rest ∙ none)) in
      let state : state_at g.opening g.seat g.stored ≡ state_after f.broker.state (take k all) = sym come.calm.state ∙ (come.state ∙ ap (λ (l : List CommandValue). state_after f.broker.state l) (sym (take-append-le k more fell.taken.0 come.few))) in
      let one : take 1 (from_on h.seat g.stored) ≡ next.0 ∷ [] = ap (λ (l : List CommandValue). take 1 l) (rest ∙ next.2) in
      let parts : all ≡ take k all ++ next.0 ∷ next.1 = sym (take-append-drop k all) ∙ ap (λ (l : List CommandValue). take k all ++ l) next.2 in
      record {
        done = take k all;
        next = next.0;
        behind = next.1;
        base = base;
        taken = taken ∙ ap (λ (l : List CommandValue). f.seat.taken ++ l) parts;
        no_room = subst (λ (z : State × List CommandValue). HasNoRoomLeft image z.0 z.1) (λ i. (state i, one i)) room;
      }

  -- and these are of what the seats have there
  pub filled_full : (f g : Flushed D) (first last count : ℕ) (seats : List SessionSeatValue) (waiting : List Waiting) (image : List ℕ) → first ≡ next_ticket f.seat → last ≡ next_ticket g.seat → last - first ≤ count → count ≡ length (commands_of waiting)
      → HasFilled f g image → ArePlaced first seats waiting → AgreeAll g.seat seats → IsFull f.broker.state (commands_of waiting) image
  filled_full f g first last count seats waiting image begins ends few many filled placed agree =
      let cs = commands_of waiting in
      let both = filled.done ++ filled.next ∷ filled.behind in
      let long : length g.seat.taken ≡ length f.seat.taken + length both = ap length filled.taken ∙ length-append f.seat.taken both in
      let fits : length both ≤ length cs = omega (arith, begins, ends, few, many, filled.base, long) in
      let front : both ≡ take (length both) cs = took_front first seats g.seat f.seat.taken both waiting (omega (arith, begins, filled.base)) filled.taken placed agree fits in
      record {
        done = filled.done;
        next = filled.next;
        behind = filled.behind ++ drop (length both) cs;
        split = sym (ap (λ (l : List CommandValue). l ++ drop (length both) cs) front ∙ take-append-drop (length both) cs) ∙ append_assoc filled.done (filled.next ∷ filled.behind) (drop (length both) cs);
        no_room = filled.no_room;
      }
