-- What a journal keeps at rest, and what is left of it where its disk stops.
use Rattle.std.proofs.Common.{◌≡◌, ◌+◌, ◌-◌, ◌≤◌, ◌^◌, ◌++◌, ℕ, zero, suc, List, [], ◌∷◌, false, true, length, take, set, slice_index_or, All, Option, Some, None, IsSome, IfSome, IfErr, IfOk, Result, Ok, Err, sym, ap, ◌∙◌, subst, arith, length-append}
use mathlib.Core.Option.{some, some-injective, some-ne-none}
use Rattle.std.proofs.Math.Logic.{∥∥₁_map}
use Rattle.disk_core.specs.Images.{IsImage}
use Rattle.disk_core.specs.Memory.{Memory, reads_image}
use lib.ListN.{get_elem?}
use Rattle.std.proofs.lemmas.List.{length-take-le, take-take}
use Rattle.std.proofs.lemmas.Bool.{false≢true}
use Rattle.atomic_table.specs.Seated.{TableId}
use Rattle.command_core.specs.Commands.{CommandValue}
use Rattle.broker_core.specs.States.{State, BrokerValue}
use Rattle.broker_core.specs.Steps.{state_after}
use Rattle.claim_core.specs.Seats.{FlushSeatValue, SessionSeatValue, new_flushing, new_session, next_ticket}
use Rattle.recover_core.specs.Opens.{IsRestartOf}
use Rattle.recover_core.specs.Standing.{StandFor, Stands}
use Rattle.recover_core.specs.Told.{IsCausedBy as IsOpenCausedBy, IsOpenTold}
use Rattle.area_core.specs.declared.faults.AreaFault.TheVariants as areas
use Rattle.recover_core.specs.declared.faults.OpenFault.{OpenFault}
use Rattle.recover_core.specs.declared.faults.OpenFault.TheVariants as opens
use Rattle.recover_core.proofs.Stores.{after-append}
use Rattle.flush_core.specs.Flusher.{AfterSome, Flushed, HoldBetween, IsSame}
use Rattle.flush_core.specs.Batches.{state_at, state_taken}
use Rattle.engine_core.specs.Faults.{IsWantOfMemory}
use Rattle.engine_core.specs.Going.{HasGoneFront, IsIdle}
use Rattle.engine_core.specs.Journals.{IsAtRest, IsMade, JournalValue, KeepFront, StandsAfterFront}
use Rattle.engine_core.specs.Placed.{AreSeatsOf}
use Rattle.engine_core.proofs.Placing.{below, still_ring}

at_or : {A : Type 0} (l : List A) (i : ℕ) (a d : A) → get_elem? l i ≡ some a → slice_index_or l i d ≡ a
at_or [] i a d e = absurd (some-ne-none a (sym e))
at_or (x ∷ xs) zero a d e = some-injective x a e
at_or (x ∷ xs) (suc i) a d e = at_or xs i a d e

pub new_seats : (ring : TableId) (base : ℕ) (seats : List SessionSeatValue) → All (λ seat. seat ≡ new_session ring base seat.number) seats → AreSeatsOf ring seats
new_seats ring base seats all j seat at =
    ap (λ (s : SessionSeatValue). s.ring) (subst (λ (s : SessionSeatValue). s ≡ new_session ring base s.number) (at_or seats j seat seat at) (all j seat (below seats j seat at)))

pub new_rest : {D : Type 0} (ring : TableId) (seats : List SessionSeatValue) (f : Flushed D) (base n : ℕ) → AreSeatsOf ring seats → f.seat ≡ new_flushing ring base n → f.broken ≡ false
    → f.stored ≡ f.seat.base → f.executed ≡ f.seat.base → f.waiting ≡ [] → f.left ≡ [] → f.opening ≡ f.broker.state → IsAtRest ring seats f
new_rest ring seats f base n all is whole stored executed none none_left opening =
    let start : f.seat.base ≡ base = ap (λ (s : FlushSeatValue). s.base) is in
    let next : next_ticket f.seat ≡ base = ap next_ticket is ∙ omega arith in
    record {
      seats_are = all;
      flush_is = ap (λ (s : FlushSeatValue). s.ring) is;
      idle = record {
        whole = whole;
        stored = stored ∙ (start ∙ sym next);
        executed = executed ∙ (start ∙ sym next);
        marked = ap (λ (s : FlushSeatValue). s.published) is ∙ sym next;
        waiting = none;
        state = sym opening ∙ sym (ap (λ (s : FlushSeatValue). state_after f.opening s.taken) is);
      };
      none_left = none_left;
    }

pub still_rest : {D : Type 0} (ring : TableId) (seats : List SessionSeatValue) (f : Flushed D) (place : ℕ) (old new : SessionSeatValue) → get_elem? seats place ≡ some old → new.ring ≡ old.ring → IsAtRest ring seats f → IsAtRest ring (set seats place new) f
still_rest ring seats f place old new at same rest = record { seats_are = still_ring ring seats place old new at same rest.seats_are; flush_is = rest.flush_is; idle = rest.idle; none_left = rest.none_left }

-- commands behind others, cut behind these
cut_behind : (xs ys : List CommandValue) (m : ℕ) → take (length xs + m) (xs ++ ys) ≡ xs ++ take m ys
cut_behind [] ys m = let none : 0 + m ≡ m = omega arith in ap (λ (k : ℕ). take k ys) none
cut_behind (x ∷ xs) ys m =
    let one : length (x ∷ xs) + m ≡ suc (length xs + m) = omega arith in
    ap (λ (k : ℕ). take k (x ∷ (xs ++ ys))) one ∙ ap (λ (l : List CommandValue). x ∷ l) (cut_behind xs ys m)

-- an image that holds all under the mark, and perhaps more
pub stands_front : {D : Type 0} (f g : Flushed D) (cs : List CommandValue) (image : List ℕ) → IsIdle f → HasGoneFront f g cs → AfterSome g.opening g.seat image → StandsAfterFront f.broker.state cs image
stands_front f g cs image idle front after =
    let m : ℕ = after.number - next_ticket f.seat in
    let long : length g.seat.taken ≡ length f.seat.taken + front.n = ap length front.taken ∙ (length-append f.seat.taken (take front.n cs) ∙ ap (λ (k : ℕ). length f.seat.taken + k) (length-take-le front.n cs front.few)) in
    let more : after.number - g.seat.base ≡ length f.seat.taken + m = omega (arith, after.marked, front.published, front.base, idle.marked) in
    let few : m ≤ front.n = omega (arith, after.taken, long, front.base) in
    let cut : take (after.number - g.seat.base) g.seat.taken ≡ f.seat.taken ++ take m cs =
    (λ i. take (more i) (front.taken i)) ∙ (cut_behind f.seat.taken (take front.n cs) m ∙ ap (λ (l : List CommandValue). f.seat.taken ++ l) (take-take m front.n cs few)) in
    let state : state_at g.opening g.seat after.number ≡ state_after f.broker.state (take m cs) =
    (λ i. state_after (front.opening i) (cut i)) ∙ (after-append f.seat.taken f.opening (take m cs) ∙ ap (λ (s : State). state_after s (take m cs)) (sym idle.state)) in
    record { n = m; few = omega (arith, few, front.few); stands = subst (Stands image) state after.stands }

pub same_idle : {C D : Type 0} (f : Flushed C) (u : Flushed D) → IsSame f u → IsIdle f → IsIdle u
same_idle f u same idle = record {
  whole = same.broken ∙ idle.whole;
  stored = same.stored ∙ (idle.stored ∙ sym (ap next_ticket same.seat));
  executed = same.executed ∙ (idle.executed ∙ sym (ap next_ticket same.seat));
  marked = ap (λ (s : FlushSeatValue). s.published) same.seat ∙ (idle.marked ∙ sym (ap next_ticket same.seat));
  waiting = same.waiting ∙ idle.waiting;
  state = ap (λ (b : BrokerValue). b.state) same.broker ∙ (idle.state ∙ sym (λ i. state_taken (same.opening i) (same.seat i)));
}

-- the journal at rest over another disk
pub same_rest : {C D : Type 0} (ring : TableId) (seats : List SessionSeatValue) (f : Flushed C) (u : Flushed D) → IsSame f u → IsAtRest ring seats f → IsAtRest ring seats u
same_rest ring seats f u same rest = record {
  seats_are = rest.seats_are;
  flush_is = ap (λ (s : FlushSeatValue). s.ring) same.seat ∙ rest.flush_is;
  idle = same_idle f u same rest.idle;
  none_left = same.left ∙ rest.none_left;
}

-- each image holds all under the mark of one that has gone a front, and perhaps more
pub keep_front : {D : Type 0} (f g : Flushed D) (cs : List CommandValue) (images : List ℕ → Type 0) → IsIdle f → HasGoneFront f g cs → HoldBetween images g.opening g.seat → KeepFront images f.broker.state cs
keep_front f g cs images idle front hold image is = ∥∥₁_map (hold image is) (stands_front f g cs image idle front)

module _ (opened : Option BrokerValue) (result : Result (JournalValue Memory) (Memory × OpenFault)) (disk : Memory) where
  -- what is so of the broker that a store was opened with, and of this disk, is so of the journal
  pub opened_as : (P : BrokerValue → Type 0) (Q : JournalValue Memory → Type 0) → IsSome opened → IfSome opened P → ((broker : BrokerValue) (journal : JournalValue Memory) → P broker → IsMade broker.state disk journal → Q journal)
      → IfOk result (λ journal. IfSome opened (λ broker. IsMade broker.state disk journal)) → IfOk result Q
  opened_as P Q there is then made = by opened result there is made
    where
      by : (o : Option BrokerValue) (r : Result (JournalValue Memory) (Memory × OpenFault)) → IsSome o → IfSome o P → IfOk r (λ journal. IfSome o (λ broker. IsMade broker.state disk journal)) → IfOk r Q
      by None r there is made = absurd (false≢true there)
      by (Some broker) (Ok journal) there is made = then broker journal is made
      by (Some broker) (Err back) there is made = tt

pub restart_of : (content : List ℕ) (disk : Memory) (broker : BrokerValue) (journal : JournalValue Memory) → IsRestartOf content broker.state → IsMade broker.state disk journal → IsRestartOf content journal.state
restart_of content disk broker journal stood made = subst (IsRestartOf content) (sym made.state_is) stood

pub stands_of : (disk : Memory) (broker : BrokerValue) (journal : JournalValue Memory) → StandFor (IsImage disk.content disk.held) broker.state → IsMade broker.state disk journal → Stands journal.disk.content journal.state
stands_of disk broker journal stand made =
    subst (λ (s : State). Stands journal.disk.content s) (sym made.state_is) (subst (λ (d : Memory). Stands d.content broker.state) (sym made.disk_is) (stand disk.content (reads_image disk)))

-- where memory was refused, nothing is told of the content, and the disk did not fail
pub memory_told : (content : List ℕ) (before : ℕ) (disk back : Memory) (fault : OpenFault) → disk.failures ≡ before → back ≡ disk → IsWantOfMemory fault → IsOpenTold fault content × IsOpenCausedBy fault before back.failures
memory_told content before disk back (opens.Area (areas.Memory refused)) calm is want = (tt, ap (λ (d : Memory). d.failures) is ∙ calm)
memory_told content before disk back (opens.Area areas.Device) calm is want = absurd want
memory_told content before disk back (opens.Area areas.Full) calm is want = absurd want
memory_told content before disk back (opens.Area areas.Broken) calm is want = absurd want
memory_told content before disk back opens.CountTooLarge calm is want = absurd want
memory_told content before disk back (opens.Read fault) calm is want = absurd want

pub told_for_memory : (content : List ℕ) (before : ℕ) (disk : Memory) (result : Result (JournalValue Memory) (Memory × OpenFault)) → disk.failures ≡ before
    → IfErr result (λ back. IsWantOfMemory back.1 × (back.0 ≡ disk)) → IfErr result (λ back. IsOpenTold back.1 content)
told_for_memory content before disk (Ok journal) calm want = tt
told_for_memory content before disk (Err back) calm want = (memory_told content before disk back.0 back.1 calm want.1 want.0).0

pub caused_for_memory : (content : List ℕ) (before : ℕ) (disk : Memory) (result : Result (JournalValue Memory) (Memory × OpenFault)) → disk.failures ≡ before
    → IfErr result (λ back. IsWantOfMemory back.1 × (back.0 ≡ disk)) → IfErr result (λ back. IsOpenCausedBy back.1 before back.0.failures)
caused_for_memory content before disk (Ok journal) calm want = tt
caused_for_memory content before disk (Err back) calm want = (memory_told content before disk back.0 back.1 calm want.1 want.0).1

pub durable_of : (disk : Memory) (broker : BrokerValue) (journal : JournalValue Memory) → (broker.state.count ≤ 2 ^ 61) × (broker.broken ≡ false) → IsMade broker.state disk journal → journal.durable ≡ true
durable_of disk broker journal small made = made.durable_is

pub small_of : (disk : Memory) (broker : BrokerValue) (journal : JournalValue Memory) → (broker.state.count ≤ 2 ^ 61) × (broker.broken ≡ false) → IsMade broker.state disk journal → journal.state.count ≤ 2 ^ 61
small_of disk broker journal small made = subst (λ (s : State). s.count ≤ 2 ^ 61) (sym made.state_is) small.0

pub calm_of : (before : ℕ) (disk : Memory) → disk.failures ≡ before → (broker : BrokerValue) (journal : JournalValue Memory) → (broker.state.count ≤ 2 ^ 61) × (broker.broken ≡ false) → IsMade broker.state disk journal → journal.disk.failures ≡ before
calm_of before disk calm broker journal small made = ap (λ (d : Memory). d.failures) made.disk_is ∙ calm
