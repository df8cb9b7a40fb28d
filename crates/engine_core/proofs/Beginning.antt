-- The hub of a journal that was just opened.
use Rattle.std.proofs.Common.{◌≡◌, ℕ, List, [], Option, Some, None, IfSome, IsSome, Result, Ok, Err, IfOk, IfErr, false, length, refl, sym, ap, subst, ◌∙◌}
use Rattle.std.specs.Prelude.{slice_get}
use Rattle.disk_core.specs.declared.disk.Disk.{Ghosts}
use Rattle.atomic_table.specs.Seated.{TableId}
use Rattle.broker_core.specs.Operations.{restarted}
use Rattle.broker_core.specs.States.{State, BrokerValue}
use Rattle.claim_core.specs.declared.limits.TheConstants.{SEATS}
use Rattle.claim_core.specs.Seats.{SessionSeatValue, FlushSeatValue, new_flushing}
use Rattle.std.specs.declared.alloc.AllocError.{AllocError}
use Rattle.area_core.specs.declared.faults.AreaFault.TheVariants as areas
use Rattle.recover_core.specs.declared.faults.OpenFault.{OpenFault}
use Rattle.recover_core.specs.declared.faults.OpenFault.TheVariants.{Area, Read, CountTooLarge}
use Rattle.recover_core.specs.Standing.{Stands}
use Rattle.recover_core.specs.declared.store.Store.{Store}
use Rattle.flush_core.specs.Flusher.{Flushed, new_flusher}
use Rattle.engine_core.specs.Hubs.{HubValue, hub, IsFirst, IsWhole, Begins, IsWant}

-- what is so of what an option holds
pub some_is : {X : Type 0} (o : Option X) (x : X) (P : X → Type 0) → Some x ≡ o → P x → IfSome o P
some_is o x P e p = let At : Option _ → Type 0 = λ k. IfSome k P in subst At e p

pub some_of : {X : Type 0} (o : Option X) (x : X) (P : X → Type 0) → Some x ≡ o → IfSome o P → P x
some_of o x P e p = let At : Option _ → Type 0 = λ k. IfSome k P in subst At (sym e) p

pub first : {D : Type 0} {disk : Ghosts D} (f : Flushed D) (store : Store D disk) (seat : FlushSeatValue) (broker : BrokerValue) (ring : TableId) (base : ℕ)
    → f ≡ new_flusher store seat broker → seat ≡ new_flushing ring base SEATS → broker.broken ≡ false → IsFirst ring base f
first f store seat broker ring base is seat_is whole =
    let base_is : seat.base ≡ base = ap (λ (s : FlushSeatValue). s.base) seat_is in
    let broker_is : f.broker ≡ broker = ap (λ (x : Flushed _). x.broker) is in
    let opening_is : f.opening ≡ broker.state = ap (λ (x : Flushed _). x.opening) is in
    record {
      seat = ap (λ (x : Flushed _). x.seat) is ∙ seat_is;
      stored = ap (λ (x : Flushed _). x.stored) is ∙ base_is;
      executed = ap (λ (x : Flushed _). x.executed) is ∙ base_is;
      broker = broker_is ∙ as_parts broker f.opening opening_is whole;
      brought = ap (λ (x : Flushed _). x.brought) is;
      boxes = ap (λ (x : Flushed _). x.boxes) is;
      ended = (ap (λ (x : Flushed _). x.ended) is, ap (λ (x : Flushed _). x.past) is);
      waiting = ap (λ (x : Flushed _). x.waiting) is;
      left = ap (λ (x : Flushed _). x.left) is;
      since = ap (λ (x : Flushed _). x.last.since) is ∙ base_is;
      whole = ap (λ (x : Flushed _). x.broken) is;
    }
  where
    as_parts : (b : BrokerValue) (s : _) → s ≡ b.state → b.broken ≡ false → b ≡ record { state = s; broken = false }
    as_parts b s e w = λ i. record { state = sym e i; broken = w i }

pub whole : {D : Type 0} (h : HubValue D) (f : Flushed D) (ring : TableId) (base : ℕ) (seats : List SessionSeatValue)
    → h ≡ hub ring base seats (Some f) → IsFirst ring base f → length seats ≡ SEATS → ((k : ℕ) (seat : SessionSeatValue) → slice_get seats k ≡ Some seat → seat.number ≡ k) → IsWhole h f
whole h f ring base seats is is_first count numbers =
    let At : HubValue _ → Type 0 = λ x. IsWhole x f in
    subst At (sym is) (record { flusher = refl; first = is_first; count = count; numbers = numbers })

-- what is so of the flusher of each hub that begins so
pub of_hub : {D E : Type 0} (r : Result (HubValue D) E) (disk : D) (opened : Option BrokerValue) (P : Flushed D → Type 0) → IfOk r (λ h. Begins h disk opened)
    → ((f : Flushed D) → f.disk ≡ disk → IfSome opened (λ b. f.opening ≡ b.state) → P f) → IfOk r (λ h. IfSome h.flusher P)
of_hub (Ok h) disk opened P begins so = some_is h.flusher begins.flusher P (sym begins.whole.flusher) (so begins.flusher begins.disk_is begins.opening)
of_hub (Err e) disk opened P begins so = begins

pub all_whole : {D E : Type 0} (r : Result (HubValue D) E) (disk : D) (opened : Option BrokerValue) → IfOk r (λ h. Begins h disk opened) → IfOk r (λ h. (f : Flushed D) × IsWhole h f)
all_whole (Ok h) disk opened begins = (begins.flusher, begins.whole)
all_whole (Err e) disk opened begins = begins

-- what is so of each refusal that hands that disk back for want of memory
pub of_refused : {D H : Type 0} (r : Result H (D × OpenFault)) (disk : D) (Q : D × OpenFault → Type 0) → IfErr r (λ back. (back.0 ≡ disk) × IsWant back.1)
    → ((refused : AllocError) → Q (disk, Area (areas.Memory refused))) → IfErr r Q
of_refused (Ok h) disk Q is so = is
of_refused (Err back) disk Q is so = by_fault back.1 back.0 is.1 is.0
  where
    by_fault : (fault : OpenFault) (d : _) → IsWant fault → d ≡ disk → Q (d, fault)
    by_fault (Area (areas.Memory refused)) d w e = let At : _ → Type 0 = λ x. Q (x, Area (areas.Memory refused)) in subst At (sym e) (so refused)
    by_fault (Area areas.Device) d w e = absurd w
    by_fault (Area areas.Full) d w e = absurd w
    by_fault (Area areas.Broken) d w e = absurd w
    by_fault (Read f) d w e = absurd w
    by_fault CountTooLarge d w e = absurd w

-- what the flusher begins with is what was opened
pub restarts : (o : Option BrokerValue) (content : List ℕ) (opening : State) → IsSome o → IfSome o (λ b. opening ≡ b.state)
    → IfSome o (λ b. (s : State) → Stands content s → b.state ≡ restarted s) → (s : State) → Stands content s → opening ≡ restarted s
restarts (Some b) content opening some is was = λ s stands. is ∙ was s stands
restarts None content opening some is was = let e = some in cc
