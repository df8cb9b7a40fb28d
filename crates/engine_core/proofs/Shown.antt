-- What the ring and the flusher keep makes what is promised of the world shown hold.
use Rattle.std.proofs.Common.{◌≡◌, ℕ, suc, ◌+◌, ◌≤◌, List, [], ◌∷◌, ◌++◌, length, length-append, All, refl, sym, ap, subst, arith}
use Rattle.std.proofs.Math.Logic.{∥∥₁_map}
use Rattle.std.proofs.lemmas.List.Elements.{All-append, All-weaker}
use mathlib.Core.Option.{some}
use lib.ListN.{get_elem?}
use Rattle.atomic_table.specs.Seated.{TableId}
use Rattle.command_core.specs.Commands.{CommandValue}
use Rattle.broker_core.specs.States.{State}
use Rattle.claim_core.specs.declared.ring.RingEnd.{RingEnd}
use Rattle.claim_core.specs.Endings.{Ends}
use Rattle.claim_core.specs.Seats.{SessionSeatValue, FlushSeatValue, new_session}
use Rattle.flush_core.specs.Flusher.{Flushed, AfterSome, HoldBetween, IsFlusher}
use Rattle.world_core.specs.Promises.{HoldsOn, IsAfterSome}
use Rattle.world_core.specs.Promises as promises
use Rattle.world_core.specs.Schedules.{life_of}
use Rattle.world_core.specs.Worlds.{DiskValue}
use Rattle.engine_core.specs.Closings.{Closes, closed, most_seen, shown}
use Rattle.engine_core.specs.Hubs.{HubValue, IsHub}

-- all seats are of the ring: the hub's own, and those that came back
pub seated : (ring : TableId) (own given all : List SessionSeatValue) → All (λ (s : SessionSeatValue). s.ring ≡ ring) own → All (λ (s : SessionSeatValue). s.ring ≡ ring) given
    → all ≡ own ++ given → All (λ (s : SessionSeatValue). s.ring ≡ ring) all
seated ring own given all here back all_is =
    let At : List SessionSeatValue → Type 0 = λ l. All (λ (s : SessionSeatValue). s.ring ≡ ring) l in
    subst At (sym all_is) (All-append (λ (s : SessionSeatValue). s.ring ≡ ring) own given here back)

-- and none is missing
pub counted : (own given all : List SessionSeatValue) (count : ℕ) → all ≡ own ++ given → length given + length own ≡ count → length all ≡ count
counted own given all count all_is is = omega (arith, ap length all_is, length-append own given, is)

-- those that a hub has itself are of its ring
pub at_hub : {D : Type 0} (h : HubValue D) → IsHub h → All (λ (s : SessionSeatValue). s.ring ≡ h.ring) h.seats
at_hub h kept = All-weaker (λ (s : SessionSeatValue). s ≡ new_session h.ring h.base s.number) (λ (s : SessionSeatValue). s.ring ≡ h.ring) (λ s new. ap (λ (t : SessionSeatValue). t.ring) new) h.seats kept.0

most_least : (least : ℕ) (seats : List SessionSeatValue) → least ≤ most_seen least seats
most_least least [] = omega arith
most_least least (seat ∷ seats) = omega (arith, most_least least seats)

most_under : (least top : ℕ) (seats : List SessionSeatValue) → least ≤ top → ((k : ℕ) (seat : SessionSeatValue) → get_elem? seats k ≡ some seat → seat.seen ≤ top) → most_seen least seats ≤ top
most_under least top [] low each = low
most_under least top (seat ∷ seats) low each = omega (arith, each 0 seat refl, most_under least top seats low (λ k s at. each (suc k) s at))

-- the law of shown worlds, for these images
abbrev pub Law : {D : Type 0} → (D → List ℕ → Type 0) → Type 0
Law {D} images = (disk : D) (base : ℕ) (opening : State) (taken rest history : List CommandValue) (published seen : ℕ)
    → history ≡ taken ++ rest → base ≤ published → published ≤ base + length taken → base ≤ seen → seen ≤ published
    → ((image : List ℕ) → images disk image → ∥ IsAfterSome base opening taken published image ∥₁)
    → HoldsOn (promises.shown base opening history (base + length taken) published seen) (images disk)

holds : {D : Type 0} (images : D → List ℕ → Type 0) (f : Flushed D) (seats : List SessionSeatValue) (history : List CommandValue) (end : RingEnd)
    → Law images → Ends seats f.seat history end → HoldBetween (images f.disk) f.opening f.seat
    → (disk : DiskValue) → HoldsOn (life_of (shown history seats f disk)) (images f.disk)
holds images f seats history end law ended between disk =
    let begun : f.seat.base ≤ f.seat.published = omega (arith, ended.base, ended.mark, ended.ordered.0) in
    law f.disk f.seat.base f.opening f.seat.taken ended.prefix.0 history f.seat.published (most_seen f.seat.base seats)
    ended.prefix.1
    begun
    (omega (arith, ended.taken, ended.mark, ended.ordered.1))
    (most_least f.seat.base seats)
    (most_under f.seat.base f.seat.published seats begun (λ k s at. (ended.each k s at).seen))
    (λ image is. ∥∥₁_map (between image is) (λ (h : AfterSome f.opening f.seat image). record { number = h.number; marked = h.marked; taken_first = h.taken; stands = h.stands }))

pub closes : {D : Type 0} (honest : D → Type 0) (images : D → List ℕ → Type 0) (f : Flushed D) (disk : D) (seat : FlushSeatValue) (seats : List SessionSeatValue) (history : List CommandValue) (end : RingEnd)
    → Law images → IsFlusher honest images f → disk ≡ f.disk → seat ≡ f.seat → Ends seats seat history end
    → Closes honest images seats f history (closed end disk)
closes {D} honest images f disk seat seats history end law kept disk_is seat_is ended =
    let Of : FlushSeatValue → Type 0 = λ s. Ends seats s history end in
    let At : D → Type 0 = λ d. honest d → (disk : DiskValue) → HoldsOn (life_of (shown history seats f disk)) (images d) in
    let here : Ends seats f.seat history end = subst Of seat_is ended in
    record {
      ended = here;
      stored = (omega (arith, here.mark, kept.marked, kept.executed), omega (arith, here.taken, kept.stored));
      disk_is = disk_is;
      tells = λ d. record { base = here.base; claimed_is = here.claimed; taken = here.taken; mark = here.mark };
      holds = subst At (sym disk_is) (λ honest_disk. holds images f seats history end law here (kept.each honest_disk));
    }
