-- What a test that answers by a Bool says.
use Rattle.std.proofs.Common.{◌≡◌, ◌<◌, ◌≤◌, inl, inr, ℕ, Bool, true, false, nat_lt, List, get_or, length, Option, Some, IsSomeAnd, Result, Ok, Err, IfOk, OnErr, slice_get, slice_set, ap, refl, sym, ◌∙◌, subst}
use Rattle.std.specs.Prelude.{◌↔◌, IsTrue}
use Rattle.std.proofs.lemmas.Bool.{cases_lt, ltb-true, lt-ltb, le-ltb}
use Rattle.std.proofs.lemmas.List.{set-get_or}
use Rattle.std.proofs.lemmas.Option.{slice_get_past, slice_get_read}
use Rattle.claim_core.specs.declared.limits.TheConstants.{WINDOW}
use Rattle.world_core.specs.declared.event.Event.{Event}
use Rattle.world_core.specs.declared.seat.Seat.{Seat}
use Rattle.world_core.specs.Answers.{IsTold}
use Rattle.world_core.specs.Events.{IsReady, MayClaim, last_of, open_of, with_seat}
use Rattle.world_core.specs.Limits.{far}
use Rattle.world_core.specs.Worlds.{WorldValue}

pub holds_where : (b : Bool) (P : Type 0) → (IsTrue b ↔ P) → b ≡ true → P
holds_where b P iff is = iff.0 is

pub fails_where : (b : Bool) (P : Type 0) → (IsTrue b ↔ P) → b ≡ false → P → ⊥
fails_where b P iff is p = let e : b ≡ true = iff.1 p in cc

-- a seat of which something holds is there
pub seat_there : (P : Seat → Type 0) (seats : List Seat) (j : ℕ) → IsSomeAnd (slice_get seats j) P → j < length seats
seat_there P seats j some = elim (cases_lt j (length seats)) [
  | inl low ↦ low
  | inr past ↦ absurd (subst (λ (o : Option Seat). IsSomeAnd o P) (slice_get_past seats j past) some)
]

-- what a seat has seen
pub seen_where : (seats : List Seat) (j n : ℕ) (seat : Seat) → j < length seats → seat ≡ get_or seats j seat → IsTrue (nat_lt n seat.seen) ↔ IsSomeAnd (slice_get seats j) (λ s. n < s.seen)
seen_where seats j n seat low is =
    subst (λ (o : Option Seat). IsTrue (nat_lt n seat.seen) ↔ IsSomeAnd o (λ s. n < s.seen)) (sym (slice_get_read seats (length seats) j seat refl low is))
    (ltb-true n seat.seen, lt-ltb n seat.seen)

pub seen_past : (seats : List Seat) (j n count : ℕ) → length seats ≤ j → count ≤ j → IsTrue (nat_lt j count) ↔ IsSomeAnd (slice_get seats j) (λ s. n < s.seen)
seen_past seats j n count past high =
    subst (λ (o : Option Seat). IsTrue (nat_lt j count) ↔ IsSomeAnd o (λ s. n < s.seen)) (sym (slice_get_past seats j past))
    (λ low. absurd (let past : nat_lt j count ≡ false = le-ltb j count high in cc), λ none. absurd none)

-- a seat with room claims where its last command is ready
pub may_where : (w : WorldValue) (j : ℕ) (seat : Seat) (room last : Bool) → slice_get w.seats j ≡ Some seat → (IsTrue room ↔ (seat.seen < far) × (open_of seat < WINDOW)) → room ≡ true → (IsTrue last ↔ IsReady w (last_of seat.own))
    → IsTrue last ↔ IsSomeAnd (slice_get w.seats j) (MayClaim w)
may_where w j seat room last there iff is ready =
    let both = iff.0 is in
    subst (λ (o : Option Seat). IsTrue last ↔ IsSomeAnd o (MayClaim w)) (sym there) (λ yes. record { near = both.0; room = both.1; last = ready.0 yes }, λ may. ready.1 may.last)

pub may_not : (w : WorldValue) (j : ℕ) (seat : Seat) (room : Bool) → slice_get w.seats j ≡ Some seat → (IsTrue room ↔ (seat.seen < far) × (open_of seat < WINDOW)) → room ≡ false → IsTrue room ↔ IsSomeAnd (slice_get w.seats j) (MayClaim w)
may_not w j seat room there iff is =
    subst (λ (o : Option Seat). IsTrue room ↔ IsSomeAnd o (MayClaim w)) (sym there)
    (λ yes. absurd (let e : room ≡ true = yes in cc), λ may. absurd (fails_where room ((seat.seen < far) × (open_of seat < WINDOW)) iff is (may.near, may.room)))

-- a seat that is there changes
pub seat_changes : (change : Seat → Seat) (seats : List Seat) (j : ℕ) (seat : Seat) → j < length seats → seat ≡ get_or seats j seat → slice_set seats j (change seat) ≡ with_seat change j (slice_get seats j) seats
seat_changes change seats j seat low is = ap (λ (o : Option Seat). with_seat change j o seats) (sym (slice_get_read seats (length seats) j seat refl low is))

pub same_seat : (seats : List Seat) (j : ℕ) (seat : Seat) → seat ≡ get_or seats j seat → slice_set seats j seat ≡ seats
same_seat seats j seat is = ap (λ (s : Seat). slice_set seats j s) is ∙ set-get_or seats j seat

pub on_err : {T E : Type 0} (r : Result T E) (P : Type 0) → P → OnErr r P
on_err (Ok x) P p = tt
on_err (Err e) P p = p

-- what is told of an event is told of the same event
pub told_as : (w v : WorldValue) (e f : Event) (b : Bool) → f ≡ e → IsTold w e b v → IsTold w f b v
told_as w v e f b is told = subst (λ (g : Event). IsTold w g b v) (sym is) told

pub told_as_if : {E : Type 0} (w v : WorldValue) (e f : Event) (r : Result Bool E) → f ≡ e → IfOk r (λ b. IsTold w e b v) → IfOk r (λ b. IsTold w f b v)
told_as_if w v e f r is told = subst (λ (g : Event). IfOk r (λ b. IsTold w g b v)) (sym is) told
