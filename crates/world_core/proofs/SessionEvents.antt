-- Events of sessions and flusher keep what is kept.
use Rattle.std.proofs.Common.{◌≡◌, ℕ, ◌+◌, ◌-◌, ◌<◌, ◌≤◌, Bool, true, false, List, [], ◌∷◌, ◌++◌, length, inl, inr, All, Option, Some, None, slice_get, slice_set, unwrap_or, option_map, IsSomeAnd, refl, subst, ◌∙◌, arith, length-append}
use Rattle.std.specs.List.{AllByRecursion}
use Rattle.std.proofs.lemmas.Bool.{cases_lt}
use Rattle.std.proofs.lemmas.List.{length-set}
use Rattle.std.proofs.lemmas.List.Elements.{All-set, All-weaker, All-push, All-get_or}
use Rattle.std.proofs.lemmas.Option.{slice_get_past, slice_get_cases}
use Rattle.command_core.specs.Commands.{CommandValue}
use Rattle.area_core.specs.Areas.{HasRecord}
use Rattle.area_core.proofs.Areas.{all_push}
use Rattle.world_core.specs.declared.event.Event.TheVariants.{Look, Claim, Ready, Take, Raise, Release, Stop}
use Rattle.world_core.specs.declared.seat.Seat.{Seat}
use Rattle.world_core.specs.Events.{Possible, after, claims, last_of, looks, readied, with_seat}
use Rattle.world_core.specs.Keeping.{IsKept, log_of}
use Rattle.world_core.specs.Readings.{Reading}
use Rattle.world_core.specs.Worlds.{WorldValue, claimed}
use Rattle.world_core.proofs.Logs.{AreSame, at_moves, between_longer, prefix_moves, state_longer}

at_seat : (P : Seat → Type 0) (j : ℕ) (seats : List Seat) (seat : Seat) → slice_get seats j ≡ Some seat → All P seats → P seat
at_seat P j seats seat is all = elim (slice_get_cases seats j).1 [
  | inl there ↦ subst P (let e : there.0 ≡ seat = let found = there.2 in cc in e) (subst P there.3 (All-get_or P seats j there.0 there.1 all))
  | inr past ↦ absurd (let none = past.1 in cc)
]

seats_all : (P : Seat → Type 0) (change : Seat → Seat) (j : ℕ) (o : Option Seat) (seats : List Seat) → ((s : Seat) → o ≡ Some s → P (change s)) → All P seats → All P (with_seat change j o seats)
seats_all P change j None seats each all = all
seats_all P change j (Some s) seats each all = All-set P seats j (change s) (each s refl) all

abbrev pub IsUnder : ℕ → Seat → Type 0
IsUnder mark seat = seat.seen ≤ mark

module _ (w : WorldValue) (k : IsKept w) (r : Reading) where
  -- all that sessions and flusher change
  session_keeps : (history : List CommandValue) (ready : List Bool) (taken mark : ℕ) (seats : List Seat) (stopped : Bool) (released : List ℕ)
      → let new : WorldValue = record w { history = history; ready = ready; taken = taken; mark = mark; seats = seats; stopped = stopped; released = released } in
      length ready ≡ length history → AllByRecursion HasRecord history → AreSame (log_of w) (log_of new) w.taken → w.taken ≤ taken → taken ≤ w.base + length history → w.mark ≤ mark → mark ≤ w.stored
      → All (IsUnder mark) seats → All (λ n. n < mark) released → IsKept new
  session_keeps history ready taken mark seats stopped released flags forms same more high up le seen told =
      let new : WorldValue = record w { history = history; ready = ready; taken = taken; mark = mark; seats = seats; stopped = stopped; released = released } in
      record {
        least = k.least;
        most = k.most;
        size = k.size;
        held = k.held;
        opened = k.opened;
        low = k.low;
        begun = omega (arith, k.begun, up);
        marked = le;
        stored = omega (arith, k.stored, more);
        taken = high;
        flags = flags;
        forms = forms;
        seen = seen;
        released = told;
        earlier = k.earlier;
        images = λ c image. prefix_moves (log_of w) (log_of new) w.disk.size c (omega arith) more (λ m le. same.upto_is m le) (λ r. r) (k.images c image);
        at = at_moves (log_of w) (log_of new) w.disk w.place refl more refl (omega (arith, k.begun, k.marked)) k.stored same k.at;
      }

  -- where the history stays
  session_moves : (ready : List Bool) (taken mark : ℕ) (seats : List Seat) (stopped : Bool) (released : List ℕ) → length ready ≡ length w.history → w.taken ≤ taken → taken ≤ claimed w → w.mark ≤ mark → mark ≤ w.stored
      → All (IsUnder mark) seats → All (λ n. n < mark) released
      → IsKept (record w { ready = ready; taken = taken; mark = mark; seats = seats; stopped = stopped; released = released })
  session_moves ready taken mark seats stopped released flags more high up le seen told =
      session_keeps w.history ready taken mark seats stopped released flags k.forms (record { upto_is = λ m le. refl; between_is = λ l m low le high. refl }) more high up le seen told

  pub look_keeps : (j : ℕ) → IsKept (after w r (Look j))
  look_keeps j =
      session_moves w.ready w.taken w.mark (with_seat (looks w.mark) j (slice_get w.seats j) w.seats) w.stopped w.released k.flags (omega arith) k.taken (omega arith) k.marked
      (seats_all (IsUnder w.mark) (looks w.mark) j (slice_get w.seats j) w.seats (λ s is. omega arith) k.seen) k.released

  pub claim_keeps : (j : ℕ) (command : CommandValue) → HasRecord command → IsKept (after w r (Claim j command))
  claim_keeps j command form =
      let longer : length (w.history ++ command ∷ []) ≡ length w.history + 1 = length-append w.history (command ∷ []) in
      session_keeps (w.history ++ command ∷ []) (w.ready ++ false ∷ []) w.taken w.mark (with_seat (claims (claimed w)) j (slice_get w.seats j) w.seats) w.stopped w.released
      (omega (arith, length-append w.ready (false ∷ []), longer, k.flags))
      (all_push HasRecord w.history command k.forms form)
      (record {
        upto_is = λ m le. state_longer w.base w.opening w.history (command ∷ []) m (omega (arith, le, k.taken));
        between_is = λ l m low le high. between_longer w.base w.history (command ∷ []) l m low le (omega (arith, high, k.taken));
      })
      (omega arith) (omega (arith, k.taken, longer)) (omega arith) k.marked
      (seats_all (IsUnder w.mark) (claims (claimed w)) j (slice_get w.seats j) w.seats (λ s is. at_seat (IsUnder w.mark) j w.seats s is k.seen) k.seen)
      k.released

  length-readied : (o : Option Seat) → length (readied w o) ≡ length w.ready
  length-readied None = refl
  length-readied (Some seat) = elim (last_of seat.own) as (λ t. length (unwrap_or (option_map (λ n. slice_set w.ready (n - w.base) true) t) w.ready) ≡ length w.ready) [
    | None ↦ refl
    | Some t ↦ length-set w.ready (t - w.base) true
  ]

  pub ready_keeps : (j : ℕ) → IsKept (after w r (Ready j))
  ready_keeps j =
      session_moves (readied w (slice_get w.seats j)) w.taken w.mark w.seats w.stopped w.released (length-readied (slice_get w.seats j) ∙ k.flags) (omega arith) k.taken (omega arith) k.marked k.seen k.released

  -- what is ready is claimed
  ready_claimed : slice_get w.ready (w.taken - w.base) ≡ Some true → w.taken < claimed w
  ready_claimed is = elim (cases_lt (w.taken - w.base) (length w.ready)) [
    | inl low ↦ omega (arith, low, k.flags, k.begun, k.marked, k.stored)
    | inr past ↦ absurd (let none = slice_get_past w.ready (w.taken - w.base) past in cc)
  ]

  pub take_keeps : Possible w r Take → IsKept (after w r Take)
  take_keeps may =
      session_moves w.ready (w.taken + 1) w.mark w.seats w.stopped w.released k.flags (omega arith) (omega (arith, ready_claimed may.1)) (omega arith) k.marked k.seen k.released

  pub raise_keeps : (n : ℕ) → Possible w r (Raise n) → IsKept (after w r (Raise n))
  raise_keeps n may =
      session_moves w.ready w.taken n w.seats w.stopped w.released k.flags (omega arith) k.taken may.1 may.2
      (All-weaker (IsUnder w.mark) (IsUnder n) (λ seat le. omega (arith, may.1, le)) w.seats k.seen)
      (All-weaker (λ m. m < w.mark) (λ m. m < n) (λ m lt. omega (arith, may.1, lt)) w.released k.released)

  seen_number : (n : ℕ) (o : Option Seat) (j : ℕ) → slice_get w.seats j ≡ o → IsSomeAnd o (λ seat. n < seat.seen) → n < w.mark
  seen_number n None j is may = absurd may
  seen_number n (Some seat) j is may = omega (arith, may, at_seat (IsUnder w.mark) j w.seats seat is k.seen)

  pub release_keeps : (j n : ℕ) → Possible w r (Release j n) → IsKept (after w r (Release j n))
  release_keeps j n may =
      session_moves w.ready w.taken w.mark w.seats w.stopped (w.released ++ n ∷ []) k.flags (omega arith) k.taken (omega arith) k.marked k.seen
      (All-push (λ m. m < w.mark) w.released n k.released (seen_number n (slice_get w.seats j) j refl may.1))

  pub stop_keeps : IsKept (after w r Stop)
  stop_keeps = session_moves w.ready w.taken w.mark w.seats true w.released k.flags (omega arith) k.taken (omega arith) k.marked k.seen k.released
