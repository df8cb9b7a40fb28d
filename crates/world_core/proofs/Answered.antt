-- What is kept before an answer is kept after it.
use Rattle.std.proofs.Common.{◌≡◌, ◌≤◌, ◌+◌, ◌*◌, ℕ, List, [], Option, replicate, Bool, false, Result, Ok, Err, IfOk, OnErr, sym, ◌∙◌, ap, subst}
use Rattle.claim_core.specs.declared.limits.TheConstants.{SEATS}
use Rattle.command_core.specs.Commands.{CommandValue}
use Rattle.disk_core.specs.Memory.{none_held}
use Rattle.broker_core.specs.States.{State, empty_state}
use Rattle.world_core.specs.declared.event.Event.{Event}
use Rattle.world_core.specs.declared.parts.Period.TheVariants.{Running}
use Rattle.world_core.specs.declared.parts.LastCall.TheVariants.{Rest}
use Rattle.world_core.specs.declared.seat.Seat.{Seat}
use Rattle.world_core.specs.Answers.{Answers, IsTold}
use Rattle.world_core.specs.Keeping.{IsKept}
use Rattle.world_core.specs.Schedules.{FitsOld, Holds, crashed, first, first_old, old_journal, opened_once}
use Rattle.world_core.specs.Worlds.{WorldValue}
use Rattle.world_core.proofs.Patching.{here}
use Rattle.broker_core.specs.Steps.{state_after_v1}
use Rattle.recover_core.specs.Standing.{Stands}
use Rattle.recover_core.proofs.Single.{stands_one}
use Rattle.world_core.proofs.Recovered.{read_stands}
use Rattle.world_core.proofs.Schedules.{answered, first_kept, kept_holds, old_kept, old_read, old_reading}

answers : (w v : WorldValue) (e : Event) (b : Bool) → IsKept w → IsTold w e b v → Answers w e b v
answers w v e b k told = let x = here w k in record { reading = x.reading; is_read = x.is_read; tells = told x.reading x.is_read }

told_keeps : (w v : WorldValue) (e : Event) (b : Bool) → IsKept w → IsTold w e b v → IsKept v
told_keeps w v e b k told = answered w v e b k (answers w v e b k told)

pub told_keeps_if : {E : Type 0} (w v : WorldValue) (e : Event) (r : Result Bool E) → IsKept w → IfOk r (λ b. IsTold w e b v) → OnErr r (v ≡ w) → IsKept v
told_keeps_if w v e (Ok b) k told err = told_keeps w v e b k told
told_keeps_if w v e (Err x) k told err = subst IsKept (sym err) k

pub told_holds_if : {E : Type 0} (w v : WorldValue) (e : Event) (r : Result Bool E) → IsKept w → IfOk r (λ b. IsTold w e b v) → OnErr r (v ≡ w) → Holds v
told_holds_if w v e r k told err = kept_holds v (told_keeps_if w v e r k told err)

-- a world that begins with these seats and this disk
abbrev pub first_with : (size : ℕ) (opening : State) (history : List CommandValue) (ready : List Bool) (seats : List Seat) (released earlier content : List ℕ) (held : List (Option ℕ)) → WorldValue
first_with size opening history ready seats released earlier content held = record {
  base = 0;
  opening = opening;
  history = history;
  ready = ready;
  taken = 0;
  stored = 0;
  mark = 0;
  seats = seats;
  stopped = false;
  released = released;
  earlier = earlier;
  phase = Running;
  place = Rest;
  disk = record { size = size; content = content; held = held };
}

pub begins_with : (size : ℕ) (opening : State) (history : List CommandValue) (ready : List Bool) (seats : List Seat) (released earlier content : List ℕ) (held : List (Option ℕ))
    → opening ≡ empty_state → history ≡ [] → ready ≡ [] → released ≡ [] → earlier ≡ []
    → first_with size opening history ready seats released earlier content held ≡ first_with size empty_state [] [] seats [] [] content held
begins_with size opening history ready seats released earlier content held o h f r e = λ i. first_with size (o i) (h i) (f i) seats (r i) (e i) content held

-- with the first seats and the first disk it is the first world
pub is_first : (size : ℕ) (v : WorldValue) (seats : List Seat) (content : List ℕ) (held : List (Option ℕ))
    → v ≡ first_with size empty_state [] [] seats [] [] content held → seats ≡ replicate SEATS (record { own = []; seen = 0 }) → content ≡ opened_once size → held ≡ none_held (32 + 2 * size) → v ≡ first size
is_first size v seats content held is s c n = is ∙ (λ i. first_with size empty_state [] [] (s i) [] [] (c i) (n i))

-- with the seats of a crash and this disk it is a crashed world
pub is_crashed : (size : ℕ) (s t : State) (v : WorldValue) (seats : List Seat) (content bytes : List ℕ) (held : List (Option ℕ))
    → v ≡ record (crashed size s content) { seats = seats; disk = record { size = size; content = content; held = held } }
    → s ≡ t → seats ≡ replicate SEATS (record { own = []; seen = s.count }) → content ≡ bytes → held ≡ none_held (32 + 2 * size) → v ≡ crashed size t bytes
is_crashed size s t v seats content bytes held is same placed are none =
    is ∙ (λ i. record (crashed size s (are i)) { seats = placed i; disk = record { size = size; content = are i; held = none i } }) ∙ ap (λ (u : State). crashed size u bytes) same

-- a journal of the first version stands for the state that its commands lead to by the old rule
pub old_state_is : (size : ℕ) (commands : List CommandValue) (content : List ℕ) (s : State) → 4096 ≤ size → size ≤ 1048576 → FitsOld size commands → content ≡ old_journal size commands → Stands content s → s ≡ state_after_v1 empty_state commands
old_state_is size commands content s least most fits are stand =
    stands_one (old_journal size commands) s (state_after_v1 empty_state commands) (subst (λ (l : List ℕ). Stands l s) are stand)
    (read_stands size (old_journal size commands) (old_reading size least most commands fits) (old_read size least most commands fits))

pub old_is_kept : (size : ℕ) (v : WorldValue) (commands : List CommandValue) → 4096 ≤ size → size ≤ 1048576 → FitsOld size commands → v ≡ first_old size commands → IsKept v
old_is_kept size v commands least most fits is = subst IsKept (sym is) (old_kept size least most commands fits)

pub first_is_kept : (size : ℕ) (v : WorldValue) → 4096 ≤ size → size ≤ 1048576 → v ≡ first size → IsKept v
first_is_kept size v least most is = subst IsKept (sym is) (first_kept size least most)

-- the same of what was there
answers_as : (w u v : WorldValue) (e : Event) (b : Bool) → w ≡ u → IsKept w → IsTold w e b v → Answers u e b v
answers_as w u v e b same k told = subst (λ (x : WorldValue). Answers x e b v) same (answers w v e b k told)

pub answers_if : {E : Type 0} (w u v : WorldValue) (e : Event) (r : Result Bool E) → w ≡ u → IsKept w → IfOk r (λ b. IsTold w e b v) → IfOk r (λ b. Answers u e b v)
answers_if w u v e (Ok b) same k told = answers_as w u v e b same k told
answers_if w u v e (Err x) same k told = told
