-- What a worker's desks keep while events are reported to them.
use Rattle.std.proofs.Common.{◌≡◌, inl, inr, ◌<◌, ◌≤◌, ◌+◌, ◌*◌, ◌∙◌, ◌++◌, Bor, Bool, true, false, List, [], ◌∷◌, ℕ, ap, arith, cond, eqb, eq-eqb, length, map, refl, subst, sym}
use Rattle.std.specs.List.{slice_index_or, slice_set}
use Rattle.std.proofs.lemmas.Bool.{cases_eq}
use Rattle.std.proofs.lemmas.List.Sums.{sum_by_push}
use Rattle.std.proofs.lemmas.List.{append-nil, get_or-set_other, get_or-set_same, length-set, nil_from_length}
use Rattle.clients.specs.Lines.{joined, may_join, times}
use Rattle.clients.specs.Turns.{woken}
use Rattle.clients.specs.declared.lines.Lines.{Lines}
use Rattle.clients.specs.declared.wakers.TheConstants.{CLIENTS}
use Rattle.mio.specs.Event.{event_token}
use Rattle.mio.specs.declared.event.event.Event.{Event}
use Rattle.server_core.specs.Reporting.{IsReported, StandsInLine}
use Rattle.server_core.specs.declared.service.Service.{Service}

-- one more at the end of a line
times_push : (m n : ℕ) (line : List ℕ) → times m (line ++ n ∷ []) ≡ times m line + cond (eqb m n) 1 0
times_push m n line = sum_by_push (λ other. cond (eqb m other) 1 0) line n

own_push : (n : ℕ) (line : List ℕ) → 0 < times n (line ++ n ∷ [])
own_push n line = omega (arith, times_push n n line, ap {B = ℕ} (λ b. cond b 1 0) (eq-eqb n n refl))

-- joining takes nobody out of a line
times_joined : (m n : ℕ) (line : List ℕ) → times m line ≤ times m (joined n line)
times_joined m n line = go (may_join n line) (omega (arith, times_push m n line))
  where
    go : (may : Bool) → times m line ≤ times m (line ++ n ∷ []) → times m line ≤ times m (cond may (line ++ n ∷ []) line)
    go true more = more
    go false more = omega arith

own_joined : (n : ℕ) (line : List ℕ) → n < CLIENTS → 0 < times n (joined n line)
own_joined n line client = grind (arith, own_push n line, client)

-- waking takes nobody out of line
pub woken_keeps : (m n : ℕ) (l : Lines) → StandsInLine m l → StandsInLine m (woken n l)
woken_keeps m n l stands = go (may_join n l.again) (times_joined m n l.ready)
  where
    go : (may : Bool) → times m l.ready ≤ times m (joined n l.ready) → StandsInLine m (cond may (record l { ready = joined n l.ready }) l)
    go true more = omega (arith, more, stands)
    go false more = stands

-- who is woken stands in line
pub woken_stands : (n : ℕ) (l : Lines) → n < CLIENTS → StandsInLine n (woken n l)
woken_stands n l client = grind (arith, own_joined n l.ready client, client)

module _ {R : Type 0} (services : List (Service R)) (i n : ℕ) (was s : Service R) (within : i < length services) (woke : s.clients.lines ≡ woken n (slice_index_or services i was).clients.lines) where
  here : (d : Service R) (desk client : ℕ) → desk ≡ i → StandsInLine client s.clients.lines → StandsInLine client (slice_index_or (slice_set services i s) desk d).clients.lines
  here d desk client same stands =
      let at : slice_index_or (slice_set services i s) desk d ≡ s = ap (λ k. slice_index_or (slice_set services i s) k d) same ∙ get_or-set_same services i s d within in
      subst (λ (it : Service R). StandsInLine client it.clients.lines) (sym at) stands

  -- one more event was reported to a desk: who stood in line stands there
  pub still_reported : (event : Event) → IsReported services event → IsReported (slice_set services i s) event
  still_reported event reported desk client d small token there =
      let room : desk < length services = omega (arith, there, length-set services i s) in
      elim (cases_eq desk i) [
        | inl same ↦
            let before : StandsInLine client (slice_index_or services i was).clients.lines = subst (λ k. StandsInLine client (slice_index_or services k was).clients.lines) same (reported desk client was small token room) in
            here d desk client same (subst (StandsInLine client) (sym woke) (woken_keeps client n (slice_index_or services i was).clients.lines before))
        | inr other ↦ subst (λ (it : Service R). StandsInLine client it.clients.lines) (sym (get_or-set_other services i desk s d other)) (reported desk client d small token room)
      ]

  -- and its client does
  pub is_reported : (event : Event) → n < CLIENTS → i * CLIENTS + n ≡ (event_token event).0 → IsReported (slice_set services i s) event
  is_reported event own_small own_token desk client d small token there =
      let same : desk ≡ i = omega (arith, own_small, own_token, small, token) in
      let it : client ≡ n = omega (arith, own_small, own_token, small, token) in
      here d desk client same (subst (StandsInLine client) (sym woke) (subst (λ k. StandsInLine k (woken n (slice_index_or services i was).clients.lines)) (sym it) (woken_stands n (slice_index_or services i was).clients.lines own_small)))

-- the events that a loop over them has had, and those that it has not
abbrev pub events_of : List (Bor Event) → List Event → List Event
events_of had rest = map (λ (event : Bor Event). event.now) had ++ rest

-- one that it has next is one of all
pub events_push : (had : List (Bor Event)) (event : Bor Event) (rest more : List Event) → rest ≡ event.now ∷ more → events_of (had ++ event ∷ []) more ≡ events_of had rest
events_push [] event rest more steps = sym steps
events_push (first ∷ had) event rest more steps = ap (λ (l : List Event). first.now ∷ l) (events_push had event rest more steps)

-- once none is left, it has had all
pub events_end : (had : List (Bor Event)) (rest events : List Event) → events_of had rest ≡ events → length rest ≡ 0 → map (λ (event : Bor Event). event.now) had ≡ events
events_end had rest events whole none =
    sym (append-nil (map (λ (event : Bor Event). event.now) had)) ∙ ap (λ (l : List Event). events_of had l) (sym (nil_from_length rest none)) ∙ whole
