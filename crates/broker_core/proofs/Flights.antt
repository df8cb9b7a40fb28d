use Rattle.std.proofs.Common.{◌≡◌, ◌≤◌, ◌+◌, ◌&&◌, ◌||◌, List, [], ◌∷◌, ℕ, suc, zero, Bool, true, false, cond, Option, Some, None, if◌then◌else◌, count_by, filter, length, map, refl, slice_get, sym, ap, ◌∙◌, subst, arith, take}
use Rattle.std.specs.List.{AllByRecursion, list_any, sum_by}
use Rattle.std.specs.List.Sorted.{IsStrictlySortedBy}
use Rattle.std.specs.Map.{keys_of}
use Rattle.std.specs.Option.{option_map}
use Rattle.std.specs.Ordering.{nat_cmp}
use Rattle.std.specs.Str.{bytes_eq}
use Rattle.std.specs.declared.cmp.Ordering.TheVariants.{Less}
use Rattle.std.proofs.lemmas.Cmp.{ranked}
use Rattle.std.proofs.lemmas.List.Sums.{sum_by-cons}
use Rattle.std.proofs.lemmas.Option.{none-some, same_Some}
use Rattle.command_core.specs.Destinations.{is_queue}
use Rattle.line_core.proofs.Flights.{has_delivery-mapped, length-settled, sum_by-settled, unsettled-mapped}
use Rattle.line_core.specs.declared.message.Message.{Message}
use Rattle.line_core.specs.Flights.{IsOver, IsRising, has_delivery, mapped, settled}
use Rattle.line_core.specs.Lines.{inserted}
use Rattle.broker_state.specs.declared.subscription.Subscription.{Subscription}
use Rattle.broker_core.specs.declared.precheck.PrecheckFlight.{PrecheckFlight}
use Rattle.broker_core.specs.declared.precheck.PrecheckSize.{PrecheckSize}
use Rattle.broker_state.specs.Dead.{is_dropped}
use Rattle.broker_state.specs.Lists.{picked, with_first}
use Rattle.broker_state.specs.Operations.{awaits, copied, is_of, settled_by}
use Rattle.broker_state.specs.Parts.{NonePass, copies_to}
use Rattle.broker_state.specs.Names.{Name}
use Rattle.broker_state.specs.States.{bytes, one, weight_of_subscription}
use Rattle.broker_state.specs.Waiting.{is_own}
use Rattle.broker_core.specs.Prechecks.{bytes_in, bytes_kept, deliveries_in, flight_of, flights_of, has, kept_bytes_in, kept_in, left_by, one_kept, sized}
use Rattle.broker_tables.specs.Refusals.{all_kept, all_kept_bytes, refused_bytes, kept_bytes, kept_one}
use Rattle.broker_state.proofs.Firsts.{found}
use Rattle.broker_state.proofs.Weights.{ones, sum_by-part}

-- what a flight's deliveries before a place have is under the number there
module _ {X Y : Type 0} (f : X → Y) where
  key_at : (P : ℕ → Type 0) (flight : List (ℕ × X)) (at : ℕ) (item : ℕ × X) → slice_get flight at ≡ Some item → AllByRecursion P (keys_of flight) → P item.0
  key_at P [] at item is all = absurd (none-some item is)
  key_at P (x ∷ flight) zero item is all = subst (λ (y : ℕ × X). P y.0) (same_Some x item is) all.0
  key_at P (x ∷ flight) (suc at) item is all = key_at P flight at item is all.1

  pub over_before : (flight : List (ℕ × X)) (at : ℕ) (item : ℕ × X) → IsRising flight → slice_get flight at ≡ Some item → IsOver item.0 (mapped f (take at flight))
  unfolding IsStrictlySortedBy
  over_before flight zero item rising is = tt
  over_before [] (suc at) item rising is = tt
  over_before (x ∷ flight) (suc at) item rising is =
      (ranked x.0 item.0 Less (sym (key_at (λ n. nat_cmp x.0 n ≡ Less) flight at item is rising.0)), over_before flight at item rising.1 is)

-- where none passes, none is changed
pub with_first-none : {X : Type 0} (p : X → Bool) (f : X → X) (xs : List X) → NonePass p xs → with_first p f xs ≡ xs
with_first-none p f [] none = refl
with_first-none p f (x ∷ xs) none =
    ap (λ b. cond b (f x ∷ xs) (x ∷ with_first p f xs)) none.0 ∙ ap (λ ys. x ∷ ys) (with_first-none p f xs none.1)

-- what is settled is in the flights no more
pub settled_counts : (delivery : ℕ) (flights : List PrecheckFlight) (at : ℕ) (flight : PrecheckFlight) (out : List (ℕ × PrecheckSize)) → slice_get flights at ≡ Some flight → out ≡ settled flight.mode delivery flight.deliveries → (length out ≤ deliveries_in flights) × (sum_by (λ item. item.1.bytes) out ≤ bytes_in flights)
settled_counts delivery flights at flight out is given =
    let long = λ (f : PrecheckFlight). length f.deliveries in
    let wide = λ (f : PrecheckFlight). sum_by (λ (item : ℕ × PrecheckSize). item.1.bytes) f.deliveries in (
      omega (arith, sum_by-part long flights at flight is, length-settled flight.mode delivery flight.deliveries, ap length given),
      omega (arith, sum_by-part wide flights at flight is, sum_by-settled (λ (item : ℕ × PrecheckSize). item.1.bytes) flight.mode delivery flight.deliveries, ap (sum_by (λ (item : ℕ × PrecheckSize). item.1.bytes)) given),
    )

module _ (session delivery : ℕ) where
  -- a flight has a delivery where its subscription has it
  pub any_flight : (subs : List Subscription) → list_any (has delivery) (flights_of session subs) ≡ list_any (awaits session delivery) subs
  any_flight [] = refl
  any_flight (sub ∷ subs) =
      elim (is_of session sub) as (λ b. list_any (has delivery) (map flight_of (cond b (sub ∷ filter (is_of session) subs) (filter (is_of session) subs))) ≡ ((b && has_delivery delivery sub.unacknowledged) || list_any (awaits session delivery) subs)) [
        | true ↦ ap (λ b. b || list_any (has delivery) (flights_of session subs)) (has_delivery-mapped (sized (is_own sub)) delivery sub.unacknowledged) ∙ ap (λ b. has_delivery delivery sub.unacknowledged || b) (any_flight subs)
        | false ↦ any_flight subs
      ]

  left_settled : (sub : Subscription) → left_by delivery (flight_of sub) ≡ flight_of (settled_by delivery sub)
  left_settled sub =
      ap (λ l. record (flight_of sub) { deliveries = l }) (unsettled-mapped (sized (is_own sub)) sub.mode delivery sub.unacknowledged)

  abbrev after : List Subscription → List Subscription
  after subs = with_first (awaits session delivery) (settled_by delivery) subs

  heads : (sub : Subscription) (subs : List Subscription) (b : Bool) → is_of session sub ≡ b → flights_of session (sub ∷ subs) ≡ cond b (flight_of sub ∷ flights_of session subs) (flights_of session subs)
  heads sub subs true is =
      ap (λ b. map flight_of (cond b (sub ∷ filter (is_of session) subs) (filter (is_of session) subs))) is
  heads sub subs false is =
      ap (λ b. map flight_of (cond b (sub ∷ filter (is_of session) subs) (filter (is_of session) subs))) is

  after_is : (sub : Subscription) (subs : List Subscription) (b h : Bool) → is_of session sub ≡ b → has_delivery delivery sub.unacknowledged ≡ h → after (sub ∷ subs) ≡ cond (b && h) (settled_by delivery sub ∷ subs) (sub ∷ after subs)
  after_is sub subs b h is held =
      ap (λ c. cond (c && has_delivery delivery sub.unacknowledged) (settled_by delivery sub ∷ subs) (sub ∷ after subs)) is ∙ ap (λ c. cond (b && c) (settled_by delivery sub ∷ subs) (sub ∷ after subs)) held

  first_is : (sub : Subscription) (fs : List PrecheckFlight) (h : Bool) → has_delivery delivery sub.unacknowledged ≡ h → with_first (has delivery) (left_by delivery) (flight_of sub ∷ fs) ≡ cond h (flight_of (settled_by delivery sub) ∷ fs) (flight_of sub ∷ with_first (has delivery) (left_by delivery) fs)
  first_is sub fs h held =
      ap (λ c. cond c (left_by delivery (flight_of sub) ∷ fs) (flight_of sub ∷ with_first (has delivery) (left_by delivery) fs)) (has_delivery-mapped (sized (is_own sub)) delivery sub.unacknowledged ∙ held)
      ∙ ap (λ f. cond h (f ∷ fs) (flight_of sub ∷ with_first (has delivery) (left_by delivery) fs)) (left_settled sub)

  first_by : (sub : Subscription) (subs : List Subscription) (b h : Bool) → is_of session sub ≡ b → has_delivery delivery sub.unacknowledged ≡ h → with_first (has delivery) (left_by delivery) (flights_of session subs) ≡ flights_of session (after subs) → with_first (has delivery) (left_by delivery) (flights_of session (sub ∷ subs)) ≡ flights_of session (after (sub ∷ subs))
  first_by sub subs true true is held rest =
      ap (with_first (has delivery) (left_by delivery)) (heads sub subs true is) ∙ first_is sub (flights_of session subs) true held
      ∙ sym (ap (flights_of session) (after_is sub subs true true is held) ∙ heads (settled_by delivery sub) subs true is)
  first_by sub subs true false is held rest =
      ap (with_first (has delivery) (left_by delivery)) (heads sub subs true is) ∙ first_is sub (flights_of session subs) false held ∙ ap (λ fs. flight_of sub ∷ fs) rest
      ∙ sym (ap (flights_of session) (after_is sub subs true false is held) ∙ heads sub (after subs) true is)
  first_by sub subs false h is held rest =
      ap (with_first (has delivery) (left_by delivery)) (heads sub subs false is) ∙ rest
      ∙ sym (ap (flights_of session) (after_is sub subs false h is held) ∙ heads sub (after subs) false is)

  -- the flights once a delivery is acknowledged are those of the subscriptions then
  pub first_flight : (subs : List Subscription) → with_first (has delivery) (left_by delivery) (flights_of session subs) ≡ flights_of session (after subs)
  first_flight [] = refl
  first_flight (sub ∷ subs) =
      first_by sub subs (is_of session sub) (has_delivery delivery sub.unacknowledged) refl refl (first_flight subs)

  -- the first flight that has a delivery is that of the first subscription that has it
  abbrev first_of_flights : Option (PrecheckFlight × List PrecheckFlight) → Option PrecheckFlight
  first_of_flights o = option_map (λ (q : PrecheckFlight × List PrecheckFlight). q.0) o

  abbrev first_of_subs : Option (Subscription × List Subscription) → Option PrecheckFlight
  first_of_subs o = option_map (λ (q : Subscription × List Subscription). flight_of q.0) o

  behind_flight : (f : PrecheckFlight) (o : Option (PrecheckFlight × List PrecheckFlight)) → first_of_flights (option_map {U = PrecheckFlight × List PrecheckFlight} (λ (q : PrecheckFlight × List PrecheckFlight). (q.0, f ∷ q.1)) o) ≡ first_of_flights o
  behind_flight f None = refl
  behind_flight f (Some q) = refl

  behind_sub : (sub : Subscription) (o : Option (Subscription × List Subscription)) → first_of_subs (option_map {U = Subscription × List Subscription} (λ (q : Subscription × List Subscription). (q.0, sub ∷ q.1)) o) ≡ first_of_subs o
  behind_sub sub None = refl
  behind_sub sub (Some q) = refl

  abbrev flights_by : Bool → PrecheckFlight → List PrecheckFlight → Option (PrecheckFlight × List PrecheckFlight)
  flights_by b f fs =
      if b then Some (f, fs) else option_map {U = PrecheckFlight × List PrecheckFlight} (λ (q : PrecheckFlight × List PrecheckFlight). (q.0, f ∷ q.1)) (picked (has delivery) fs)

  abbrev subs_by : Bool → Subscription → List Subscription → Option (Subscription × List Subscription)
  subs_by b sub subs =
      if b then Some (sub, subs) else option_map {U = Subscription × List Subscription} (λ (q : Subscription × List Subscription). (q.0, sub ∷ q.1)) (picked (awaits session delivery) subs)

  alike_by : (sub : Subscription) (subs : List Subscription) (b h : Bool) → is_of session sub ≡ b → has_delivery delivery sub.unacknowledged ≡ h → first_of_flights (picked (has delivery) (flights_of session subs)) ≡ first_of_subs (picked (awaits session delivery) subs) → first_of_flights (picked (has delivery) (flights_of session (sub ∷ subs))) ≡ first_of_subs (picked (awaits session delivery) (sub ∷ subs))
  alike_by sub subs true true is held rest =
      ap (λ fs. first_of_flights (picked (has delivery) fs)) (heads sub subs true is)
      ∙ ap (λ c. first_of_flights (flights_by c (flight_of sub) (flights_of session subs))) (has_delivery-mapped (sized (is_own sub)) delivery sub.unacknowledged ∙ held)
      ∙ sym (ap (λ c. first_of_subs (subs_by (c && has_delivery delivery sub.unacknowledged) sub subs)) is ∙ ap (λ c. first_of_subs (subs_by c sub subs)) held)
  alike_by sub subs true false is held rest =
      ap (λ fs. first_of_flights (picked (has delivery) fs)) (heads sub subs true is)
      ∙ ap (λ c. first_of_flights (flights_by c (flight_of sub) (flights_of session subs))) (has_delivery-mapped (sized (is_own sub)) delivery sub.unacknowledged ∙ held)
      ∙ behind_flight (flight_of sub) (picked (has delivery) (flights_of session subs)) ∙ rest
      ∙ sym (ap (λ c. first_of_subs (subs_by (c && has_delivery delivery sub.unacknowledged) sub subs)) is ∙ ap (λ c. first_of_subs (subs_by c sub subs)) held ∙ behind_sub sub (picked (awaits session delivery) subs))
  alike_by sub subs false h is held rest =
      ap (λ fs. first_of_flights (picked (has delivery) fs)) (heads sub subs false is) ∙ rest
      ∙ sym (ap (λ c. first_of_subs (subs_by (c && has_delivery delivery sub.unacknowledged) sub subs)) is ∙ behind_sub sub (picked (awaits session delivery) subs))

  alike : (subs : List Subscription) → first_of_flights (picked (has delivery) (flights_of session subs)) ≡ first_of_subs (picked (awaits session delivery) subs)
  alike [] = refl
  alike (sub ∷ subs) =
      alike_by sub subs (is_of session sub) (has_delivery delivery sub.unacknowledged) refl refl (alike subs)

  pub picked_flight : (subs : List Subscription) (sub : Subscription) (others : List Subscription) → picked (awaits session delivery) subs ≡ Some (sub, others) → (rest : List PrecheckFlight) × (picked (has delivery) (flights_of session subs) ≡ Some (flight_of sub, rest))
  picked_flight subs sub others is =
      by (picked (has delivery) (flights_of session subs)) refl (alike subs ∙ ap first_of_subs is)
    where
      by : (o : Option (PrecheckFlight × List PrecheckFlight)) → picked (has delivery) (flights_of session subs) ≡ o → first_of_flights o ≡ Some (flight_of sub) → (rest : List PrecheckFlight) × (picked (has delivery) (flights_of session subs) ≡ Some (flight_of sub, rest))
      by None found same = absurd cc
      by (Some q) found same = (q.1, found ∙ ap (λ f. Some (f, q.1)) (same_Some q.0 (flight_of sub) same))

-- the sizes of deliveries stand for their messages
module _ (own : Bool) where
  pub sum_by-mapped : (flight : List (ℕ × Message)) → sum_by (λ (item : ℕ × PrecheckSize). item.1.bytes) (mapped (sized own) flight) ≡ sum_by (λ (item : ℕ × Message). bytes item.1) flight
  sum_by-mapped [] = refl
  sum_by-mapped (x ∷ flight) =
      omega (arith, sum_by-mapped flight, sum_by-cons (λ (item : ℕ × PrecheckSize). item.1.bytes) (x.0, sized own x.1) (mapped (sized own) flight), sum_by-cons (λ (item : ℕ × Message). bytes item.1) x flight)

  pub length-mapped : (flight : List (ℕ × Message)) → length (mapped (sized own) flight) ≡ length flight
  length-mapped [] = refl
  length-mapped (x ∷ flight) = ap suc (length-mapped flight)

  -- and for what is kept of them
  one_sized : (m : Message) → one_kept (sized own m) ≡ kept_one own m
  one_sized m = by (is_dropped own m)
    where
      by : (b : Bool) → elim (if b then None else Some (refused_bytes m)) as (λ o. ℕ) [ None ↦ 0 | Some there ↦ 1 ] ≡ (if b then 0 else 1)
      by true = refl
      by false = refl

  bytes_sized : (m : Message) → bytes_kept (sized own m) ≡ kept_bytes own m
  bytes_sized m = by (is_dropped own m)
    where
      by : (b : Bool) → elim (if b then None else Some (refused_bytes m)) as (λ o. ℕ) [ None ↦ 0 | Some there ↦ there ] ≡ (if b then 0 else refused_bytes m)
      by true = refl
      by false = refl

  pub kept-mapped : (flight : List (ℕ × Message)) → kept_in (mapped (sized own) flight) ≡ all_kept own flight
  kept-mapped [] = refl
  kept-mapped (x ∷ flight) =
      omega (arith, kept-mapped flight, one_sized x.1, sum_by-cons (λ (item : ℕ × PrecheckSize). one_kept item.1) (x.0, sized own x.1) (mapped (sized own) flight), sum_by-cons (λ (item : ℕ × Message). kept_one own item.1) x flight)

  pub kept_bytes-mapped : (flight : List (ℕ × Message)) → kept_bytes_in (mapped (sized own) flight) ≡ all_kept_bytes own flight
  kept_bytes-mapped [] = refl
  kept_bytes-mapped (x ∷ flight) =
      omega (arith, kept_bytes-mapped flight, bytes_sized x.1, sum_by-cons (λ (item : ℕ × PrecheckSize). bytes_kept item.1) (x.0, sized own x.1) (mapped (sized own) flight), sum_by-cons (λ (item : ℕ × Message). kept_bytes own item.1) x flight)

abbrev pub long : PrecheckFlight → ℕ
long flight = length flight.deliveries

abbrev pub wide : PrecheckFlight → ℕ
wide flight = sum_by (λ (item : ℕ × PrecheckSize). item.1.bytes) flight.deliveries

module _ (session : ℕ) (weight : Subscription → ℕ) (part : PrecheckFlight → ℕ) (each : (sub : Subscription) → part (flight_of sub) ≤ weight sub) where
  flights_part : (subs : List Subscription) → sum_by part (flights_of session subs) ≤ sum_by weight subs
  flights_part [] = omega arith
  flights_part (sub ∷ subs) =
      elim (is_of session sub) as (λ b. sum_by part (map flight_of (cond b (sub ∷ filter (is_of session) subs) (filter (is_of session) subs))) ≤ sum_by weight (sub ∷ subs)) [
        | true ↦ omega (arith, each sub, flights_part subs, sum_by-cons weight sub subs, sum_by-cons part (flight_of sub) (flights_of session subs))
        | false ↦ omega (arith, flights_part subs, sum_by-cons weight sub subs)
      ]

-- what is in the flights is among what the subscriptions weigh
pub few_deliveries : (session : ℕ) (subs : List Subscription) → deliveries_in (flights_of session subs) ≤ sum_by (weight_of_subscription one) subs
few_deliveries session subs =
    flights_part session (weight_of_subscription one) long (λ sub. omega (arith, ones sub.unacknowledged, length-mapped (is_own sub) sub.unacknowledged)) subs

pub few_bytes : (session : ℕ) (subs : List Subscription) → bytes_in (flights_of session subs) ≤ sum_by (weight_of_subscription bytes) subs
few_bytes session subs =
    flights_part session (weight_of_subscription bytes) wide (λ sub. omega (arith, sum_by-mapped (is_own sub) sub.unacknowledged)) subs

-- copies change no flight
pub flights-copied : (session : ℕ) (m : Message) (subs : List Subscription) → flights_of session (map (copied m) subs) ≡ flights_of session subs
flights-copied session m [] = refl
flights-copied session m (sub ∷ subs) =
    let rest = ap (λ (fs : List PrecheckFlight). cond (is_of session sub) (flight_of sub ∷ fs) fs) (flights-copied session m subs) ∙ sym (heads session 0 sub subs (is_of session sub) refl) in
    let more = record sub { line = inserted m sub.line } in
    elim (is_own sub && bytes_eq sub.destination m.sending.destination) as (λ b. flights_of session (cond b more sub ∷ map (copied m) subs) ≡ flights_of session (sub ∷ subs)) [
      | true ↦ heads session 0 more (map (copied m) subs) (is_of session sub) refl ∙ rest
      | false ↦ heads session 0 sub (map (copied m) subs) (is_of session sub) refl ∙ rest
    ]

-- copies and acknowledgements leave who listens to a topic
module _ (to : List ℕ) where
  abbrev goes : Subscription → Bool
  goes sub = is_own sub && bytes_eq sub.destination to

  goes-copied : (m : Message) (subs : List Subscription) → count_by goes (map (copied m) subs) ≡ count_by goes subs
  goes-copied m [] = refl
  goes-copied m (sub ∷ subs) =
      let one_of : Subscription → ℕ = λ s. cond (goes s) 1 0 in
      let more = record sub { line = inserted m sub.line } in
      elim (is_own sub && bytes_eq sub.destination m.sending.destination) as (λ b. count_by goes (cond b more sub ∷ map (copied m) subs) ≡ count_by goes (sub ∷ subs)) [
        | true ↦ omega (arith, goes-copied m subs, sum_by-cons one_of more (map (copied m) subs), sum_by-cons one_of sub subs)
        | false ↦ omega (arith, goes-copied m subs, sum_by-cons one_of sub (map (copied m) subs), sum_by-cons one_of sub subs)
      ]

  goes-after : (session delivery : ℕ) (subs : List Subscription) → count_by goes (after session delivery subs) ≡ count_by goes subs
  goes-after session delivery [] = refl
  goes-after session delivery (sub ∷ subs) =
      let one_of : Subscription → ℕ = λ s. cond (goes s) 1 0 in
      elim (awaits session delivery sub) as (λ b. count_by goes (cond b (settled_by delivery sub ∷ subs) (sub ∷ after session delivery subs)) ≡ count_by goes (sub ∷ subs)) [
        | true ↦ omega (arith, sum_by-cons one_of (settled_by delivery sub) subs, sum_by-cons one_of sub subs)
        | false ↦ omega (arith, goes-after session delivery subs, sum_by-cons one_of sub (after session delivery subs), sum_by-cons one_of sub subs)
      ]

  module _ (durables : List (Name × List ℕ)) where
    counted : (n k : ℕ) → n ≡ k → cond (is_queue to) 1 (count_by (λ durable. bytes_eq durable.1 to) durables + n) ≡ cond (is_queue to) 1 (count_by (λ durable. bytes_eq durable.1 to) durables + k)
    counted n k is =
        ap (λ x. cond (is_queue to) 1 (count_by (λ (durable : Name × List ℕ). bytes_eq durable.1 to) durables + x)) is

    pub copies-copied : (m : Message) (subs : List Subscription) → copies_to to durables (map (copied m) subs) ≡ copies_to to durables subs
    copies-copied m subs = counted (count_by goes (map (copied m) subs)) (count_by goes subs) (goes-copied m subs)

    pub copies-after : (session delivery : ℕ) (subs : List Subscription) → copies_to to durables (with_first (awaits session delivery) (settled_by delivery) subs) ≡ copies_to to durables subs
    copies-after session delivery subs =
        counted (count_by goes (after session delivery subs)) (count_by goes subs) (goes-after session delivery subs)
