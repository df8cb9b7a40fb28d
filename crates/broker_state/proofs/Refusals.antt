use Rattle.std.proofs.Common.{◌≡◌, ◌≤◌, ◌+◌, ◌&&◌, List, [], ◌∷◌, ℕ, Bool, true, false, Some, Ok, Err, cond, nat_le, refl, ap, ◌∙◌, arith, if◌then◌else◌}
use Rattle.std.specs.List.{AllByRecursion, list_any, sum_by}
use Rattle.std.proofs.lemmas.Bool.{le-leb}
use Rattle.std.proofs.lemmas.List.Sums.{sum_by-cons}
use Rattle.command_core.specs.declared.fault.Fault.TheVariants.{NoRoom, UnknownAcknowledgement}
use Rattle.line_core.specs.declared.message.Message.{Message}
use Rattle.line_core.specs.Flights.{settled}
use Rattle.broker_state.specs.declared.nack_rule.NackRule.TheVariants as rule
use Rattle.broker_state.specs.declared.subscription.Subscription.{Subscription}
use Rattle.broker_state.specs.Dead.{dead_queue, first_place, is_dropped, keeping, keeping_from, kept_by_nack, kept_of, nacked, refused, refused_from, with_refused, with_room}
use Rattle.broker_state.specs.Lists.{picked, with_first}
use Rattle.broker_state.specs.Names.{text_cmp}
use Rattle.broker_state.specs.Operations.{awaits, settled_by}
use Rattle.broker_state.specs.States.{State, bytes, held_bytes, held_messages, one, weight_of, weight_of_subscription}
use Rattle.broker_state.specs.Waiting.{Lines, is_own, weight_of_lines, with_message}
use Rattle.broker_state.proofs.Firsts.{sum_first}
use Rattle.broker_state.proofs.KeyedLines.{IsRising, rising-with_message, weight-with_message}
use Rattle.broker_state.proofs.Keys.{same_texts, texts_total}
use Rattle.broker_state.proofs.Weights.{weight-settled_by}

-- What a NACK keeps, and its line.

-- of settled messages, those that are kept
module _ (drops : Message → Bool) (command : ℕ) where
  abbrev kept : ℕ → List (ℕ × Message) → List Message
  kept place deliveries = refused_from drops command place deliveries

  -- what holds of each that is refused holds of all that are kept
  pub all_kept : (P : Message → Type 0) → ((place : ℕ) (m : Message) → P (refused command place m)) → (place : ℕ) (deliveries : List (ℕ × Message)) → AllByRecursion P (kept place deliveries)
  all_kept P has place [] = tt
  all_kept P has place (d ∷ deliveries) = by (drops d.1) (all_kept P has (place + 1) deliveries)
    where
      by : (b : Bool) → AllByRecursion P (kept (place + 1) deliveries) → AllByRecursion P (if b then kept (place + 1) deliveries else refused command place d.1 ∷ kept (place + 1) deliveries)
      by true others = others
      by false others = (has place d.1, others)

  -- a sum over those that are kept is one over all, where the others count for nothing
  module _ (f : Message → ℕ) (g : Message → ℕ) (alike : (place : ℕ) (m : Message) → f (refused command place m) ≡ g m) where
    abbrev part : ℕ × Message → ℕ
    part d = if drops d.1 then 0 else g d.1

    pub sum_kept : (place : ℕ) (deliveries : List (ℕ × Message)) → sum_by f (kept place deliveries) ≡ sum_by part deliveries
    sum_kept place [] = refl
    sum_kept place (d ∷ deliveries) =
        omega (arith, by (drops d.1), sum_kept (place + 1) deliveries, sum_by-cons part d deliveries)
      where
        by : (b : Bool) → sum_by f (if b then kept (place + 1) deliveries else refused command place d.1 ∷ kept (place + 1) deliveries) ≡ (if b then 0 else g d.1) + sum_by f (kept (place + 1) deliveries)
        by true = omega arith
        by false =
            omega (arith, alike place d.1, sum_by-cons f (refused command place d.1) (kept (place + 1) deliveries))

-- the lines stay in order, and weigh what the messages do more
pub weight-with_refused : (weight : Message → ℕ) (messages : List Message) (lines : Lines (List ℕ)) → IsRising text_cmp texts_total lines → IsRising text_cmp texts_total (with_refused messages lines) × (weight_of_lines weight (with_refused messages lines) ≡ weight_of_lines weight lines + sum_by weight messages)
weight-with_refused weight [] lines rising = (rising, omega arith)
weight-with_refused weight (m ∷ messages) lines rising =
    let rest = weight-with_refused weight messages (with_message text_cmp dead_queue m lines) (rising-with_message text_cmp texts_total dead_queue m lines rising) in
    (rest.0, omega (arith, rest.1, weight-with_message text_cmp texts_total same_texts weight dead_queue m lines rising, sum_by-cons weight m messages))

-- A NACK that keeps, by what it finds.
module _ (s : State) (session member delivery : ℕ) where
  -- the state once the delivery is acknowledged
  abbrev pub let_go : State
  let_go = record s { subscriptions = with_first (awaits session delivery) (settled_by delivery) s.subscriptions }

  -- the messages that a subscription's NACK keeps
  abbrev pub kept_from : Subscription → List Message
  kept_from sub = refused_from (is_dropped (is_own sub)) s.count (first_place member) (settled sub.mode delivery sub.unacknowledged)

  -- the state once they are kept
  abbrev pub kept_in : Subscription → State
  kept_in sub = keeping (kept_from sub) let_go

  pub nacked_any : list_any (awaits session delivery) s.subscriptions ≡ true → nacked rule.Keeps s session member delivery ≡ with_room (keeping (kept_by_nack s session member delivery) let_go)
  nacked_any some =
      ap (λ b. keeping_from (kept_by_nack s session member delivery) (if b then Ok let_go else Err UnknownAcknowledgement)) some

  pub nacked_some : (sub : Subscription) (others : List Subscription) → picked (awaits session delivery) s.subscriptions ≡ Some (sub, others) → list_any (awaits session delivery) s.subscriptions ≡ true → nacked rule.Keeps s session member delivery ≡ with_room (kept_in sub)
  nacked_some sub others is some =
      nacked_any some ∙ ap (λ o. with_room (keeping (kept_of s member delivery o) let_go)) is

  pub nacked_none : list_any (awaits session delivery) s.subscriptions ≡ false → nacked rule.Keeps s session member delivery ≡ Err UnknownAcknowledgement
  nacked_none none =
      ap (λ b. keeping_from (kept_by_nack s session member delivery) (if b then Ok let_go else Err UnknownAcknowledgement)) none

-- What is held then: what was settled has gone, and what is kept has come.
module _ (weight : Message → ℕ) (s : State) (session member delivery : ℕ) (sub : Subscription) (others : List Subscription) (is : picked (awaits session delivery) s.subscriptions ≡ Some (sub, others)) where
  -- what is settled of a subscription
  abbrev pub gone : ℕ
  gone = sum_by (λ (d : ℕ × Message). weight d.1) (settled sub.mode delivery sub.unacknowledged)

  pub weight-let_go : weight_of weight (let_go s session member delivery) + gone ≡ weight_of weight s
  weight-let_go =
      omega (arith, sum_first (awaits session delivery) (settled_by delivery) (weight_of_subscription weight) s.subscriptions sub others is, weight-settled_by weight delivery sub)

  pub weight-kept_in : IsRising text_cmp texts_total s.shared.queues → weight_of weight (kept_in s session member delivery sub) + gone ≡ weight_of weight s + sum_by weight (kept_from s session member delivery sub)
  weight-kept_in rising =
      omega (arith, weight-let_go, (weight-with_refused weight (kept_from s session member delivery sub) s.shared.queues rising).1)

-- what is kept is no more than what was settled
kept_ones : (drops : Message → Bool) (deliveries : List (ℕ × Message)) → sum_by (λ (d : ℕ × Message). if drops d.1 then 0 else 1) deliveries ≤ sum_by (λ (d : ℕ × Message). one d.1) deliveries
kept_ones drops [] = omega arith
kept_ones drops (d ∷ deliveries) =
    omega (arith, kept_ones drops deliveries, by (drops d.1), sum_by-cons (λ (x : ℕ × Message). if drops x.1 then 0 else 1) d deliveries, sum_by-cons (λ (x : ℕ × Message). one x.1) d deliveries)
  where
    by : (b : Bool) → (if b then 0 else 1) ≤ 1
    by true = omega arith
    by false = omega arith

-- A NACK that keeps, by whether the bytes find room that are held then.
module _ (s : State) (session member delivery : ℕ) (sub : Subscription) (others : List Subscription) (is : picked (awaits session delivery) s.subscriptions ≡ Some (sub, others)) (some : list_any (awaits session delivery) s.subscriptions ≡ true) (rising : IsRising text_cmp texts_total s.shared.queues) (few : held_messages s ≤ 4096) where
  abbrev after : State
  after = kept_in s session member delivery sub

  pub fewer : held_messages after ≤ held_messages s
  fewer =
      let settled_now = settled sub.mode delivery sub.unacknowledged in
      let drops = is_dropped (is_own sub) in
      omega (arith, weight-kept_in one s session member delivery sub others is rising, sum_kept drops s.count one (λ m. 1) (λ at m. refl) (first_place member) settled_now, kept_ones drops settled_now)

  pub nacked_by : (sum : ℕ) → sum + gone bytes s session member delivery sub others is ≡ held_bytes s + sum_by bytes (kept_from s session member delivery sub) → (b : Bool) → nat_le sum 16777216 ≡ b → nacked rule.Keeps s session member delivery ≡ cond b (Ok after) (Err NoRoom)
  nacked_by sum counted b room =
      let few_then : nat_le (held_messages after) 4096 ≡ true = le-leb (held_messages after) 4096 (omega (arith, fewer, few)) in
      let bytes_then : held_bytes after ≡ sum = omega (arith, counted, weight-kept_in bytes s session member delivery sub others is rising) in
      nacked_some s session member delivery sub others is some
      ∙ ap (λ c. cond (c && nat_le (held_bytes after) 16777216) (Ok after) (Err NoRoom)) few_then
      ∙ ap (λ n. cond (nat_le n 16777216) (Ok after) (Err NoRoom)) bytes_then ∙ ap (λ c. cond c (Ok after) (Err NoRoom)) room
