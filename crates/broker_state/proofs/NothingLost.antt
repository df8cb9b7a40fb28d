use Rattle.std.proofs.Common.{◌≡◌, ◌≢◌, ◌+◌, ◌⊎◌, inl, inr, List, [], ◌∷◌, ℕ, Bool, true, false, Some, Ok, Err, cond, refl, sym, ap, subst, ◌∙◌, arith, if◌then◌else◌}
use Rattle.std.specs.List.{AllByRecursion, list_any, sum_by}
use Rattle.std.specs.Ordering.{is_eq, is_lt}
use Rattle.std.proofs.lemmas.List.Sums.{sum_by-cons}
use Rattle.command_core.specs.declared.command.AckMode.{AckMode}
use Rattle.command_core.specs.declared.fault.Fault.{Fault}
use Rattle.command_core.specs.declared.fault.Fault.TheVariants.{NoRoom}
use Rattle.line_core.specs.declared.message.Message.{Message}
use Rattle.line_core.specs.Flights.{settled, settles}
use Rattle.line_core.specs.Lines.{by_number, inserted}
use Rattle.broker_state.specs.declared.nack_rule.NackRule.TheVariants as rule
use Rattle.broker_state.specs.declared.subscription.Subscription.{Subscription}
use Rattle.broker_state.specs.Dead.{IsStill, dead_queue, first_place, is_dropped, keeping, kept_by_nack, kept_of, nacked, refused, refused_from, with_refused}
use Rattle.broker_state.specs.Lists.{IsAmong, picked, with_first}
use Rattle.broker_state.specs.Names.{text_cmp}
use Rattle.broker_state.specs.Operations.{awaits, is_within, settled_by}
use Rattle.broker_state.specs.States.{IsInOrder, State, weight_of}
use Rattle.broker_state.specs.Waiting.{Lines, is_own, line_at, with_message}
use Rattle.broker_state.proofs.KeyedLines.{other_line}
use Rattle.broker_state.proofs.Keys.{same_texts, texts_total}
use Rattle.broker_state.proofs.Lookups.{is_equal}
use Rattle.broker_state.proofs.Refusals.{kept_from, kept_in, let_go, nacked_any, nacked_none, sum_kept, weight-kept_in}
use Rattle.broker_state.proofs.Restarts.{message_put}

-- one of the results alone is there
roomy : (t u : State) (b : Bool) → (if b then Ok u else Err NoRoom) ≡ Ok t → t ≡ u
roomy t u true same = cc
roomy t u false same = absurd cc

none_there : (t : State) (fault : Fault) → Err fault ≡ Ok t → ⊥
none_there t fault same = cc

-- What a NACK that is carried out leaves: the state that keeps those messages.
module _ (s t : State) (session member delivery : ℕ) (is : nacked rule.Keeps s session member delivery ≡ Ok t) where
  abbrev kept : List Message
  kept = kept_by_nack s session member delivery

  abbrev after : State
  after = keeping kept (let_go s session member delivery)

  left : t ≡ after
  left = by (list_any (awaits session delivery) s.subscriptions) refl
    where
      by : (b : Bool) → list_any (awaits session delivery) s.subscriptions ≡ b → t ≡ after
      by true some = roomy t after (is_within after) (sym (nacked_any s session member delivery some) ∙ is)
      by false none = absurd (none_there t _ (sym (nacked_none s session member delivery none) ∙ is))

  pub subscriptions_after : t.subscriptions ≡ with_first (awaits session delivery) (settled_by delivery) s.subscriptions
  subscriptions_after = ap (λ (u : State). u.subscriptions) left

  pub names_stay : t.shared.names ≡ s.shared.names
  names_stay = ap (λ (u : State). u.shared.names) left

-- other lines stay where refused messages come
others_stay : (to : List ℕ) → to ≢ dead_queue → (messages : List Message) (lines : Lines (List ℕ)) → line_at text_cmp to (with_refused messages lines) ≡ line_at text_cmp to lines
others_stay to other [] lines = refl
others_stay to other (m ∷ messages) lines =
    others_stay to other messages (with_message text_cmp dead_queue m lines) ∙ other_line text_cmp same_texts to dead_queue (differs (is_eq (text_cmp to dead_queue)) refl) (inserted m (line_at text_cmp dead_queue lines)) lines
  where
    differs : (b : Bool) → is_eq (text_cmp to dead_queue) ≡ b → is_eq (text_cmp to dead_queue) ≡ false
    differs true same = absurd (other (same_texts to dead_queue (is_equal (text_cmp to dead_queue) same)))
    differs false other_text = other_text

pub queues_stay : (s t : State) (session member delivery : ℕ) (to : List ℕ) → nacked rule.Keeps s session member delivery ≡ Ok t → to ≢ dead_queue → line_at text_cmp to t.shared.queues ≡ line_at text_cmp to s.shared.queues
queues_stay s t session member delivery to is other =
    ap (λ (u : State). line_at text_cmp to u.shared.queues) (left s t session member delivery is)
    ∙ others_stay to other (kept_by_nack s session member delivery) s.shared.queues

-- what is put into a line is there, and what was there still is
put_in : (m : Message) (line : List Message) → IsAmong m (inserted m line)
put_in m [] = inl refl
put_in m (x ∷ line) =
    elim (is_lt (by_number m.number x.number)) as (λ b. IsAmong m (cond b (m ∷ x ∷ line) (x ∷ inserted m line))) [ true ↦ inl refl | false ↦ inr (put_in m line) ]

stays_in : (n m : Message) (line : List Message) → IsAmong n line → IsAmong n (inserted m line)
stays_in n m [] among = absurd among
stays_in n m (x ∷ line) among =
    elim (is_lt (by_number m.number x.number)) as (λ b. IsAmong n (cond b (m ∷ x ∷ line) (x ∷ inserted m line))) [ true ↦ inr among | false ↦ behind (λ rest. stays_in n m line rest) among ]
  where
    behind : (IsAmong n line → IsAmong n (inserted m line)) → IsAmong n (x ∷ line) → IsAmong n (x ∷ inserted m line)
    behind stays (inl same) = inl same
    behind stays (inr rest) = inr (stays rest)

-- the line of refused messages with one more
one_more : (m : Message) (lines : Lines (List ℕ)) → line_at text_cmp dead_queue (with_message text_cmp dead_queue m lines) ≡ inserted m (line_at text_cmp dead_queue lines)
one_more m lines = message_put text_cmp texts_total same_texts dead_queue m lines refl

all_stay : (n : Message) (messages : List Message) (lines : Lines (List ℕ)) → IsAmong n (line_at text_cmp dead_queue lines) → IsAmong n (line_at text_cmp dead_queue (with_refused messages lines))
all_stay n [] lines among = among
all_stay n (m ∷ messages) lines among =
    all_stay n messages (with_message text_cmp dead_queue m lines) (subst (IsAmong n) (sym (one_more m lines)) (stays_in n m (line_at text_cmp dead_queue lines) among))

all_come : (n : Message) (messages : List Message) (lines : Lines (List ℕ)) → IsAmong n messages → IsAmong n (line_at text_cmp dead_queue (with_refused messages lines))
all_come n [] lines among = absurd among
all_come n (m ∷ messages) lines (inl same) =
    all_stay n messages (with_message text_cmp dead_queue m lines) (subst (IsAmong n) (sym (one_more m lines)) (subst (λ (x : Message). IsAmong n (inserted x (line_at text_cmp dead_queue lines))) same (put_in n (line_at text_cmp dead_queue lines))))
all_come n (m ∷ messages) lines (inr rest) =
    all_come n messages (with_message text_cmp dead_queue m lines) rest

pub waiting_stay : (s t : State) (session member delivery : ℕ) (m : Message) → nacked rule.Keeps s session member delivery ≡ Ok t → IsAmong m (line_at text_cmp dead_queue s.shared.queues) → IsAmong m (line_at text_cmp dead_queue t.shared.queues)
waiting_stay s t session member delivery m is among =
    subst (λ (u : State). IsAmong m (line_at text_cmp dead_queue u.shared.queues)) (sym (left s t session member delivery is)) (all_stay m (kept_by_nack s session member delivery) s.shared.queues among)

-- each delivery is unsettled, or dropped, or among what is kept
module _ (mode : AckMode) (delivery : ℕ) (drops : Message → Bool) (command : ℕ) (line : List Message) where
  abbrev IsLeft : ℕ × Message → Type 0
  IsLeft d =
      (settles mode delivery d.0 ≡ false) ⊎ (drops d.1 ≡ true) ⊎ ((place : ℕ) × IsAmong (refused command place d.1) line)

  each_left : (place : ℕ) (flight : List (ℕ × Message)) → ((n : Message) → IsAmong n (refused_from drops command place (settled mode delivery flight)) → IsAmong n line) → AllByRecursion IsLeft flight
  each_left place [] comes = tt
  each_left place (d ∷ flight) comes =
      by (settles mode delivery d.0) refl (drops d.1) refl comes (λ at more. each_left at flight more)
    where
      rest : ℕ → List Message
      rest at = refused_from drops command at (settled mode delivery flight)

      by : (b : Bool) → settles mode delivery d.0 ≡ b → (e : Bool) → drops d.1 ≡ e → ((n : Message) → IsAmong n (refused_from drops command place (cond b (d ∷ settled mode delivery flight) (settled mode delivery flight))) → IsAmong n line) → ((at : ℕ) → ((n : Message) → IsAmong n (rest at) → IsAmong n line) → AllByRecursion IsLeft flight) → AllByRecursion IsLeft (d ∷ flight)
      by false unsettled e dropped comes more = (inl unsettled, more place comes)
      by true settling true dropped comes more =
          (inr (inl dropped), more (place + 1) (λ n among. comes n (subst (λ c. IsAmong n (cond c (rest (place + 1)) (refused command place d.1 ∷ rest (place + 1)))) (sym dropped) among)))
      by true settling false stays comes more =
          let through : (n : Message) → IsAmong n (refused command place d.1 ∷ rest (place + 1)) → IsAmong n line = λ n among. comes n (subst (λ c. IsAmong n (cond c (rest (place + 1)) (refused command place d.1 ∷ rest (place + 1)))) (sym stays) among) in
          (inr (inr (place, through (refused command place d.1) (inl refl))), more (place + 1) (λ n among. through n (inr among)))

-- what is kept is that of the subscription that is found
module _ (s t : State) (session member delivery : ℕ) (sub : Subscription) (others : List Subscription) (found : picked (awaits session delivery) s.subscriptions ≡ Some (sub, others)) (is : nacked rule.Keeps s session member delivery ≡ Ok t) where
  left_in : t ≡ kept_in s session member delivery sub
  left_in =
      left s t session member delivery is ∙ ap (λ o. keeping (kept_of s member delivery o) (let_go s session member delivery)) found

  pub settled_stand : AllByRecursion (IsStill s t delivery sub) sub.unacknowledged
  settled_stand =
      subst (λ (u : State). AllByRecursion (IsStill s u delivery sub) sub.unacknowledged) (sym left_in) (each_left sub.mode delivery (is_dropped (is_own sub)) s.count (line_at text_cmp dead_queue (with_refused (kept_from s session member delivery sub) s.shared.queues)) (first_place member) sub.unacknowledged (λ n among. all_come n (kept_from s session member delivery sub) s.shared.queues among))

-- what is dropped weighs what the state is lighter by
dropped_or_kept : (weight : Message → ℕ) (drops : Message → Bool) (deliveries : List (ℕ × Message)) → sum_by (λ (d : ℕ × Message). if drops d.1 then 0 else weight d.1) deliveries + sum_by (λ (d : ℕ × Message). if drops d.1 then weight d.1 else 0) deliveries ≡ sum_by (λ (d : ℕ × Message). weight d.1) deliveries
dropped_or_kept weight drops [] = refl
dropped_or_kept weight drops (d ∷ deliveries) =
    omega (arith, dropped_or_kept weight drops deliveries, by (drops d.1), sum_by-cons (λ (x : ℕ × Message). if drops x.1 then 0 else weight x.1) d deliveries, sum_by-cons (λ (x : ℕ × Message). if drops x.1 then weight x.1 else 0) d deliveries, sum_by-cons (λ (x : ℕ × Message). weight x.1) d deliveries)
  where
    by : (b : Bool) → (if b then 0 else weight d.1) + (if b then weight d.1 else 0) ≡ weight d.1
    by true = omega arith
    by false = omega arith

pub weight_stays : (weight : Message → ℕ) → ((command place : ℕ) (m : Message) → weight (refused command place m) ≡ weight m) → (s t : State) (session member delivery : ℕ) (sub : Subscription) (others : List Subscription) → IsInOrder s → picked (awaits session delivery) s.subscriptions ≡ Some (sub, others) → nacked rule.Keeps s session member delivery ≡ Ok t → weight_of weight t + sum_by (λ (d : ℕ × Message). if is_dropped (is_own sub) d.1 then weight d.1 else 0) (settled sub.mode delivery sub.unacknowledged) ≡ weight_of weight s
weight_stays weight alike s t session member delivery sub others order found is =
    let settled_now = settled sub.mode delivery sub.unacknowledged in
    let drops = is_dropped (is_own sub) in
    omega (arith, ap (weight_of weight) (left_in s t session member delivery sub others found is), weight-kept_in weight s session member delivery sub others found order.queues, sum_kept drops s.count weight weight (λ at m. alike s.count at m) (first_place member) settled_now, dropped_or_kept weight drops settled_now)
