use Rattle.std.proofs.Common.{◌≡◌, ◌+◌, ◌*◌, ◌++◌, ◌&&◌, List, [], ◌∷◌, ℕ, suc, zero, Bool, true, false, Some, Ok, Err, cond, count_by, drop, map, nat_le, refl, sym, ap, ◌∙◌, arith, slice_get, take}
use Rattle.std.specs.List.Sorted.{IsStrictlySortedBy}
use Rattle.std.specs.Map.{keys_of}
use Rattle.std.specs.Str.{bytes_eq}
use Rattle.std.proofs.lemmas.Option.{none-some, same_Some}
use Rattle.command_core.specs.declared.fault.Fault.TheVariants.{NoRoom}
use Rattle.command_core.specs.Destinations.{is_queue}
use Rattle.command_core.specs.Sendings.{SendingValue}
use Rattle.line_core.specs.declared.message.Message.{Message}
use Rattle.line_core.specs.Flights.{IsOver}
use Rattle.line_core.specs.Lines.{inserted}
use Rattle.line_core.specs.Messages.{size_of}
use Rattle.broker_state.specs.declared.subscription.Subscription.{Subscription}
use Rattle.broker_state.specs.Lists.{changed}
use Rattle.broker_state.specs.Names.{Name, name_cmp, text_cmp}
use Rattle.broker_state.specs.Operations.{copied, copied_to_names, is_within, message_of, sent, fanned_out}
use Rattle.broker_state.specs.Parts.{copies_to, find_room}
use Rattle.broker_state.specs.States.{IsNext, State, bytes, held_bytes, held_messages, one, weight_of}
use Rattle.broker_state.specs.Waiting.{Lines, Shared, is_own, with_message}
use Rattle.broker_state.proofs.KeyedLines.{rising-with_message, weight-with_message}
use Rattle.broker_state.proofs.Keys.{same_texts, texts_total}
use Rattle.broker_state.proofs.Weights.{all_mapped, over_copied, weight-copied, weight-copied_to_names}

-- a list of which the items before a place are changed
module _ {X : Type 0} (g : X → X) where
  abbrev pub mixed : ℕ → List X → List X
  mixed at xs = map g (take at xs) ++ drop at xs

  pub mixed_at : (xs : List X) (at : ℕ) → slice_get (mixed at xs) at ≡ slice_get xs at
  mixed_at xs zero = refl
  mixed_at [] (suc at) = refl
  mixed_at (x ∷ xs) (suc at) = mixed_at xs at

  changed_next : (h : X → X) (xs : List X) (at : ℕ) (x : X) → slice_get xs at ≡ Some x → h x ≡ g x → changed at h (mixed at xs) ≡ mixed (suc at) xs
  changed_next h [] at x is same = absurd (none-some x is)
  changed_next h (y ∷ ys) zero x is same =
      ap (λ z. z ∷ ys) (ap h (same_Some y x is) ∙ same ∙ sym (ap g (same_Some y x is)))
  changed_next h (y ∷ ys) (suc at) x is same =
      ap (λ zs. g y ∷ zs) (changed_next h ys at x is same)

  same_next : (xs : List X) (at : ℕ) (x : X) → slice_get xs at ≡ Some x → x ≡ g x → mixed at xs ≡ mixed (suc at) xs
  same_next [] at x is same = absurd (none-some x is)
  same_next (y ∷ ys) zero x is same =
      ap (λ z. z ∷ ys) (same_Some y x is ∙ same ∙ sym (ap g (same_Some y x is)))
  same_next (y ∷ ys) (suc at) x is same =
      ap (λ zs. g y ∷ zs) (same_next ys at x is same)

  next : (at : ℕ) → suc at ≡ at + 1
  next at = omega arith

  -- one more is changed, or is what it is changed to
  pub changed_more : (h : X → X) (xs ys : List X) (at : ℕ) (x : X) → ys ≡ mixed at xs → slice_get ys at ≡ Some x → h x ≡ g x → changed at h ys ≡ mixed (at + 1) xs
  changed_more h xs ys at x is found same =
      let there : slice_get xs at ≡ Some x = sym (mixed_at xs at) ∙ sym (ap (λ l. slice_get l at) is) ∙ found in
      ap (changed at h) is ∙ changed_next h xs at x there same ∙ ap (λ n. mixed n xs) (next at)

  pub same_more : (xs ys : List X) (at : ℕ) (x : X) → ys ≡ mixed at xs → slice_get ys at ≡ Some x → x ≡ g x → ys ≡ mixed (at + 1) xs
  same_more xs ys at x is found same =
      let there : slice_get xs at ≡ Some x = sym (mixed_at xs at) ∙ sym (ap (λ l. slice_get l at) is) ∙ found in
      is ∙ same_next xs at x there same ∙ ap (λ n. mixed n xs) (next at)

-- a subscription that gets a copy, and another one
pub copied_own : (m : Message) (sub : Subscription) → (is_own sub && bytes_eq sub.destination m.sending.destination) ≡ true → record sub { line = inserted m sub.line } ≡ copied m sub
copied_own m sub own = sym (ap (λ b. cond b (record sub { line = inserted m sub.line }) sub) own)

pub copied_other : (m : Message) (sub : Subscription) → (is_own sub && bytes_eq sub.destination m.sending.destination) ≡ false → sub ≡ copied m sub
copied_other m sub other = sym (ap (λ b. cond b (record sub { line = inserted m sub.line }) sub) other)

-- a durable name of the topic gets a copy before the others
pub copied_first : (m : Message) (durable : Name × List ℕ) (durables : List (Name × List ℕ)) (names : Lines Name) → bytes_eq durable.1 m.sending.destination ≡ true → copied_to_names m (durable ∷ durables) names ≡ copied_to_names m durables (with_message name_cmp durable.0 m names)
copied_first m durable durables names own =
    ap (λ b. copied_to_names m durables (cond b (with_message name_cmp durable.0 m names) names)) own

module _ (s : State) (m : Message) where
  abbrev pub fanned_out_by : Bool → State
  fanned_out_by b =
      cond b (record s { shared = record s.shared { queues = with_message text_cmp m.sending.destination m s.shared.queues } }) (record s { shared = record s.shared { names = copied_to_names m s.durables s.shared.names }; subscriptions = map (copied m) s.subscriptions })

  pub fanned_out_queue : (shared : Shared) → is_queue m.sending.destination ≡ true → shared ≡ record s.shared { queues = with_message text_cmp m.sending.destination m s.shared.queues } → record s { shared = shared } ≡ fanned_out s m
  fanned_out_queue shared queue more = ap (λ x. record s { shared = x }) more ∙ sym (ap fanned_out_by queue)

  pub next-fanned_out : IsNext s → IsNext (fanned_out s m)
  next-fanned_out all =
      elim (is_queue m.sending.destination) as (λ b. IsNext (fanned_out_by b)) [ true ↦ all | false ↦ all_mapped (λ (sub : Subscription). IsOver s.next_delivery sub.unacknowledged) (copied m) (over_copied s.next_delivery m) s.subscriptions all ]

  pub next_delivery-fanned_out : (fanned_out s m).next_delivery ≡ s.next_delivery
  next_delivery-fanned_out =
      elim (is_queue m.sending.destination) as (λ b. (fanned_out_by b).next_delivery ≡ s.next_delivery) [ true ↦ refl | false ↦ refl ]

  module _ (names : IsStrictlySortedBy name_cmp (keys_of s.shared.names)) (queues : IsStrictlySortedBy text_cmp (keys_of s.shared.queues)) where
    weight-fanned_out_by : (weight : Message → ℕ) (b : Bool) → weight_of weight (fanned_out_by b) ≡ weight_of weight s + cond b 1 (count_by (λ durable. bytes_eq durable.1 m.sending.destination) s.durables + count_by (λ sub. is_own sub && bytes_eq sub.destination m.sending.destination) s.subscriptions) * weight m
    weight-fanned_out_by weight true =
        omega (arith, weight-with_message text_cmp texts_total same_texts weight m.sending.destination m s.shared.queues queues)
    weight-fanned_out_by weight false =
        omega (arith, (weight-copied_to_names weight m s.durables s.shared.names names).1, weight-copied weight m s.subscriptions)

    -- a message weighs as often as it is kept
    pub weight-fanned_out : (weight : Message → ℕ) → weight_of weight (fanned_out s m) ≡ weight_of weight s + copies_to m.sending.destination s.durables s.subscriptions * weight m
    weight-fanned_out weight = weight-fanned_out_by weight (is_queue m.sending.destination)

    pub names-fanned_out : IsStrictlySortedBy name_cmp (keys_of (fanned_out s m).shared.names)
    names-fanned_out =
        elim (is_queue m.sending.destination) as (λ b. IsStrictlySortedBy name_cmp (keys_of (fanned_out_by b).shared.names)) [ true ↦ names | false ↦ (weight-copied_to_names one m s.durables s.shared.names names).0 ]

    pub queues-fanned_out : IsStrictlySortedBy text_cmp (keys_of (fanned_out s m).shared.queues)
    queues-fanned_out =
        elim (is_queue m.sending.destination) as (λ b. IsStrictlySortedBy text_cmp (keys_of (fanned_out_by b).shared.queues)) [ true ↦ rising-with_message text_cmp texts_total m.sending.destination m s.shared.queues queues | false ↦ queues ]

    -- the copies find room where the state with them is within the limits
    pub room_by : (messages held copies size : ℕ) → messages ≡ held_messages s → held ≡ held_bytes s → copies ≡ copies_to m.sending.destination s.durables s.subscriptions → size ≡ size_of m.sending → is_within (fanned_out s m) ≡ find_room messages held copies size
    room_by messages held copies size few small counted weighed =
        let total : copies * size ≡ copies_to m.sending.destination s.durables s.subscriptions * size_of m.sending = ap (λ n. n * size) counted ∙ ap (λ n. copies_to m.sending.destination s.durables s.subscriptions * n) weighed in
        let count : held_messages (fanned_out s m) ≡ messages + copies = omega (arith, weight-fanned_out one) in
        let weigh : held_bytes (fanned_out s m) ≡ held + copies * size = omega (arith, weight-fanned_out bytes, total) in
        ap (λ n. nat_le n 4096 && nat_le (held_bytes (fanned_out s m)) 16777216) count ∙ ap (λ n. nat_le (messages + copies) 4096 && nat_le n 16777216) weigh

-- a SEND by whether its copies find room
pub sent_by : (s : State) (place : ℕ) (sending : SendingValue) (b : Bool) → is_within (fanned_out s (message_of s.count place sending)) ≡ b → sent s place sending ≡ cond b (Ok (fanned_out s (message_of s.count place sending))) (Err NoRoom)
sent_by s place sending b is =
    ap (λ t. cond t (Ok (fanned_out s (message_of s.count place sending))) (Err NoRoom)) is
