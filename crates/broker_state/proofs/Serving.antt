use Rattle.std.proofs.Common.{◌≡◌, ◌<◌, ◌≤◌, ◌+◌, ◌^◌, ◌++◌, ◌&&◌, List, [], ◌∷◌, ℕ, suc, zero, Bool, true, false, not, Option, Some, None, refl, sym, ap, subst, ◌∙◌, arith, length, take, nat_lt, remove, slice_get, true≢false, if◌then◌else◌}
use Rattle.std.specs.Ordering.{is_eq}
use Rattle.std.specs.declared.cmp.Ordering.{Ordering}
use Rattle.command_core.specs.Destinations.{is_queue}
use Rattle.command_core.specs.Outs.{OutValue}
use Rattle.line_core.specs.declared.message.Message.{Message}
use Rattle.broker_state.specs.declared.subscription.Subscription.{Subscription}
use Rattle.broker_state.specs.Lists.{is_none}
use Rattle.broker_state.specs.Parts.{NonePass}
use Rattle.broker_state.specs.Settles.{SettlesSo}
use Rattle.broker_state.specs.Names.{AreSame, Name, name_cmp, text_cmp}
use Rattle.broker_state.specs.States.{State}
use Rattle.broker_state.specs.Waiting.{Lines, Shared, left_from, line_at, line_for, line_from, with_line}
use Rattle.broker_state.specs.HandOut.{Handed, Settling, behind, can_take, hand_out, handed, handed_from, handed_to, has_room, settled, settling, waiting}
use Rattle.std.proofs.lemmas.Bool.{lt-ltb, ltb-true}
use Rattle.std.proofs.lemmas.List.{append-nil, append_assoc}
use Rattle.broker_state.proofs.KeyedLines.{other_line}
use Rattle.broker_state.proofs.Lookups.{is_equal}
use Rattle.broker_state.proofs.Keys.{same_names, same_texts}
use Rattle.broker_state.proofs.Firsts.{none_to_end, one_more_passed, picked_first, picked_none, same_some, take_removed}

settling_none : (n : ℕ) (s : State) → hand_out s ≡ None → settling n s ≡ record { state = s; outs = [] }
settling_none zero s none = refl
settling_none (suc n) s none = ap (λ o. elim o as (λ x. Settling) [ None ↦ record { state = s; outs = [] } | Some h ↦ behind h (settling n h.state) ]) none

-- where none can be served, all is settled
pub settled_none : (s : State) → NonePass (can_take s) s.subscriptions → settled s ≡ record { state = s; outs = [] }
settled_none s none = settling_none (waiting s) s (ap (handed_to s) (picked_none (can_take s) s.subscriptions none))

settling_some : (n : ℕ) (s : State) (h : Handed) → hand_out s ≡ Some h → settling (suc n) s ≡ behind h (settling n h.state)
settling_some n s h some = ap (λ o. elim o as (λ x. Settling) [ None ↦ record { state = s; outs = [] } | Some g ↦ behind g (settling n g.state) ]) some

-- a delivery, and then what is settled behind it
pub settled_some : (s : State) (h : Handed) → hand_out s ≡ Some h → waiting h.state + 1 ≡ waiting s → settled s ≡ behind h (settled h.state)
settled_some s h some fewer =
    let more : waiting s ≡ suc (waiting h.state) = omega (arith, fewer) in
    ap (λ n. settling n s) more ∙ settling_some (waiting h.state) s h some

-- at first all is to be handed out
pub begins : (s : State) (outs : List OutValue) → SettlesSo s outs s outs 0
begins s outs = record { state = refl; all = refl; passed = tt }

-- at the end of the waiting order nothing is left
pub ends : (first : State) (before : List OutValue) (s : State) (outs : List OutValue) (at : ℕ) → length s.subscriptions ≤ at → SettlesSo first before s outs at → (s ≡ (settled first).state) × (outs ≡ before ++ (settled first).outs)
ends first before s outs at end so =
    let none : NonePass (can_take s) s.subscriptions = none_to_end (can_take s) s.subscriptions at end so.passed in
    let is = settled_none s none in
    (sym (so.state ∙ ap (λ (r : Settling). r.state) is), sym (so.all ∙ ap (λ (r : Settling). outs ++ r.outs) is ∙ append-nil outs))

-- one that can't be served is passed
pub goes_by : (first : State) (before : List OutValue) (s : State) (outs : List OutValue) (at : ℕ) (sub : Subscription) → slice_get s.subscriptions at ≡ Some sub → can_take s sub ≡ false → SettlesSo first before s outs at → SettlesSo first before s outs (at + 1)
goes_by first before s outs at sub there not so =
    let more : at + 1 ≡ suc at = omega arith in
    record { state = so.state; all = so.all; passed = rw more (one_more_passed (can_take s) s.subscriptions at sub there not so.passed) }

-- one that can be served is the first, for none before it can
first_ready : (s : State) (at : ℕ) (sub : Subscription) → at < length s.subscriptions → slice_get s.subscriptions at ≡ Some sub → can_take s sub ≡ true → NonePass (can_take s) (take at s.subscriptions) → hand_out s ≡ handed_to s (Some (sub, remove s.subscriptions at))
first_ready s at sub within there ready passed =
    ap (handed_to s) (picked_first (can_take s) s.subscriptions at sub (record { within = within; passing = λ x is. subst (λ y. can_take s y ≡ true) (same_some sub x (sym there ∙ is)) ready; before = passed }) there)

-- what a delivery is made of
pub record Parts (s : State) (sub : Subscription) (others : List Subscription) (line : List Message) (h : Handed) : Type 0 where
  pub m : Message
  pub rest : List Message
  pub line_is : line ≡ m ∷ rest
  pub handed_is : h ≡ handed s sub others m rest

pub parts : (s : State) (sub : Subscription) (others : List Subscription) (line : List Message) (h : Handed) → handed_from s sub others line ≡ Some h → Parts s sub others line h
parts s sub others [] h is = absurd cc
parts s sub others (m ∷ rest) h is = record { m = m; rest = rest; line_is = refl; handed_is = sym (same_some _ _ is) }

-- Who could not be served before a delivery can't be served after it.
and_stays : (a b r l k : Bool) → (b ≡ true → a ≡ true) → (l ≡ true → k ≡ true) → (a && r && not l) ≡ false → (b && r && not k) ≡ false
and_stays a false r l k up keep h = refl
and_stays a true false l k up keep h = refl
and_stays a true true l true up keep h = refl
and_stays false true true l false up keep h = absurd (true≢false (sym (up refl)))
and_stays true true true true false up keep h = absurd (true≢false (sym (keep refl)))
and_stays true true true false false up keep h = absurd (true≢false h)

-- a line without messages has none once another is cut, and neither once its own is, since that had some
module _ {K : Type 0} (cmp : K → K → Ordering) (same : AreSame cmp) where
  other_or_same : (b : Bool) (x d : K) (lines : Lines K) (m : Message) (rest : List Message) → is_eq (cmp x d) ≡ b → is_none (line_at cmp x lines) ≡ true → line_at cmp d lines ≡ m ∷ rest → is_none (line_at cmp x (with_line cmp d rest lines)) ≡ true
  other_or_same false x d lines m rest is none line = ap is_none (other_line cmp same x d is rest lines) ∙ none
  other_or_same true x d lines m rest is none line =
      absurd (true≢false (sym none ∙ ap (λ y. is_none (line_at cmp y lines)) (same x d (is_equal (cmp x d) is)) ∙ ap is_none line))

  none_stays : (x d : K) (lines : Lines K) (m : Message) (rest : List Message) → is_none (line_at cmp x lines) ≡ true → line_at cmp d lines ≡ m ∷ rest → is_none (line_at cmp x (with_line cmp d rest lines)) ≡ true
  none_stays x d lines m rest none line = other_or_same (is_eq (cmp x d)) x d lines m rest refl none line

-- by whether the one that is served and another one have a durable name, or a queue
module _ (shared : Shared) (sub x : Subscription) (m : Message) (rest : List Message) where
  queue_stays : (is_q is_d : Bool) → is_none (if is_q then line_at text_cmp x.destination shared.queues else x.line) ≡ true → (if is_d then line_at text_cmp sub.destination shared.queues else sub.line) ≡ m ∷ rest
      → is_none (if is_q then line_at text_cmp x.destination (if is_d then record shared { queues = with_line text_cmp sub.destination rest shared.queues } else shared).queues else x.line) ≡ true
  queue_stays false is_d none line = none
  queue_stays true false none line = none
  queue_stays true true none line =
      none_stays text_cmp same_texts x.destination sub.destination shared.queues m rest none line

  name_stays : (is_d : Bool) (name : Name) → is_none (line_at name_cmp name shared.names) ≡ true → is_none (line_at name_cmp name (if is_d then record shared { queues = with_line text_cmp sub.destination rest shared.queues } else shared).names) ≡ true
  name_stays false name none = none
  name_stays true name none = none

  line_stays : (a b : Option Name) → is_none (line_from shared x a) ≡ true → line_from shared sub b ≡ m ∷ rest → is_none (line_from (left_from shared sub rest b) x a) ≡ true
  line_stays (Some name) (Some other) none line =
      none_stays name_cmp same_names name other shared.names m rest none line
  line_stays (Some name) None none line = name_stays (is_queue sub.destination) name none
  line_stays None (Some other) none line = none
  line_stays None None none line = queue_stays (is_queue x.destination) (is_queue sub.destination) none line

number_stays : (n : ℕ) → nat_lt (n + 1) (2 ^ 63) ≡ true → nat_lt n (2 ^ 63) ≡ true
number_stays n less = lt-ltb n (2 ^ 63) (omega (arith, ltb-true (n + 1) (2 ^ 63) less))

module _ (s : State) (sub : Subscription) (others : List Subscription) (m : Message) (rest : List Message) (line : line_for s.shared sub ≡ m ∷ rest) where
  can_take_stays : (x : Subscription) → can_take s x ≡ false → can_take (handed s sub others m rest).state x ≡ false
  can_take_stays x n =
      and_stays _ _ (has_room x) (is_none (line_for s.shared x)) _ (number_stays s.next_delivery)
      (λ none. line_stays s.shared sub x m rest x.durable sub.durable none line) n

  all_stay : (xs : List Subscription) → NonePass (can_take s) xs → NonePass (can_take (handed s sub others m rest).state) xs
  all_stay [] none = tt
  all_stay (x ∷ xs) none = (can_take_stays x none.0, all_stay xs none.1)

-- one that can be served is served
pub serves : (first : State) (before : List OutValue) (s : State) (outs : List OutValue) (at : ℕ) (sub : Subscription) (t : State) (out : OutValue)
    → at < length s.subscriptions → slice_get s.subscriptions at ≡ Some sub → can_take s sub ≡ true
    → handed_to s (Some (sub, remove s.subscriptions at)) ≡ Some (record { state = t; out = out })
    → waiting t + 1 ≡ waiting s → SettlesSo first before s outs at → SettlesSo first before t (outs ++ out ∷ []) at
serves first before s outs at sub t out within there ready is fewer so =
    let h : Handed = record { state = t; out = out } in
    let all : settled s ≡ behind h (settled t) = settled_some s h (first_ready s at sub within there ready so.passed ∙ is) fewer in
    let p = parts s sub (remove s.subscriptions at) (line_for s.shared sub) h is in
    let same : t ≡ (handed s sub (remove s.subscriptions at) p.m p.rest).state = ap (λ (g : Handed). g.state) p.handed_is in
    record {
      state = so.state ∙ ap (λ (r : Settling). r.state) all;
      all = so.all ∙ ap (λ (r : Settling). outs ++ r.outs) all ∙ sym (append_assoc outs (out ∷ []) (settled t).outs);
      passed = rw same (rw (take_removed s.subscriptions at _ within) (all_stay s sub (remove s.subscriptions at) p.m p.rest p.line_is (take at s.subscriptions) so.passed));
    }
