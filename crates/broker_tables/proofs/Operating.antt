use Rattle.std.proofs.Common.{◌≡◌, ◌<◌, ◌≤◌, ◌+◌, ◌-◌, ◌&&◌, List, [], ◌∷◌, ℕ, suc, zero, Bool, true, false, Option, Some, None, Result, Ok, Err, cond, count_by, filter, fold, is_some, length, nat_le, not, refl, remove, sym, ap, ◌∙◌, subst, arith, slice_get, take}
use Rattle.std.specs.BTreeMap.{is_at}
use Rattle.std.specs.List.{list_any, sum_by}
use Rattle.std.specs.List.Sorted.{IsStrictlySortedBy}
use Rattle.std.specs.Map.{keys_of, remove_entry}
use Rattle.std.specs.Ordering.{nat_cmp}
use Rattle.std.proofs.lemmas.Bool.{leb-true}
use Rattle.std.proofs.lemmas.Option.{slice_get_within}
use Rattle.command_core.specs.declared.command.AckMode.{AckMode}
use Rattle.command_core.specs.declared.fault.Fault.{Fault}
use Rattle.command_core.specs.declared.fault.Fault.TheVariants.{DurableSubscription, NoRoom, SubscriptionIdInUse, UnknownSubscription, UnknownAcknowledgement, TooManyEntries}
use Rattle.line_core.specs.declared.message.Message.{Message}
use Rattle.line_core.specs.Flights.{settled}
use Rattle.broker_state.specs.declared.subscription.Subscription.{Subscription}
use Rattle.broker_state.specs.declared.nack_rule.NackRule.TheVariants as rule
use Rattle.broker_state.specs.Dead.{first_place, is_dropped, nacked, refused_from, with_refused}
use Rattle.broker_state.specs.Lists.{changed, picked, with_first}
use Rattle.broker_state.specs.Names.{Name, text_cmp}
use Rattle.broker_state.specs.Operations.{acknowledged, awaits, begun_for, client_of, ended, ended_one, forgotten, given_up, is_named, is_of, name_for, or_same, settled_by, subscribed, topic_of, unsubscribed, uses, without, without_named}
use Rattle.broker_state.specs.Parts.{IsFirst, NonePass}
use Rattle.broker_state.specs.States.{State, bytes, held_bytes, held_messages, one, weight_of}
use Rattle.broker_state.specs.Waiting.{Shared, is_own, returned}
use Rattle.broker_tables.specs.Places.{EndsFirst, place_for}
use Rattle.broker_tables.specs.Refusals.{all_kept, all_kept_bytes, refused_bytes}
use Rattle.broker_state.proofs.Ending.{same_state, filter-all_others, filter-first, filter-none, filter-others, length-removed, take-removed}
use Rattle.broker_state.proofs.Firsts.{any_first, any_none, changed_first, picked_first, picked_none}
use Rattle.broker_state.proofs.Refusals.{fewer, kept_from, kept_in, nacked_by, nacked_none, sum_kept, weight-kept_in, weight-let_go}

-- an item stands in each place of a list
pub item_at : {X : Type 0} (xs : List X) (at : ℕ) → at < length xs → (x : X) × (slice_get xs at ≡ Some x)
item_at [] at within = absurd (omega (arith, within))
item_at (x ∷ xs) zero within = (x, refl)
item_at (x ∷ xs) (suc at) within = item_at xs at (omega (arith, within))

-- a subscription has ended
pub without_one : (s : State) (removed sub : Subscription) (others subs : List Subscription) (shared : Shared) → removed ≡ sub → subs ≡ others → shared ≡ returned s.shared removed → record s { shared = shared; subscriptions = subs } ≡ without s sub others
without_one s removed sub others subs shared same left back =
    ap (λ h. record s { shared = h; subscriptions = subs }) back
    ∙ ap (λ l. record s { shared = returned s.shared removed; subscriptions = l }) left
    ∙ ap (λ x. without s x others) same

-- whether there is a place for one more subscription
module _ (subs : List Subscription) (session : ℕ) (id : List ℕ) where
  pub place_taken : (at : ℕ) → IsFirst (is_named session id) subs at → place_for subs session id ≡ Err SubscriptionIdInUse
  place_taken at first = rw (any_first (is_named session id) subs at first) refl

  pub places_taken : NonePass (is_named session id) subs → nat_le 16 (count_by (is_of session) subs) ≡ true → place_for subs session id ≡ Err TooManyEntries
  places_taken none many = rw (any_none (is_named session id) subs none, many) refl

  pub place_free : NonePass (is_named session id) subs → nat_le 16 (count_by (is_of session) subs) ≡ false → place_for subs session id ≡ Ok tt
  place_free none few = rw (any_none (is_named session id) subs none, few) refl

module _ (s : State) (session : ℕ) (id destination : List ℕ) (mode : AckMode) (durable : Option (List ℕ)) where
  abbrev begun_new : Result State Fault
  begun_new = begun_for s session id destination mode (name_for (client_of s session) destination durable)

  abbrev place_by : Bool → Bool → Result (Unit {0}) Fault
  place_by taken many = cond taken (Err SubscriptionIdInUse) (cond many (Err TooManyEntries) (Ok tt))

  abbrev subscribed_by : Bool → Bool → Result State Fault
  subscribed_by taken many = cond taken (Err SubscriptionIdInUse) (cond many (Err TooManyEntries) begun_new)

  refused_by : (taken many : Bool) (fault : Fault) → place_by taken many ≡ Err fault → subscribed_by taken many ≡ Err fault
  refused_by true many fault is =
      let same : SubscriptionIdInUse ≡ fault = cc in
      ap (λ (f : Fault). Err f) same
  refused_by false true fault is =
      let same : TooManyEntries ≡ fault = cc in
      ap (λ (f : Fault). Err f) same
  refused_by false false fault is = absurd cc

  new_by : (taken many : Bool) → place_by taken many ≡ Ok tt → subscribed_by taken many ≡ begun_new
  new_by true many is = absurd cc
  new_by false true is = absurd cc
  new_by false false is = refl

  pub subscribed_refused : (fault : Fault) → place_for s.subscriptions session id ≡ Err fault → subscribed s session id destination mode durable ≡ Err fault
  subscribed_refused fault is =
      refused_by (list_any (is_named session id) s.subscriptions) (nat_le 16 (count_by (is_of session) s.subscriptions)) fault is

  pub subscribed_new : place_for s.subscriptions session id ≡ Ok tt → subscribed s session id destination mode durable ≡ begun_new
  subscribed_new is =
      new_by (list_any (is_named session id) s.subscriptions) (nat_le 16 (count_by (is_of session) s.subscriptions)) is

module _ (s : State) (session : ℕ) (id : List ℕ) where
  pub unsubscribed_none : NonePass (is_named session id) s.subscriptions → unsubscribed s session id ≡ Err UnknownSubscription
  unsubscribed_none none =
      ap (ended_one s) (picked_none (is_named session id) s.subscriptions none)

  pub unsubscribed_first : (t : State) (at : ℕ) → IsFirst (is_named session id) s.subscriptions at → ((sub : Subscription) → slice_get s.subscriptions at ≡ Some sub → t ≡ without s sub (remove s.subscriptions at)) → unsubscribed s session id ≡ Ok t
  unsubscribed_first t at first ended =
      let found = item_at s.subscriptions at first.within in
      ap (ended_one s) (picked_first (is_named session id) s.subscriptions at found.0 first found.1) ∙ ap (λ u. Ok u) (sym (ended found.0 found.1))

-- the end of the first of an id leaves what is left without it
pub ended_named : (s t : State) (session : ℕ) (id : List ℕ) (one : Bool) → EndsFirst (is_named session id) s t one → t ≡ without_named s session (Some id)
ended_named s t session id true ends = sym (ap (or_same s) (unsubscribed_first s session id t ends.0 ends.1 ends.2))
ended_named s t session id false ends = ends.1 ∙ sym (ap (or_same s) (unsubscribed_none s session id ends.0))

pub ended_id : (s t : State) (session : ℕ) (id : List ℕ) → EndsFirst (is_named session id) s t true → unsubscribed s session id ≡ Ok t
ended_id s t session id ends = unsubscribed_first s session id t ends.0 ends.1 ends.2

pub ended_no_id : (s t : State) (session : ℕ) (id : List ℕ) → EndsFirst (is_named session id) s t false → unsubscribed s session id ≡ Err UnknownSubscription
ended_no_id s t session id ends = unsubscribed_none s session id ends.0

-- durable names stay
pub durables_left : (s : State) (session : ℕ) (id : Option (List ℕ)) → (without_named s session id).durables ≡ s.durables
durables_left s session None = refl
durables_left s session (Some id) = by (picked (is_named session id) s.subscriptions)
  where
    by : (o : Option (Subscription × List Subscription)) → (or_same s (ended_one s o)).durables ≡ s.durables
    by None = refl
    by (Some p) = refl

module _ (s : State) (name : Name) where
  abbrev given_by : Bool → Bool → Result State Fault
  given_by known used = cond (known && not used) (Ok (forgotten s name)) (Err DurableSubscription)

  pub given_up_is : (known used : Bool) → is_some (topic_of name s.durables) ≡ known → list_any (uses name) s.subscriptions ≡ used → given_up s name ≡ given_by known used
  given_up_is known used is in_use =
      ap (λ b. given_by b (list_any (uses name) s.subscriptions)) is ∙ ap (given_by known) in_use

module _ (s : State) (session delivery : ℕ) where
  pub acknowledged_none : NonePass (awaits session delivery) s.subscriptions → acknowledged s session delivery ≡ Err UnknownAcknowledgement
  acknowledged_none none =
      ap (λ b. cond b (Ok (record s { subscriptions = with_first (awaits session delivery) (settled_by delivery) s.subscriptions })) (Err UnknownAcknowledgement)) (any_none (awaits session delivery) s.subscriptions none)

  pub acknowledged_first : (at : ℕ) (subs : List Subscription) → IsFirst (awaits session delivery) s.subscriptions at → subs ≡ changed at (settled_by delivery) s.subscriptions → acknowledged s session delivery ≡ Ok (record s { subscriptions = subs })
  acknowledged_first at subs first left =
      ap (λ b. cond b (Ok (record s { subscriptions = with_first (awaits session delivery) (settled_by delivery) s.subscriptions })) (Err UnknownAcknowledgement)) (any_first (awaits session delivery) s.subscriptions at first)
      ∙ ap (λ l. Ok (record s { subscriptions = l })) (changed_first (awaits session delivery) (settled_by delivery) s.subscriptions at first ∙ sym left)

-- A NACK that keeps, once the subscription that has the delivery is found.
module _ (s : State) (session member delivery : ℕ) where
  pub nack_none : NonePass (awaits session delivery) s.subscriptions → nacked rule.Keeps s session member delivery ≡ Err UnknownAcknowledgement
  nack_none none =
      nacked_none s session member delivery (any_none (awaits session delivery) s.subscriptions none)

  module _ (at : ℕ) (sub : Subscription) (first : IsFirst (awaits session delivery) s.subscriptions at) (there : slice_get s.subscriptions at ≡ Some sub) where
    is_picked : picked (awaits session delivery) s.subscriptions ≡ Some (sub, remove s.subscriptions at)
    is_picked = picked_first (awaits session delivery) s.subscriptions at sub first there

    -- the deliveries that it settles
    abbrev pub gone_of : List (ℕ × Message)
    gone_of = settled sub.mode delivery sub.unacknowledged

    kept_count : sum_by bytes (kept_from s session member delivery sub) ≡ all_kept_bytes (is_own sub) gone_of
    kept_count =
        sum_kept (is_dropped (is_own sub)) s.count bytes refused_bytes (λ at m. refl) (first_place member) gone_of

    kept_ones : sum_by one (kept_from s session member delivery sub) ≡ all_kept (is_own sub) gone_of
    kept_ones = sum_kept (is_dropped (is_own sub)) s.count one (λ m. 1) (λ at m. refl) (first_place member) gone_of

    pub part_of : (weight : Message → ℕ) → sum_by (λ (d : ℕ × Message). weight d.1) gone_of ≤ weight_of weight s
    part_of weight =
        omega (arith, weight-let_go weight s session member delivery sub (remove s.subscriptions at) is_picked)

    module _ (rising : IsStrictlySortedBy text_cmp (keys_of s.shared.queues)) (few : held_messages s ≤ 4096) where
      pub nack_by : (b : Bool) → nat_le (held_bytes s - sum_by (λ (d : ℕ × Message). bytes d.1) gone_of + all_kept_bytes (is_own sub) gone_of) 16777216 ≡ b → nacked rule.Keeps s session member delivery ≡ cond b (Ok (kept_in s session member delivery sub)) (Err NoRoom)
      nack_by b room =
          nacked_by s session member delivery sub (remove s.subscriptions at) is_picked (any_first (awaits session delivery) s.subscriptions at first) rising few (held_bytes s - sum_by (λ (d : ℕ × Message). bytes d.1) gone_of + all_kept_bytes (is_own sub) gone_of) (omega (arith, part_of bytes, kept_count)) b room

      -- what is held then
      pub nack_bytes : held_bytes (kept_in s session member delivery sub) + sum_by (λ (d : ℕ × Message). bytes d.1) gone_of ≡ held_bytes s + all_kept_bytes (is_own sub) gone_of
      nack_bytes =
          omega (arith, weight-kept_in bytes s session member delivery sub (remove s.subscriptions at) is_picked rising, kept_count)

      pub nack_messages : held_messages (kept_in s session member delivery sub) + sum_by (λ (d : ℕ × Message). one d.1) gone_of ≡ held_messages s + all_kept (is_own sub) gone_of
      nack_messages =
          omega (arith, weight-kept_in one s session member delivery sub (remove s.subscriptions at) is_picked rising, kept_ones)

      pub nack_fewer : held_messages (kept_in s session member delivery sub) ≤ held_messages s
      nack_fewer =
          fewer s session member delivery sub (remove s.subscriptions at) is_picked (any_first (awaits session delivery) s.subscriptions at first) rising few

      -- what is counted then
      pub nack_counts : (own : Bool) (items : List (ℕ × Message)) (old_messages old_bytes mid_messages mid_bytes messages held : ℕ) → own ≡ is_own sub → items ≡ gone_of → old_messages ≡ held_messages s → old_bytes ≡ held_bytes s → mid_messages + sum_by (λ (d : ℕ × Message). one d.1) items ≡ old_messages → mid_bytes + sum_by (λ (d : ℕ × Message). bytes d.1) items ≡ old_bytes → messages ≡ mid_messages + all_kept own items → held ≡ mid_bytes + all_kept_bytes own items → (messages ≡ held_messages (kept_in s session member delivery sub)) × (held ≡ held_bytes (kept_in s session member delivery sub))
      nack_counts own items old_messages old_bytes mid_messages mid_bytes messages held own_is given was was_bytes less less_bytes more more_bytes = (
        omega (arith, nack_messages, was, less, more, ap (sum_by (λ (d : ℕ × Message). one d.1)) given, ap (all_kept own) given, ap (λ b. all_kept b gone_of) own_is),
        omega (arith, nack_bytes, was_bytes, less_bytes, more_bytes, ap (sum_by (λ (d : ℕ × Message). bytes d.1)) given, ap (all_kept_bytes own) given, ap (λ b. all_kept_bytes b gone_of) own_is),
      )

    -- which is not too much
    pub nack_small : (own : Bool) (items : List (ℕ × Message)) (old_bytes mid_bytes : ℕ) → own ≡ is_own sub → items ≡ gone_of → mid_bytes + sum_by (λ (d : ℕ × Message). bytes d.1) items ≡ old_bytes → nat_le (old_bytes - sum_by (λ (d : ℕ × Message). bytes d.1) gone_of + all_kept_bytes (is_own sub) gone_of) 16777216 ≡ true → mid_bytes + all_kept_bytes own items ≤ 16777216
    nack_small own items old_bytes mid_bytes own_is given less room =
        omega (arith, leb-true (old_bytes - sum_by (λ (d : ℕ × Message). bytes d.1) gone_of + all_kept_bytes (is_own sub) gone_of) 16777216 room, less, ap (sum_by (λ (d : ℕ × Message). bytes d.1)) given, ap (all_kept_bytes own) given, ap (λ b. all_kept_bytes b gone_of) own_is)

    -- what has come
    pub nack_lines : (own : Bool) (items : List (ℕ × Message)) (shared : Shared) → own ≡ is_own sub → items ≡ gone_of → shared ≡ record s.shared { queues = with_refused (refused_from (is_dropped own) s.count (first_place member) items) s.shared.queues } → shared ≡ record s.shared { queues = with_refused (kept_from s session member delivery sub) s.shared.queues }
    nack_lines own items shared own_is given came =
        came ∙ ap (λ l. record s.shared { queues = with_refused (refused_from (is_dropped own) s.count (first_place member) l) s.shared.queues }) given
        ∙ ap (λ b. record s.shared { queues = with_refused (refused_from (is_dropped b) s.count (first_place member) gone_of) s.shared.queues }) own_is

    -- the state then
    pub nack_state : (subs : List Subscription) (shared : Shared) → subs ≡ changed at (settled_by delivery) s.subscriptions → shared ≡ record s.shared { queues = with_refused (kept_from s session member delivery sub) s.shared.queues } → record s { shared = shared; subscriptions = subs } ≡ kept_in s session member delivery sub
    nack_state subs shared left came =
        ap (λ h. record s { shared = h; subscriptions = subs }) came
        ∙ ap (λ l. record s { shared = record s.shared { queues = with_refused (kept_from s session member delivery sub) s.shared.queues }; subscriptions = l }) (left ∙ sym (changed_first (awaits session delivery) (settled_by delivery) s.subscriptions at first))

module _ (session : ℕ) where
  -- what is still to be ended, and what stays, once the first subscription of the session has ended
  pub record IsLeft (at : ℕ) (s t : State) : Type 0 where
    pub before : NonePass (is_of session) (take at t.subscriptions)
    pub shared : fold returned t.shared (filter (is_of session) t.subscriptions) ≡ fold returned s.shared (filter (is_of session) s.subscriptions)
    pub others : filter (λ sub. not (is_of session sub)) t.subscriptions ≡ filter (λ sub. not (is_of session sub)) s.subscriptions
    pub fewer : length t.subscriptions + 1 ≡ length s.subscriptions

  pub left_first : (s t : State) (at : ℕ) (sub : Subscription) → slice_get s.subscriptions at ≡ Some sub → is_of session sub ≡ true → NonePass (is_of session) (take at s.subscriptions) → t ≡ without s sub (remove s.subscriptions at) → IsLeft at s t
  left_first s t at sub is mine none ended =
      let p = is_of session in
      let rest = remove s.subscriptions at in
      subst (IsLeft at s) (sym ended) (record {
        before = subst (NonePass p) (sym (take-removed s.subscriptions at (slice_get_within s.subscriptions at sub is))) none;
        shared = ap (fold returned s.shared) (sym (filter-first p s.subscriptions at sub is mine none));
        others = filter-others p s.subscriptions at sub is mine;
        fewer = length-removed s.subscriptions at sub is;
      })

  -- where none is left, the session has ended
  pub ended_none : (s t : State) → t.count ≡ s.count → t.next_delivery ≡ s.next_delivery → t.sessions ≡ remove_entry (is_at (nat_cmp session)) s.sessions → t.durables ≡ s.durables → fold returned t.shared (filter (is_of session) t.subscriptions) ≡ fold returned s.shared (filter (is_of session) s.subscriptions) → filter (λ sub. not (is_of session sub)) t.subscriptions ≡ filter (λ sub. not (is_of session sub)) s.subscriptions → NonePass (is_of session) t.subscriptions → t ≡ ended s session
  ended_none s t count next sessions durables shared others none =
      same_state t (ended s session) count next sessions durables (ap (fold returned t.shared) (sym (filter-none (is_of session) t.subscriptions none)) ∙ shared) (sym (filter-all_others (is_of session) t.subscriptions none) ∙ others)

  -- what is left once the first of the session has ended
  pub record EndedFirst (s t : State) : Type 0 where
    pub count : t.count ≡ s.count
    pub next : t.next_delivery ≡ s.next_delivery
    pub sessions : t.sessions ≡ s.sessions
    pub durables : t.durables ≡ s.durables
    pub shared : fold returned t.shared (filter (is_of session) t.subscriptions) ≡ fold returned s.shared (filter (is_of session) s.subscriptions)
    pub others : filter (λ sub. not (is_of session sub)) t.subscriptions ≡ filter (λ sub. not (is_of session sub)) s.subscriptions
    pub fewer : length t.subscriptions + 1 ≡ length s.subscriptions

  and_any : (b : Bool) → (b && true) ≡ b
  and_any true = refl
  and_any false = refl

  none_of : (xs : List Subscription) → NonePass (λ x. is_of session x && true) xs → NonePass (is_of session) xs
  none_of [] none = tt
  none_of (x ∷ xs) none = (sym (and_any (is_of session x)) ∙ none.0, none_of xs none.1)

  pub ended_one_of : (s t : State) (one : Bool) → EndsFirst (λ x. is_of session x && true) s t one → one ≡ true → EndedFirst s t
  ended_one_of s t false ends is = absurd cc
  ended_one_of s t true ends is =
      let at = ends.0 in
      let sub = item_at s.subscriptions at ends.1.within in
      let ended = ends.2 sub.0 sub.1 in
      let left = left_first s t at sub.0 sub.1 (sym (and_any (is_of session sub.0)) ∙ ends.1.passing sub.0 sub.1) (none_of (take at s.subscriptions) ends.1.before) ended in
      record {
        count = ap (λ (u : State). u.count) ended;
        next = ap (λ (u : State). u.next_delivery) ended;
        sessions = ap (λ (u : State). u.sessions) ended;
        durables = ap (λ (u : State). u.durables) ended;
        shared = left.shared;
        others = left.others;
        fewer = left.fewer;
      }

  pub none_ended : (s t : State) (one : Bool) → EndsFirst (λ x. is_of session x && true) s t one → one ≡ false → NonePass (is_of session) s.subscriptions
  none_ended s t true ends is = absurd cc
  none_ended s t false ends is = none_of s.subscriptions ends.0
