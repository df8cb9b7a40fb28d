use Rattle.std.proofs.Common.{◌≡◌, ◌<◌, ◌≤◌, ◌+◌, ◌&&◌, ◌||◌, List, [], ◌∷◌, ℕ, suc, zero, Bool, true, false, true≢false, cond, not, Option, Some, None, Result, Ok, Err, count_by, filter, fold, is_some, length, nat_le, refl, sym, ap, subst, ◌∙◌, arith, if◌then◌else◌}
use Rattle.std.specs.BTreeMap.{insert_entry, is_at}
use Rattle.std.specs.List.{AllByRecursion, list_any}
use Rattle.std.specs.Map.{remove_entry}
use Rattle.std.specs.Cmp.{nat_cmp_is}
use Rattle.std.specs.Ordering.{is_eq, nat_cmp}
use Rattle.std.specs.declared.cmp.Ordering.TheVariants.{Equal}
use Rattle.std.specs.Str.{bytes_eq}
use Rattle.std.proofs.lemmas.Slice.Eq.{bytes_eq-Decides}
use Rattle.command_core.specs.declared.command.AckMode.{AckMode}
use Rattle.command_core.specs.declared.command.Op.{Op}
use Rattle.command_core.specs.declared.command.Op.TheVariants.{Open, Send, Subscribe, Unsubscribe, Ack, Nack, Commit, Note, End}
use Rattle.command_core.specs.declared.fault.Fault.{Fault}
use Rattle.command_core.specs.declared.fault.Fault.TheVariants.{DurableSubscription, NoRoom, SubscriptionIdInUse, TooManyEntries, UnknownAcknowledgement}
use Rattle.command_core.specs.declared.command.Member.{Member}
use Rattle.command_core.specs.declared.command.Member.TheVariants as members
use Rattle.command_core.specs.Destinations.{is_queue}
use Rattle.command_core.specs.Sendings.{SendingValue}
use Rattle.line_core.specs.declared.message.Message.{Message}
use Rattle.broker_state.specs.declared.nack_rule.NackRule.{NackRule}
use Rattle.broker_state.specs.declared.nack_rule.NackRule.TheVariants as nack
use Rattle.broker_state.specs.declared.subscription.Subscription.{Subscription}
use Rattle.broker_state.specs.Dead.{nacked, with_room}
use Rattle.broker_state.specs.Executing.{applied, committed, executed}
use Rattle.broker_state.specs.HandOut.{Handed, can_take, hand_out, handed, settled, waiting}
use Rattle.broker_state.specs.Lists.{picked, with_first}
use Rattle.broker_state.specs.Names.{Name, name_cmp}
use Rattle.broker_state.specs.Operations.{acknowledged, awaits, begun_by, begun_for, bound, client_of, ended, ended_one, forgotten, fresh, given_up_for, is_named, is_of, is_within, message_of, name_for, named, opened, or_same, restarted, sent, settled_by, fanned_out, subscribed, topic_of, unsubscribed, used_again, uses, with_subscription, without, without_named}
use Rattle.broker_state.specs.Parts.{NonePass}
use Rattle.broker_state.specs.States.{State, is_open}
use Rattle.broker_state.specs.Steps.{accepted_or_ended, done, is_opening, led_to}
use Rattle.broker_state.specs.Waiting.{line_for, returned}
use Rattle.broker_state.proofs.Deliveries.{made, settling_keeps}
use Rattle.broker_state.proofs.Ending.{filter-all_others, filter-none}
use Rattle.broker_state.proofs.Firsts.{any_none}
use Rattle.broker_state.proofs.Refusals.{kept_in, nacked_none, nacked_some}
use Rattle.broker_state.proofs.Picked.{filter-picked, filter-unpicked, length-picked, picked_nothing}

-- What a step is made of. A rule that each of these changes keeps is kept by a step and by a restart.

-- A subscription of that id can begin in the session.
pub record CanBegin (s : State) (session : ℕ) (id : List ℕ) : Type 0 where
  pub of_open : is_open s session ≡ true
  pub new : list_any (is_named session id) s.subscriptions ≡ false
  pub few : nat_le 16 (count_by (is_of session) s.subscriptions) ≡ false

-- A subscription to that topic can have the durable name.
pub record CanUse (s : State) (session : ℕ) (to : List ℕ) (name : Name) : Type 0 where
  pub own : client_of s session ≡ Some name.0
  pub topic : is_queue to ≡ false

-- Each change but a sending keeps the rule, where something is known of the state: a session opens; a subscription begins,
-- without a name, under a bound one and under a new one; one ends; a session closes that has none; a durable name is
-- forgotten; a delivery is acknowledged; and one is made.
pub record Keeps (Known Rule : State → Type 0) : Type 0 where
  pub opened : (s : State) (client_id : Option (List ℕ)) → AllByRecursion (λ session. session.0 < s.count) s.sessions → Known s → Rule s → Rule (opened s client_id)
  pub begun : (s : State) (session : ℕ) (id to : List ℕ) (mode : AckMode) → CanBegin s session id → Known s → Rule s → Rule (with_subscription s (fresh session id to mode None))
  pub used : (s : State) (session : ℕ) (id to : List ℕ) (mode : AckMode) (name : Name) → CanBegin s session id → CanUse s session to name → topic_of name s.durables ≡ Some to → list_any (uses name) s.subscriptions ≡ false → Known s → Rule s → Rule (with_subscription s (fresh session id to mode (Some name)))
  pub bound : (s : State) (session : ℕ) (id to : List ℕ) (mode : AckMode) (name : Name) → CanBegin s session id → CanUse s session to name → topic_of name s.durables ≡ None → nat_le 256 (length s.durables) ≡ false → Known s → Rule s → Rule (with_subscription (record s { durables = insert_entry name_cmp s.durables name to }) (fresh session id to mode (Some name)))
  pub without : (s : State) (passes : Subscription → Bool) (sub : Subscription) (others : List Subscription) → picked passes s.subscriptions ≡ Some (sub, others) → Known s → Rule s → Rule (without s sub others)
  pub closed : (s : State) (session : ℕ) → NonePass (is_of session) s.subscriptions → Known s → Rule s → Rule (record s { sessions = remove_entry (is_at (nat_cmp session)) s.sessions })
  pub forgotten : (s : State) (name : Name) → list_any (uses name) s.subscriptions ≡ false → Known s → Rule s → Rule (forgotten s name)
  pub acknowledged : (s : State) (session delivery : ℕ) → Known s → Rule s → Rule (record s { subscriptions = with_first (awaits session delivery) (settled_by delivery) s.subscriptions })
  pub handed : (s : State) (sub : Subscription) (others : List Subscription) (m : Message) (rest : List Message) → picked (can_take s) s.subscriptions ≡ Some (sub, others) → line_for s.shared sub ≡ m ∷ rest → Known s → Rule s → Rule (handed s sub others m rest).state

-- The rule may change from place to place in a transaction: each change keeps it, a sending leads on to the next place,
-- and so do a refusal that keeps its messages and what is done instead of either.
pub record KeepsFrom (Known : State → Type 0) (Rule : ℕ → State → Type 0) : Type 0 where
  pub changes : (place : ℕ) → Keeps Known (Rule place)
  pub next : (place : ℕ) (s : State) → Known s → Rule place s → Rule (place + 1) s
  pub fanned_out : (place : ℕ) (s : State) (sending : SendingValue) → is_within (fanned_out s (message_of s.count place sending)) ≡ true → Known s → Rule place s → Rule (place + 1) (fanned_out s (message_of s.count place sending))
  pub refused : (place : ℕ) (s : State) (session delivery : ℕ) (sub : Subscription) (others : List Subscription) → picked (awaits session delivery) s.subscriptions ≡ Some (sub, others) → is_within (kept_in s session place delivery sub) ≡ true → Known s → Rule place s → Rule (place + 1) (kept_in s session place delivery sub)

-- what holds of every state
abbrev pub Anything : State → Type 0
Anything s = Unit {0}

-- what an operation gives keeps to it, unless it is refused
abbrev pub Gives : (State → Type 0) → Result State Fault → Type 0
Gives Rule (Ok t) = Rule t
Gives Rule (Err fault) = Unit {0}

-- What is known may be a rule that is kept beside.
pub beside : (Known Rule : State → Type 0) → Keeps Anything Known → Keeps Known Rule → Keeps Anything (λ s. Known s × Rule s)
beside Known Rule k r = record {
  opened = λ s client_id earlier _ now. (k.opened s client_id earlier tt now.0, r.opened s client_id earlier now.0 now.1);
  begun = λ s session id to mode can _ now. (k.begun s session id to mode can tt now.0, r.begun s session id to mode can now.0 now.1);
  used = λ s session id to mode name can own topic free _ now.
      (k.used s session id to mode name can own topic free tt now.0, r.used s session id to mode name can own topic free now.0 now.1);
  bound = λ s session id to mode name can own unknown few _ now.
      (k.bound s session id to mode name can own unknown few tt now.0, r.bound s session id to mode name can own unknown few now.0 now.1);
  without = λ s passes sub others is _ now. (k.without s passes sub others is tt now.0, r.without s passes sub others is now.0 now.1);
  closed = λ s session none _ now. (k.closed s session none tt now.0, r.closed s session none now.0 now.1);
  forgotten = λ s name free _ now. (k.forgotten s name free tt now.0, r.forgotten s name free now.0 now.1);
  acknowledged = λ s session delivery _ now. (k.acknowledged s session delivery tt now.0, r.acknowledged s session delivery now.0 now.1);
  handed = λ s sub others m rest is line _ now.
      (k.handed s sub others m rest is line tt now.0, r.handed s sub others m rest is line now.0 now.1);
}

pub beside_from : (Known : State → Type 0) (Rule : ℕ → State → Type 0) → KeepsFrom Anything (λ place. Known) → KeepsFrom Known Rule → KeepsFrom Anything (λ place s. Known s × Rule place s)
beside_from Known Rule k r = record {
  changes = λ place. beside Known (Rule place) (k.changes place) (r.changes place);
  next = λ place s _ now. (now.0, r.next place s now.0 now.1);
  fanned_out = λ place s sending fits _ now.
      (k.fanned_out place s sending fits tt now.0, r.fanned_out place s sending fits now.0 now.1);
  refused = λ place s session delivery sub others is fits _ now.
      (k.refused place s session delivery sub others is fits tt now.0, r.refused place s session delivery sub others is fits now.0 now.1);
}

-- all are among those that pass everything, and none among those that pass nothing
all_pass : {X : Type 0} (xs : List X) → filter (λ x. true) xs ≡ xs
all_pass [] = refl
all_pass (x ∷ xs) = ap (λ l. x ∷ l) (all_pass xs)

none_pass : {X : Type 0} (xs : List X) → filter (λ x. false) xs ≡ []
none_pass [] = refl
none_pass (x ∷ xs) = none_pass xs

-- of those that do not pass none passes
no_others : {X : Type 0} (p : X → Bool) (xs : List X) → NonePass p (filter (λ x. not (p x)) xs)
no_others p [] = tt
no_others p (x ∷ xs) = by (p x) refl (no_others p xs)
  where
    by : (b : Bool) → p x ≡ b → NonePass p (filter (λ y. not (p y)) xs) → NonePass p (cond (not b) (x ∷ filter (λ y. not (p y)) xs) (filter (λ y. not (p y)) xs))
    by true is rest = rest
    by false is rest = (is, rest)

-- the first session is removed by its number
pub first_removed : {X : Type 0} (e : ℕ × X) (es : List (ℕ × X)) → remove_entry (is_at (nat_cmp e.0)) (e ∷ es) ≡ es
first_removed e es = ap (λ o. cond (is_eq o) es (e ∷ remove_entry (is_at (nat_cmp e.0)) es)) (sym (nat_cmp_is e.0 e.0 Equal refl))

module _ (Rule : State → Type 0) (keeps : Keeps Anything Rule) where
  module _ (p : Subscription → Bool) where
    -- the state once the subscriptions that pass have ended, and once one has and then the others
    abbrev all_gone : State → State
    all_gone s =
        record s { shared = fold returned s.shared (filter p s.subscriptions); subscriptions = filter (λ sub. not (p sub)) s.subscriptions }

    none_gone : (s : State) → NonePass p s.subscriptions → Rule s → Rule (all_gone s)
    none_gone s none now =
        subst (λ l. Rule (record s { shared = fold returned s.shared l; subscriptions = filter (λ sub. not (p sub)) s.subscriptions })) (sym (filter-none p s.subscriptions none)) (subst (λ l. Rule (record s { subscriptions = l })) (sym (filter-all_others p s.subscriptions none)) now)

    one_gone : (s : State) (sub : Subscription) (others : List Subscription) → picked p s.subscriptions ≡ Some (sub, others) → Rule (all_gone (without s sub others)) → Rule (all_gone s)
    one_gone s sub others is rest =
        subst (λ l. Rule (record s { shared = fold returned s.shared l; subscriptions = filter (λ x. not (p x)) s.subscriptions })) (sym (filter-picked p s.subscriptions sub others is)) (subst (λ l. Rule (record s { shared = fold returned (returned s.shared sub) (filter p others); subscriptions = l })) (filter-unpicked p s.subscriptions sub others is) rest)

    all_end : (n : ℕ) (s : State) → length s.subscriptions ≤ n → Rule s → Rule (all_gone s)
    all_end zero s few now = by (picked p s.subscriptions) refl
      where
        by : (o : Option (Subscription × List Subscription)) → picked p s.subscriptions ≡ o → Rule (all_gone s)
        by None is = none_gone s (picked_nothing p s.subscriptions is) now
        by (Some q) is = absurd (omega (arith, few, length-picked p s.subscriptions q.0 q.1 is))
    all_end (suc n) s few now =
        by (λ sub others is. all_end n (without s sub others) (omega (arith, few, length-picked p s.subscriptions sub others is)) (keeps.without s p sub others is tt now)) (picked p s.subscriptions) refl
      where
        by : ((sub : Subscription) (others : List Subscription) → picked p s.subscriptions ≡ Some (sub, others) → Rule (all_gone (without s sub others))) → (o : Option (Subscription × List Subscription)) → picked p s.subscriptions ≡ o → Rule (all_gone s)
        by rest None is = none_gone s (picked_nothing p s.subscriptions is) now
        by rest (Some q) is = one_gone s q.0 q.1 is (rest q.0 q.1 is)

  ended_keeps : (s : State) (session : ℕ) → Rule s → Rule (ended s session)
  ended_keeps s session now =
      let p = is_of session in
      let gone = all_end p (length s.subscriptions) s (omega arith) now in
      keeps.closed (record s { shared = fold returned s.shared (filter p s.subscriptions); subscriptions = filter (λ sub. not (p sub)) s.subscriptions }) session (no_others p s.subscriptions) tt gone

  -- all sessions close one after another
  all_close : (s : State) (es : List (ℕ × Option (List ℕ))) → s.subscriptions ≡ [] → s.sessions ≡ es → Rule s → Rule (record s { sessions = [] })
  all_close s [] none is now = subst (λ l. Rule (record s { sessions = l })) is now
  all_close s (e ∷ es) none is now =
      let first = keeps.closed s e.0 (subst (NonePass (is_of e.0)) (sym none) tt) tt now in
      all_close (record s { sessions = es }) es none refl (subst (λ l. Rule (record s { sessions = l })) (ap (remove_entry (is_at (nat_cmp e.0))) is ∙ first_removed e es) first)

  -- A restart keeps the rule.
  pub restarted_keeps : (s : State) → Rule s → Rule (restarted s)
  restarted_keeps s now =
      let gone = all_end (λ sub. true) (length s.subscriptions) s (omega arith) now in
      let back = subst (λ l. Rule (record s { shared = fold returned s.shared l; subscriptions = filter (λ (sub : Subscription). false) s.subscriptions })) (all_pass s.subscriptions) gone in
      let none = subst (λ l. Rule (record s { shared = fold returned s.shared s.subscriptions; subscriptions = l })) (none_pass s.subscriptions) back in
      all_close (record s { shared = fold returned s.shared s.subscriptions; subscriptions = [] }) s.sessions refl refl none

  acknowledged_keeps : (s : State) (session delivery : ℕ) → Rule s → Gives Rule (acknowledged s session delivery)
  acknowledged_keeps s session delivery now =
      by (list_any (awaits session delivery) s.subscriptions)
    where
      by : (b : Bool) → Gives Rule (if b then Ok (record s { subscriptions = with_first (awaits session delivery) (settled_by delivery) s.subscriptions }) else Err UnknownAcknowledgement)
      by true = keeps.acknowledged s session delivery tt now
      by false = tt

  module _ (s : State) (session : ℕ) (id to : List ℕ) (mode : AckMode) (can : CanBegin s session id) (now : Rule s) where
    bound_keeps : (name : Name) → CanUse s session to name → topic_of name s.durables ≡ None → Gives Rule (bound s (fresh session id to mode (Some name)) name)
    bound_keeps name own unknown = by (nat_le 256 (length s.durables)) refl
      where
        by : (b : Bool) → nat_le 256 (length s.durables) ≡ b → Gives Rule (if b then Err TooManyEntries else Ok (with_subscription (record s { durables = insert_entry name_cmp s.durables name to }) (fresh session id to mode (Some name))))
        by true is = tt
        by false few = keeps.bound s session id to mode name can own unknown few tt now

    used_keeps : (name : Name) (topic : List ℕ) → CanUse s session to name → topic_of name s.durables ≡ Some topic → Gives Rule (used_again s (fresh session id to mode (Some name)) name topic)
    used_keeps name topic own is =
        by (bytes_eq topic to) refl (list_any (uses name) s.subscriptions) refl
      where
        by : (a : Bool) → bytes_eq topic to ≡ a → (b : Bool) → list_any (uses name) s.subscriptions ≡ b → Gives Rule (if a && not b then Ok (with_subscription s (fresh session id to mode (Some name))) else Err DurableSubscription)
        by true same false free =
            keeps.used s session id to mode name can own (is ∙ ap (λ t. Some t) ((bytes_eq-Decides topic to).0 same)) free tt now
        by true same true free = tt
        by false same b free = tt

    under_keeps : (name : Name) → CanUse s session to name → Gives Rule (begun_by s (fresh session id to mode (Some name)) (Some name))
    under_keeps name own = by (topic_of name s.durables) refl
      where
        by : (o : Option (List ℕ)) → topic_of name s.durables ≡ o → Gives Rule (elim o as (λ x. Result State Fault) [ None ↦ bound s (fresh session id to mode (Some name)) name | Some topic ↦ used_again s (fresh session id to mode (Some name)) name topic ])
        by None is = bound_keeps name own is
        by (Some topic) is = used_keeps name topic own is

    named_keeps : (client : Option (List ℕ)) (name : List ℕ) → client_of s session ≡ client → is_queue to ≡ false → Gives Rule (begun_for s session id to mode (named client name))
    named_keeps None name is topic = tt
    named_keeps (Some client) name is topic = under_keeps (client, name) (record { own = is; topic = topic })

    plain_keeps : Rule (with_subscription s (fresh session id to mode None))
    plain_keeps = keeps.begun s session id to mode can tt now

    begun_keeps : (name : Option (List ℕ)) → Gives Rule (begun_for s session id to mode (name_for (client_of s session) to name))
    begun_keeps None = plain_keeps
    begun_keeps (Some name) = by (is_queue to) refl
      where
        by : (b : Bool) → is_queue to ≡ b → Gives Rule (begun_for s session id to mode (if b then Ok None else named (client_of s session) name))
        by true is = plain_keeps
        by false is = named_keeps (client_of s session) name refl is

  subscribed_keeps : (s : State) (session : ℕ) (id to : List ℕ) (mode : AckMode) (name : Option (List ℕ)) → is_open s session ≡ true → Rule s → Gives Rule (subscribed s session id to mode name)
  subscribed_keeps s session id to mode name of_open now =
      by (list_any (is_named session id) s.subscriptions) refl (nat_le 16 (count_by (is_of session) s.subscriptions)) refl
    where
      by : (a : Bool) → list_any (is_named session id) s.subscriptions ≡ a → (b : Bool) → nat_le 16 (count_by (is_of session) s.subscriptions) ≡ b → Gives Rule (if a then Err SubscriptionIdInUse else (if b then Err TooManyEntries else begun_for s session id to mode (name_for (client_of s session) to name)))
      by true taken b few = tt
      by false new true few = tt
      by false new false few =
          begun_keeps s session id to mode (record { of_open = of_open; new = new; few = few }) now name

  unsubscribed_keeps : (s : State) (session : ℕ) (id : List ℕ) → Rule s → Gives Rule (unsubscribed s session id)
  unsubscribed_keeps s session id now = by (picked (is_named session id) s.subscriptions) refl
    where
      by : (o : Option (Subscription × List Subscription)) → picked (is_named session id) s.subscriptions ≡ o → Gives Rule (ended_one s o)
      by None is = tt
      by (Some q) is = keeps.without s (is_named session id) q.0 q.1 is tt now

  same_keeps : (s : State) (r : Result State Fault) → Rule s → Gives Rule r → Rule (or_same s r)
  same_keeps s (Ok t) before now = now
  same_keeps s (Err fault) before now = before

  without_keeps : (s : State) (session : ℕ) (id : Option (List ℕ)) → Rule s → Rule (without_named s session id)
  without_keeps s session None now = now
  without_keeps s session (Some id) now =
      same_keeps s (unsubscribed s session id) now (unsubscribed_keeps s session id now)

  given_up_keeps : (s : State) (client : Option (List ℕ)) (name : List ℕ) → Rule s → Gives Rule (given_up_for s client name)
  given_up_keeps s None name now = tt
  given_up_keeps s (Some client) name now =
      by (is_some (topic_of mine s.durables)) (list_any (uses mine) s.subscriptions) refl
    where
      mine : Name
      mine = (client, name)

      by : (a b : Bool) → list_any (uses mine) s.subscriptions ≡ b → Gives Rule (if a && not b then Ok (forgotten s mine) else Err DurableSubscription)
      by true false free = keeps.forgotten s mine free tt now
      by true true free = tt
      by false b free = tt

  handed_keeps : (s : State) (h : Handed) → hand_out s ≡ Some h → Rule s → Rule h.state
  handed_keeps s h is now =
      let q = made s h is in
      subst (λ (g : Handed). Rule g.state) (sym q.handed_is) (keeps.handed s q.sub q.others q.m q.rest q.is_picked q.line_is tt now)

  settled_keeps : (s : State) → Rule s → Rule (settled s).state
  settled_keeps s now = settling_keeps Rule handed_keeps (waiting s) s now

-- how many places the members of an operation have, which itself has one
abbrev pub places_of : Op → ℕ
places_of (Commit members) = length members
places_of _ = 1

module _ (Rule : ℕ → State → Type 0) (keeps : KeepsFrom Anything Rule) where
  -- the rule of some place up to that one
  abbrev pub UpTo : ℕ → State → Type 0
  UpTo most s = (place : ℕ) × (place ≤ most) × Rule place s

  further : (most more : ℕ) → most ≤ more → (r : Result State Fault) → Gives (UpTo most) r → Gives (UpTo more) r
  further most more less (Ok t) now = (now.0, omega (arith, now.1, less), now.2)
  further most more less (Err fault) now = tt

  at_first : (most : ℕ) (r : Result State Fault) → Gives (Rule 0) r → Gives (UpTo most) r
  at_first most (Ok t) now = (0, omega arith, now)
  at_first most (Err fault) now = tt

  at_next : (r : Result State Fault) → Gives (Rule 1) r → Gives (UpTo 1) r
  at_next (Ok t) now = (1, omega arith, now)
  at_next (Err fault) now = tt

  -- where there is room, what is kept there
  with_room_keeps : (place : ℕ) (t : State) → (is_within t ≡ true → Rule place t) → Gives (Rule place) (with_room t)
  with_room_keeps place t kept = by (is_within t) refl
    where
      by : (b : Bool) → is_within t ≡ b → Gives (Rule place) (if b then Ok t else Err NoRoom)
      by true fits = kept fits
      by false full = tt

  sent_keeps : (s : State) (place : ℕ) (sending : SendingValue) → Rule place s → Gives (Rule (place + 1)) (sent s place sending)
  sent_keeps s place sending now =
      with_room_keeps (place + 1) (fanned_out s (message_of s.count place sending)) (λ fits. keeps.fanned_out place s sending fits tt now)

  next_keeps : (place : ℕ) (r : Result State Fault) → Gives (Rule place) r → Gives (Rule (place + 1)) r
  next_keeps place (Ok t) now = keeps.next place t tt now
  next_keeps place (Err fault) now = tt

  settled_next : (s : State) (session place delivery : ℕ) → Rule place s → Gives (Rule (place + 1)) (acknowledged s session delivery)
  settled_next s session place delivery now =
      next_keeps place (acknowledged s session delivery) (acknowledged_keeps (Rule place) (keeps.changes place) s session delivery now)

  refused_keeps : (s : State) (session place delivery : ℕ) → Rule place s → Gives (Rule (place + 1)) (nacked nack.Keeps s session place delivery)
  refused_keeps s session place delivery now = found (list_any p s.subscriptions) refl
    where
      p : Subscription → Bool
      p = awaits session delivery

      some_keeps : (o : Option (Subscription × List Subscription)) → picked p s.subscriptions ≡ o → list_any p s.subscriptions ≡ true → Gives (Rule (place + 1)) (nacked nack.Keeps s session place delivery)
      some_keeps None is some =
          absurd (true≢false (sym some ∙ any_none p s.subscriptions (picked_nothing p s.subscriptions is)))
      some_keeps (Some q) is some =
          subst (Gives (Rule (place + 1))) (sym (nacked_some s session place delivery q.0 q.1 is some)) (with_room_keeps (place + 1) (kept_in s session place delivery q.0) (λ fits. keeps.refused place s session delivery q.0 q.1 is fits tt now))

      found : (b : Bool) → list_any p s.subscriptions ≡ b → Gives (Rule (place + 1)) (nacked nack.Keeps s session place delivery)
      found true some = some_keeps (picked p s.subscriptions) refl some
      found false none = subst (Gives (Rule (place + 1))) (sym (nacked_none s session place delivery none)) tt

  nacked_keeps : (rule : NackRule) (s : State) (session place delivery : ℕ) → Rule place s → Gives (Rule (place + 1)) (nacked rule s session place delivery)
  nacked_keeps nack.Drops s session place delivery now = settled_next s session place delivery now
  nacked_keeps nack.Keeps s session place delivery now = refused_keeps s session place delivery now

  module _ (rule : NackRule) where
    applied_keeps : (s : State) (session place : ℕ) (m : Member) → Rule place s → Gives (Rule (place + 1)) (applied rule s session place m)
    applied_keeps s session place (members.Send sending) now = sent_keeps s place sending now
    applied_keeps s session place (members.Ack delivery) now = settled_next s session place delivery now
    applied_keeps s session place (members.Nack delivery) now = nacked_keeps rule s session place delivery now

    committed_keeps : (s : State) (session place : ℕ) (ms : List Member) → Rule place s → Gives (UpTo (place + length ms)) (committed rule s session place ms)
    committed_keeps s session place [] now = (place, omega arith, now)
    committed_keeps s session place (m ∷ ms) now =
        by (λ t after. further (place + 1 + length ms) (place + length (m ∷ ms)) (omega arith) (committed rule t session (place + 1) ms) (committed_keeps t session (place + 1) ms after)) (applied rule s session place m) (applied_keeps s session place m now)
      where
        by : ((t : State) → Rule (place + 1) t → Gives (UpTo (place + length (m ∷ ms))) (committed rule t session (place + 1) ms)) → (r : Result State Fault) → Gives (Rule (place + 1)) r → Gives (UpTo (place + length (m ∷ ms))) (elim r as (λ x. Result State Fault) [ Ok t ↦ committed rule t session (place + 1) ms | Err fault ↦ Err fault ])
        by rest (Ok t) after = rest t after
        by rest (Err fault) after = tt

    executed_keeps : (s : State) (session : ℕ) (op : Op) → is_open s session ≡ true → Rule 0 s → Gives (UpTo (places_of op)) (executed rule s session op)
    executed_keeps s session (Open client_id) of_open now = (0, omega arith, now)
    executed_keeps s session (Send sending) of_open now = at_next (sent s 0 sending) (sent_keeps s 0 sending now)
    executed_keeps s session (Subscribe id to mode name) of_open now =
        at_first 1 (subscribed s session id to mode name) (subscribed_keeps (Rule 0) (keeps.changes 0) s session id to mode name of_open now)
    executed_keeps s session (Unsubscribe id (Some name)) of_open now =
        at_first 1 (given_up_for (without_named s session id) (client_of s session) name) (given_up_keeps (Rule 0) (keeps.changes 0) (without_named s session id) (client_of s session) name (without_keeps (Rule 0) (keeps.changes 0) s session id now))
    executed_keeps s session (Unsubscribe (Some id) None) of_open now =
        at_first 1 (unsubscribed s session id) (unsubscribed_keeps (Rule 0) (keeps.changes 0) s session id now)
    executed_keeps s session (Unsubscribe None None) of_open now = tt
    executed_keeps s session (Ack delivery) of_open now =
        at_next (acknowledged s session delivery) (settled_next s session 0 delivery now)
    executed_keeps s session (Nack delivery) of_open now =
        at_next (nacked rule s session 0 delivery) (nacked_keeps rule s session 0 delivery now)
    executed_keeps s session (Commit ms) of_open now =
        further (0 + length ms) (length ms) (omega arith) (committed rule s session 0 ms) (committed_keeps s session 0 ms now)
    executed_keeps s session Note of_open now = (0, omega arith, now)
    executed_keeps s session (End end) of_open now =
        (0, omega arith, ended_keeps (Rule 0) (keeps.changes 0) s session now)

    accepted_keeps : (most : ℕ) (s : State) (session : ℕ) (r : Result State Fault) → Rule 0 s → Gives (UpTo most) r → UpTo most (accepted_or_ended s session r)
    accepted_keeps most s session (Ok t) before now = now
    accepted_keeps most s session (Err fault) before now =
        (0, omega arith, ended_keeps (Rule 0) (keeps.changes 0) s session before)

    heard_keeps : (s : State) (session : ℕ) (op : Op) → Rule 0 s → UpTo (places_of op) (if is_open s session then accepted_or_ended s session (executed rule s session op) else s)
    heard_keeps s session op now = by (is_open s session) refl
      where
        by : (b : Bool) → is_open s session ≡ b → UpTo (places_of op) (if b then accepted_or_ended s session (executed rule s session op) else s)
        by true of_open =
            accepted_keeps (places_of op) s session (executed rule s session op) now (executed_keeps s session op of_open now)
        by false closed = (0, omega arith, now)

    -- What an operation does keeps the rule, at some place.
    pub done_keeps : (s : State) (session : ℕ) (op : Op) → AllByRecursion (λ e. e.0 < s.count) s.sessions → Rule 0 s → UpTo (places_of op) (done rule s session op)
    done_keeps s session (Open client_id) earlier now =
        (0, omega arith, (keeps.changes 0).opened s client_id earlier tt now)
    done_keeps s session (Send sending) earlier now = heard_keeps s session (Send sending) now
    done_keeps s session (Subscribe id to mode name) earlier now = heard_keeps s session (Subscribe id to mode name) now
    done_keeps s session (Unsubscribe id name) earlier now = heard_keeps s session (Unsubscribe id name) now
    done_keeps s session (Ack delivery) earlier now = heard_keeps s session (Ack delivery) now
    done_keeps s session (Nack delivery) earlier now = heard_keeps s session (Nack delivery) now
    done_keeps s session (Commit ms) earlier now = heard_keeps s session (Commit ms) now
    done_keeps s session Note earlier now = heard_keeps s session Note now
    done_keeps s session (End end) earlier now = heard_keeps s session (End end) now

    -- And so does what it leads to.
    pub led_keeps : (s : State) (session : ℕ) (op : Op) → AllByRecursion (λ e. e.0 < s.count) s.sessions → Rule 0 s → UpTo (places_of op) (led_to rule s session op).state
    led_keeps s session op earlier now = by (is_opening op || is_open s session)
      where
        by : (b : Bool) → UpTo (places_of op) (if b then settled (done rule s session op) else record { state = s; outs = [] }).state
        by true =
            let after = done_keeps s session op earlier now in
            (after.0, after.1, settled_keeps (Rule after.0) (keeps.changes after.0) (done rule s session op) after.2)
        by false = (0, omega arith, now)
