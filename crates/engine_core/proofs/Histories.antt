-- What a session takes after any commands.
use Rattle.std.proofs.Common.{◌≡◌, ◌≤◌, ◌+◌, ◌==◌, ◌++◌, List, [], ◌∷◌, ℕ, Bool, true, false, true≢false, not, Option, Some, None, Result, cond, filter, is_some, refl, sym, ap, subst, ◌∙◌, arith, append_assoc, append-nil, if◌then◌else◌}
use Rattle.std.specs.BTreeMap.{is_at}
use Rattle.std.specs.List.{AllByRecursion, sum_by}
use Rattle.std.specs.Map.{lookup}
use Rattle.std.specs.Ordering.{is_eq, nat_cmp}
use Rattle.std.specs.declared.cmp.Ordering.TheVariants.{Equal}
use Rattle.std.specs.Cmp.{nat_cmp_is}
use Rattle.std.proofs.lemmas.Bool.{eqb-true}
use Rattle.std.proofs.lemmas.List.Sums.{sum_by-cons, sum_by-append}
use Rattle.command_core.specs.declared.command.AckMode.{AckMode}
use Rattle.command_core.specs.declared.command.Op.{Op}
use Rattle.command_core.specs.declared.command.Op.TheVariants.{Open, Send, Subscribe, Unsubscribe, Ack, Nack, Commit, Note, End}
use Rattle.command_core.specs.declared.fault.Fault.{Fault}
use Rattle.command_core.specs.Commands.{CommandValue}
use Rattle.broker_state.specs.declared.nack_rule.NackRule.{NackRule}
use Rattle.broker_state.specs.declared.subscription.Subscription.{Subscription}
use Rattle.broker_state.specs.Executing.{executed}
use Rattle.broker_state.specs.HandOut.{settled}
use Rattle.broker_state.specs.Operations.{is_of, opened}
use Rattle.broker_state.specs.Sound.{HasSubscriptions}
use Rattle.broker_state.specs.States.{IsInOrder, State, is_open}
use Rattle.broker_state.specs.Steps.{accepted_or_ended, led_to, state_after_by, step_by}
use Rattle.broker_state.proofs.Lookups.{none_found}
use Rattle.broker_state.proofs.Ordered.{step_in_order}
use Rattle.broker_state.proofs.SubscriptionLimits.{step_limits}
use Rattle.broker_state.proofs.Walk.{Gives}
use Rattle.clients.specs.declared.footprint.Part.{Part}
use Rattle.clients.specs.Footprints.{charged, footprint, has_id, parts_of, standing}
use Rattle.clients.proofs.Footprints.{charges}
use Rattle.engine_core.specs.Desks.{operations_of, session_of}
use Rattle.engine_core.specs.Sessions.{bytes_of_session, subscribing_of}
use Rattle.engine_core.proofs.Taken.{Ids, of_session, of_subscription, others, taken, weigh, weight, weight_left}
use Rattle.engine_core.proofs.Steps.{Under, under_acknowledged, under_committed, under_ended, under_ended_so, under_nacked, under_opened, under_or_ended, under_sent, under_settled, under_subscribed, under_unsubscribed_by, with_it, without_it}

-- ---- a session that isn't open takes nothing

entries_none : (ids : Ids) (n : ℕ) (es : List (ℕ × Option (List ℕ))) → AllByRecursion (λ e. is_eq (nat_cmp n e.0) ≡ false) es → sum_by (of_session ids n) es ≡ 0
entries_none ids n [] all = refl
entries_none ids n (e ∷ es) all = by (n == e.0) refl (entries_none ids n es all.1)
  where
    by : (b : Bool) → (n == e.0) ≡ b → sum_by (of_session ids n) es ≡ 0 → sum_by (of_session ids n) (e ∷ es) ≡ 0
    by true is rest =
        absurd (true≢false (ap is_eq (nat_cmp_is n e.0 Equal (eqb-true n e.0 is)) ∙ all.0))
    by false is rest =
        omega (arith, rest, sum_by-cons (of_session ids n) e es, ap {B = ℕ} (λ b. cond b (weight ids (parts_of (Open e.1))) 0) is)

subscriptions_none : (ids : Ids) (n : ℕ) (s : State) → is_open s n ≡ false → (subs : List Subscription) → AllByRecursion (λ sub. is_open s sub.session ≡ true) subs → sum_by (of_subscription ids n) subs ≡ 0
subscriptions_none ids n s closed [] all = refl
subscriptions_none ids n s closed (sub ∷ subs) all = by (is_of n sub) refl (subscriptions_none ids n s closed subs all.1)
  where
    by : (b : Bool) → is_of n sub ≡ b → sum_by (of_subscription ids n) subs ≡ 0 → sum_by (of_subscription ids n) (sub ∷ subs) ≡ 0
    by true is rest =
        absurd (true≢false (sym all.0 ∙ ap (is_open s) (sym (eqb-true n sub.session is)) ∙ closed))
    by false is rest =
        omega (arith, rest, sum_by-cons (of_subscription ids n) sub subs, ap {B = ℕ} (λ b. cond b (weight ids (parts_of (subscribing_of sub))) 0) is)

nothing_there : {X : Type 0} (o : Option X) → is_some o ≡ false → o ≡ None
nothing_there None is = refl
nothing_there (Some x) is = absurd cc

pub closed_none : (ids : Ids) (n : ℕ) (s : State) → HasSubscriptions s → is_open s n ≡ false → taken ids n s ≡ 0
closed_none ids n s has closed =
    omega (arith, entries_none ids n s.sessions (none_found nat_cmp n s.sessions (nothing_there (lookup (is_at (nat_cmp n)) s.sessions) closed)), subscriptions_none ids n s closed s.subscriptions has.of_open)

-- ---- one command

-- the session n takes no more than these parts
abbrev pub Within : ℕ → State → List Part → Type 0
Within n s parts = (ids : Ids) → taken ids n s ≤ weight ids parts

either_way : (n : ℕ) (t : State) (parts : List Part) (b : Bool) → Within n t parts → Within n t (cond b parts parts)
either_way n t parts true now = now
either_way n t parts false now = now

module _ (rule : NackRule) (n : ℕ) (s : State) (has : HasSubscriptions s) (parts : List Part) (now : Within n s parts) where
  -- an operation of a session that is open, and one of another
  heard : (session : ℕ) (t : State) (more : List Part) (b : Bool) → is_open s session ≡ b → Within n (settled t).state (cond (n == session) more parts) → Within n (if b then settled (if b then t else s) else record { state = s; outs = [] }).state (cond (n == session) more parts)
  heard session t more true is after = after
  heard session t more false closed after = by (n == session) refl
    where
      by : (b : Bool) → (n == session) ≡ b → Within n s (cond b more parts)
      by true is = λ ids. omega (arith, closed_none ids n s has (ap (is_open s) (eqb-true n session is) ∙ closed))
      by false is = now

  -- one that adds nothing and ends nothing
  same : (session : ℕ) (r : Result State Fault) → Gives (Under (λ ids m. taken ids m s)) r → Within n (settled (accepted_or_ended s session r)).state (cond (n == session) parts parts)
  same session r gives =
      let most : Ids → ℕ → ℕ = λ ids m. taken ids m s in
      let after = under_settled most (accepted_or_ended s session r) (under_or_ended most s session r (under_ended most s session (λ ids m. omega arith)) gives) in
      either_way n (settled (accepted_or_ended s session r)).state parts (n == session) (λ ids. omega (arith, after ids n, now ids))

  opens : (client : Option (List ℕ)) → Within n (settled (opened s client)).state (cond (n == s.count) (parts ++ parts_of (Open client)) parts)
  opens client ids = by (n == s.count) refl
    where
      after : taken ids n (settled (opened s client)).state ≤ of_session ids n (s.count, client) + taken ids n s
      after = under_settled (λ i m. of_session i m (s.count, client) + taken i m s) (opened s client) (under_opened s client) ids n

      by : (b : Bool) → (n == s.count) ≡ b → taken ids n (settled (opened s client)).state ≤ weight ids (cond b (parts ++ parts_of (Open client)) parts)
      by true is =
          omega (arith, after, now ids, sum_by-append (weigh ids) parts (parts_of (Open client)), ap {B = ℕ} (λ b. cond b (weight ids (parts_of (Open client))) 0) is)
      by false is = omega (arith, after, now ids, ap {B = ℕ} (λ b. cond b (weight ids (parts_of (Open client))) 0) is)

  subscribes : (session : ℕ) (id to : List ℕ) (mode : AckMode) (durable : Option (List ℕ)) → Within n (settled (accepted_or_ended s session (executed rule s session (Subscribe id to mode durable)))).state (cond (n == session) (parts ++ parts_of (Subscribe id to mode durable)) parts)
  subscribes session id to mode durable ids = by (n == session) refl
    where
      t : State
      t = accepted_or_ended s session (executed rule s session (Subscribe id to mode durable))

      most : Ids → ℕ → ℕ
      most = with_it s session id to mode durable

      after : taken ids n (settled t).state ≤ with_it s session id to mode durable ids n
      after = under_settled most t (under_or_ended most s session (executed rule s session (Subscribe id to mode durable)) (under_ended most s session (λ i m. omega arith)) (under_subscribed s session id to mode durable)) ids n

      by : (b : Bool) → (n == session) ≡ b → taken ids n (settled t).state ≤ weight ids (cond b (parts ++ parts_of (Subscribe id to mode durable)) parts)
      by true is =
          omega (arith, after, now ids, sum_by-append (weigh ids) parts (parts_of (Subscribe id to mode durable)), ap {B = ℕ} (λ b. cond b (weight ids (parts_of (Subscribe id to mode durable))) 0) is)
      by false is =
          omega (arith, after, now ids, ap {B = ℕ} (λ b. cond b (weight ids (parts_of (Subscribe id to mode durable))) 0) is)

  unsubscribes : (session : ℕ) (id durable : Option (List ℕ)) → Within n (settled (accepted_or_ended s session (executed rule s session (Unsubscribe id durable)))).state (cond (n == session) (filter (λ one. not (has_id one.id id)) parts) parts)
  unsubscribes session id durable ids = by (n == session) refl
    where
      t : State
      t = accepted_or_ended s session (executed rule s session (Unsubscribe id durable))

      most : Ids → ℕ → ℕ
      most = without_it s session id

      after : taken ids n (settled t).state ≤ without_it s session id ids n
      after = under_settled most t (under_or_ended most s session (executed rule s session (Unsubscribe id durable)) (under_ended_so s session id) (under_unsubscribed_by s session (has.ids session) id durable)) ids n

      by : (b : Bool) → (n == session) ≡ b → taken ids n (settled t).state ≤ weight ids (cond b (filter (λ one. not (has_id one.id id)) parts) parts)
      by true is =
          omega (arith, after, now (others id ids), weight_left id ids parts, ap {B = ℕ} (λ b. cond b (taken (others id ids) n s) (taken ids n s)) is)
      by false is = omega (arith, after, now ids, ap {B = ℕ} (λ b. cond b (taken (others id ids) n s) (taken ids n s)) is)

  led : (session : ℕ) (op : Op) → Within n (led_to rule s session op).state (cond (n == session_of s.count (record { session = session; op = op; receipt = None })) (charged parts op) parts)
  led session (Open client) = opens client
  led session (Send sending) =
      heard session (accepted_or_ended s session (executed rule s session (Send sending))) parts (is_open s session) refl (same session (executed rule s session (Send sending)) (under_sent (λ ids m. taken ids m s) s 0 sending (λ ids m. omega arith)))
  led session (Subscribe id to mode durable) =
      heard session (accepted_or_ended s session (executed rule s session (Subscribe id to mode durable))) (parts ++ parts_of (Subscribe id to mode durable)) (is_open s session) refl (subscribes session id to mode durable)
  led session (Unsubscribe id durable) =
      heard session (accepted_or_ended s session (executed rule s session (Unsubscribe id durable))) (filter (λ one. not (has_id one.id id)) parts) (is_open s session) refl (unsubscribes session id durable)
  led session (Ack delivery) =
      heard session (accepted_or_ended s session (executed rule s session (Ack delivery))) parts (is_open s session) refl (same session (executed rule s session (Ack delivery)) (under_acknowledged (λ ids m. taken ids m s) s session delivery (λ ids m. omega arith)))
  led session (Nack delivery) =
      heard session (accepted_or_ended s session (executed rule s session (Nack delivery))) parts (is_open s session) refl (same session (executed rule s session (Nack delivery)) (under_nacked (λ ids m. taken ids m s) rule s session 0 delivery (λ ids m. omega arith)))
  led session (Commit members) =
      heard session (accepted_or_ended s session (executed rule s session (Commit members))) parts (is_open s session) refl (same session (executed rule s session (Commit members)) (under_committed (λ ids m. taken ids m s) rule s session 0 members (λ ids m. omega arith)))
  led session Note =
      heard session (accepted_or_ended s session (executed rule s session Note)) parts (is_open s session) refl (same session (executed rule s session Note) (λ ids m. omega arith))
  led session (End end) =
      heard session (accepted_or_ended s session (executed rule s session (End end))) parts (is_open s session) refl (same session (executed rule s session (End end)) (under_ended (λ ids m. taken ids m s) s session (λ ids m. omega arith)))

  pub stepped : (c : CommandValue) → Within n (step_by rule s c) (cond (n == session_of s.count c) (charged parts c.op) parts)
  stepped c = led c.session c.op

-- ---- any commands

module _ (rule : NackRule) (n : ℕ) where
  goes_on : (commands : List CommandValue) (s : State) (all : List Op) → IsInOrder s → HasSubscriptions s → Within n s (standing all) → Within n (state_after_by rule s commands) (standing (all ++ operations_of n s.count commands))
  goes_on [] s all order has now = subst (λ l. Within n s (standing l)) (sym (append-nil all)) now
  goes_on (c ∷ commands) s all order has now =
      by (λ l within. goes_on commands (step_by rule s c) l (step_in_order rule s c order) (step_limits rule s c order has) within) (n == session_of s.count c) (stepped rule n s has (standing all) now c)
    where
      t : State
      t = step_by rule s c

      by : ((l : List Op) → Within n t (standing l) → Within n (state_after_by rule t commands) (standing (l ++ operations_of n t.count commands))) → (b : Bool) → Within n t (cond b (charged (standing all) c.op) (standing all)) → Within n (state_after_by rule t commands) (standing (all ++ cond b (c.op ∷ operations_of n t.count commands) (operations_of n t.count commands)))
      by next true after =
          subst (λ l. Within n (state_after_by rule t commands) (standing l)) (append_assoc all (c.op ∷ []) (operations_of n t.count commands)) (next (all ++ c.op ∷ []) (subst (λ l. Within n t l) (sym (charges all c.op)) after))
      by next false after = next all after

no_subscriptions : (s : State) (subs : List Subscription) → s.sessions ≡ [] → AllByRecursion (λ sub. is_open s sub.session ≡ true) subs → subs ≡ []
no_subscriptions s [] none all = refl
no_subscriptions s (sub ∷ subs) none all =
    absurd (true≢false (sym all.0 ∙ ap (λ (es : List (ℕ × Option (List ℕ))). is_some (lookup (is_at (nat_cmp sub.session)) es)) none))

pub takes_as_said : (rule : NackRule) (s : State) (commands : List CommandValue) (n : ℕ) → IsInOrder s → HasSubscriptions s → s.sessions ≡ [] → bytes_of_session n (state_after_by rule s commands) ≤ footprint (operations_of n s.count commands)
takes_as_said rule s commands n order has none =
    goes_on rule n commands s [] order has (λ ids. omega (arith, ap (λ (es : List (ℕ × Option (List ℕ))). sum_by (of_session ids n) es) none, ap (λ (subs : List Subscription). sum_by (of_subscription ids n) subs) (no_subscriptions s s.subscriptions none has.of_open))) (λ id. true)

pub takes_none : (s : State) (n : ℕ) → HasSubscriptions s → is_open s n ≡ false → bytes_of_session n s ≡ 0
takes_none s n has closed = closed_none (λ id. true) n s has closed
