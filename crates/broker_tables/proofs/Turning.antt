-- A message goes to each who listens, one after another.
use Rattle.std.proofs.Common.{◌≡◌, ◌<◌, ◌≤◌, ◌+◌, ◌^◌, ◌&&◌, ◌++◌, ◌∷◌, [], List, ℕ, suc, Bool, true, false, Option, Some, ap, arith, count_by, inl, inr, length, nat_lt, not, refl, remove, slice_get, subst, sym, ◌∙◌, if◌then◌else◌}
use Rattle.std.specs.List.{AllByRecursion, sum_by}
use Rattle.std.specs.Str.{bytes_eq}
use Rattle.std.proofs.lemmas.Bool.{cases_lt, lt-ltb}
use Rattle.std.proofs.lemmas.List.Sums.{sum_by_push}
use Rattle.std.proofs.lemmas.Option.{same_Some}
use Rattle.command_core.specs.Outs.{OutValue}
use Rattle.line_core.specs.declared.message.Message.{Message}
use Rattle.line_core.specs.Flights.{IsOver}
use Rattle.broker_state.specs.declared.limits.Held.{Held}
use Rattle.broker_state.specs.declared.subscription.Subscription.{Subscription}
use Rattle.broker_state.specs.HandOut.{can_take, delivered, has_room, is_auto, message_out}
use Rattle.broker_state.specs.Lists.{is_none}
use Rattle.broker_state.specs.Names.{Name}
use Rattle.broker_state.specs.Operations.{fanned_out}
use Rattle.broker_state.specs.Parts.{IsFirst, NonePass, copies_to}
use Rattle.broker_state.specs.Settles.{SettlesSo}
use Rattle.broker_state.specs.States.{State, bytes, one, weight_of_subscription}
use Rattle.broker_state.specs.Waiting.{Shared, is_own, line_for, weight_of_shared}
use Rattle.broker_state.proofs.Served.{next_after}
use Rattle.broker_state.proofs.Weights.{all_at, all_removed, sum_by-removed}
use Rattle.waiting_order.specs.declared.groups.Place.{Place}
use Rattle.waiting_order.specs.declared.waiters.Waiter.{Waiter}
use Rattle.waiting_order.specs.Directories.{IsFirstFrom, NoneFrom, is_in, is_plain_at, members}
use Rattle.waiting_order.specs.Waiting.{IsOrdered, Waiting, subs_of}
use Rattle.waiting_order.proofs.Directories.{none_left}
use Rattle.waiting_order.proofs.Keeping.{subs_pushed}
use Rattle.waiting_order.proofs.Members.{count_members, members_alike}
use Rattle.waiting_order.proofs.Rising.{all_places, rising_before, rising_same}
use Rattle.broker_tables.specs.declared.stock.Stock.{Stock}
use Rattle.broker_tables.specs.Answers.{Answered, with_outs}
use Rattle.broker_tables.specs.AtOnce.{AreAuto, AreSwift, GoesToEach, Turns, names_bound}
use Rattle.broker_tables.specs.Cursors.{NoneReady}
use Rattle.broker_tables.specs.Dues.{is_due}
use Rattle.broker_tables.specs.Stocks.{IsStocked, shown, stocked}
use Rattle.broker_tables.proofs.Answering.{with_more, with_none}
use Rattle.broker_tables.proofs.AtOnce.{IsSwift, all_idle, all_push, begins_at_once, gets, sent_to, turns, still_enough}
use Rattle.broker_tables.proofs.Dues.{clash}
use Rattle.broker_tables.proofs.Nexts.{count_alike, plain_listens}
use Rattle.broker_tables.proofs.Scopes.{none_behind}
use Rattle.broker_tables.proofs.Settling.{settles_all}
use Rattle.broker_tables.proofs.Waiters.{W, all_subs, first_from, sub_at, subs_removed}

-- Those of a group before a ticket are in `auto`.
abbrev pub AreAutoUntil : ℕ → List W → ℕ → Type 0
AreAutoUntil group ws from = (i : ℕ) (w : W) → slice_get ws i ≡ Some w → w.1.ticket < from → is_in group w.1 ≡ true → is_auto w.1.sub.mode ≡ true

-- and so they are before the ticket behind the next one's, if that one is
pub auto_further : (group : ℕ) (o : Waiting) (from : ℕ) (place : Place) → IsOrdered o → (next : IsFirstFrom (is_in group) o.all from place) → is_auto next.waiter.sub.mode ≡ true → AreAutoUntil group o.all from → AreAutoUntil group o.all (place.ticket + 1)
auto_further group o from place ordered next auto before i w there under inside = elim (cases_lt w.1.ticket place.ticket) [ inl less ↦ earlier less | inr more ↦ it more ]
  where
    earlier : w.1.ticket < place.ticket → is_auto w.1.sub.mode ≡ true
    earlier less = elim (cases_lt w.1.ticket from) [
      | inl old ↦ before i w there old inside
      | inr new ↦ absurd (clash (is_in group w.1) inside (next.before i w there new (rising_before (λ (v : W). v.1.ticket) o.all i next.at w (place.key, next.waiter) ordered.rising there next.there (omega (arith, less, next.ticket)))))
    ]

    it : place.ticket ≤ w.1.ticket → is_auto w.1.sub.mode ≡ true
    it more =
        let same : i ≡ next.at = rising_same (λ (v : W). v.1.ticket) o.all i next.at w (place.key, next.waiter) ordered.rising there next.there (omega (arith, more, under, next.ticket)) in
        let who : (place.key, next.waiter) ≡ w = same_Some (place.key, next.waiter) w (sym next.there ∙ ap (slice_get o.all) (sym same) ∙ there) in
        subst (λ (v : W). is_auto v.1.sub.mode ≡ true) who auto

-- where there is no next one, all are
pub auto_to_end : (group : ℕ) (ws : List W) (from : ℕ) → NoneFrom (is_in group) ws from → AreAutoUntil group ws from → AreAuto group ws
auto_to_end group ws from none before = all_places (λ (w : W). is_in group w.1 ≡ true → is_auto w.1.sub.mode ≡ true) ws (λ i w there inside. elim (cases_lt w.1.ticket from) [
  | inl old ↦ before i w there old inside
  | inr new ↦ absurd (clash (is_in group w.1) inside (none i w there new))
])

-- Some have got the message, and so many are left.
pub record IsTurning (number group : ℕ) (m : Message) (first : Stock) (earlier : Answered) (left : ℕ) (now : Stock) (all : Answered) : Type 0 where
  pub listeners : AllByRecursion (λ (w : W). gets m w.1.sub ≡ is_in group w.1) now.order.all
  pub swift : AllByRecursion (IsSwift first.shared m) (subs_of now.order.all)
  pub whole : IsStocked now
  pub lines : now.shared ≡ first.shared
  pub numbers : now.next_delivery + left < 2 ^ 63
  pub enough : left ≤ count_by (gets m) (subs_of now.order.all)
  pub outs : List OutValue
  pub answers : all ≡ with_outs outs earlier
  pub settles : (sessions : List (ℕ × Option (List ℕ))) (durables : List (Name × List ℕ)) → names_bound m.sending.destination durables ≡ 0
      → SettlesSo (fanned_out (shown number sessions durables first) m) [] (sent_to (shown number sessions durables first) m now.next_delivery left (subs_of now.order.all)) outs 0

-- At first none has got it.
module _ (number group count : ℕ) (m : Message) (first : Stock) (earlier : Answered) (are : AreSwift first m.sending.destination group count) (whole : IsStocked first) (none : NoneReady first) where
  to : List ℕ
  to = m.sending.destination

  alike : (sub : Subscription) → is_plain_at m.sending.destination sub ≡ gets m sub
  alike sub = plain_listens m.sending.destination are.topic sub

  same_group : AllByRecursion (λ (w : W). gets m w.1.sub ≡ is_in group w.1) first.order.all
  same_group = all_places (λ (w : W). gets m w.1.sub ≡ is_in group w.1) first.order.all (λ i w there. sym (alike w.1.sub) ∙ all_at (λ (v : W). is_plain_at m.sending.destination v.1.sub ≡ is_in group v.1) first.order.all i w there are.listeners.alike)

  with_number : (a b c : Bool) → a ≡ true → (a && b && c) ≡ false → (b && c) ≡ false
  with_number true b c is fails = fails
  with_number false b c is fails = absurd cc

  each_swift : AllByRecursion (IsSwift first.shared m) (subs_of first.order.all)
  each_swift = all_subs (IsSwift first.shared m) first.order.all (all_places (λ (w : W). IsSwift first.shared m w.1.sub) first.order.all (λ i w there.
      let inside : gets m w.1.sub ≡ true → is_in group w.1 ≡ true = λ get. sym (all_at (λ (v : W). gets m v.1.sub ≡ is_in group v.1) first.order.all i w there same_group) ∙ get in
      record {
        auto = λ get. all_at (λ (v : W). is_in group v.1 ≡ true → is_auto v.1.sub.mode ≡ true) first.order.all i w there are.auto (inside get);
        line = λ get. none_left w.1.sub.line (none_behind group first.order.all are.caught_up i w there (inside get));
        idle = λ other. with_number (nat_lt first.next_delivery (2 ^ 63)) (has_room w.1.sub) (not (is_none (line_for first.shared w.1.sub))) (lt-ltb first.next_delivery (2 ^ 63) (omega (arith, are.numbers)))
            (all_at (λ x. can_take (stocked first) x ≡ false) (subs_of first.order.all) i w.1.sub (sub_at first.order.all i w there) none);
      }))

  counts : count ≡ count_by (gets m) (subs_of first.order.all)
  counts = are.counted ∙ count_alike (is_plain_at m.sending.destination) (gets m) alike (subs_of first.order.all)

  pub begins_turning : IsTurning number group m first earlier count first earlier
  begins_turning = record {
    listeners = same_group;
    swift = each_swift;
    whole = whole;
    lines = refl;
    numbers = are.numbers;
    enough = omega (arith, counts);
    outs = [];
    answers = sym (with_none earlier);
    settles = λ sessions durables nameless.
        let s = shown number sessions durables first in
        subst (λ (n : ℕ). SettlesSo (fanned_out s m) [] (sent_to s m first.next_delivery n (subs_of first.order.all)) [] 0) (sym counts) (begins_at_once s m are.topic nameless);
  }

-- somebody is left
pub some_left : (number group : ℕ) (m : Message) (first : Stock) (earlier : Answered) (left : ℕ) (now : Stock) (all : Answered) → 0 < left → IsTurning number group m first earlier left now all → is_none (members (is_in group) now.order.all) ≡ false
some_left number group m first earlier left now all some t =
    let same = members_alike (λ (s : Waiter). gets m s.sub) (is_in group) now.order.all t.listeners in
    longer (members (is_in group) now.order.all) (omega (arith, some, t.enough, count_members (gets m) now.order.all, ap length same))
  where
    longer : {X : Type 0} (xs : List X) → 0 < length xs → is_none xs ≡ false
    longer [] more = absurd (omega (arith, more))
    longer (y ∷ ys) more = refl

-- One more has got it.
module _ (number group : ℕ) (m : Message) (first : Stock) (earlier : Answered) (left : ℕ) (old : Stock) (before : Answered) (new : Stock) (all : Answered)
    (t : IsTurning number group m first earlier (suc left) old before) (turn : Turns number group m old before new all) where
  abbrev subs : List Subscription
  subs = subs_of old.order.all

  abbrev at : ℕ
  at = turn.first.at

  abbrev x : Subscription
  x = turn.first.waiter.sub

  there : slice_get subs at ≡ Some x
  there = sub_at old.order.all at (turn.place.key, turn.first.waiter) turn.first.there

  is_first : IsFirst (gets m) subs at
  is_first = first_from (gets m) old.order.all turn.place (record {
    at = at;
    waiter = turn.first.waiter;
    there = turn.first.there;
    ticket = turn.first.ticket;
    after = turn.first.after;
    passing = all_at (λ (w : W). gets m w.1.sub ≡ is_in group w.1) old.order.all at (turn.place.key, turn.first.waiter) turn.first.there t.listeners ∙ turn.first.passing;
    before = λ i w is after less. all_at (λ (v : W). gets m v.1.sub ≡ is_in group v.1) old.order.all i w is t.listeners ∙ turn.first.before i w is after less;
  })

  subs_after : subs_of new.order.all ≡ remove subs at ++ x ∷ []
  subs_after =
      ap (λ (o : Waiting). subs_of o.all) turn.order ∙ subs_pushed (remove old.order.all at) (turn.place.key, record turn.first.waiter { ticket = old.order.next })
      ∙ ap (λ (l : List Subscription). l ++ x ∷ []) (subs_removed old.order.all at)

  is_swift : IsSwift first.shared m x
  is_swift = all_at (IsSwift first.shared m) subs at x there t.swift

  auto : is_auto x.mode ≡ true
  auto = is_swift.auto (is_first.passing x there)

  weighs : (weight : Message → ℕ) → weight_of_shared weight new.shared + sum_by (weight_of_subscription weight) (subs_of new.order.all) ≡ weight_of_shared weight old.shared + sum_by (weight_of_subscription weight) subs
  weighs weight =
      let f = weight_of_subscription weight in
      omega (arith, ap (weight_of_shared weight) turn.shared, ap (sum_by f) subs_after, sum_by_push f (remove subs at) x, sum_by-removed f subs at x there)

  over : AllByRecursion (λ (y : Subscription). IsOver (old.next_delivery + 1) y.unacknowledged) (remove subs at ++ x ∷ [])
  over =
      let kept : delivered x old.next_delivery m ≡ x = ap (λ b. record x { unacknowledged = if b then x.unacknowledged else x.unacknowledged ++ (old.next_delivery, m) ∷ [] }) auto in
      subst (λ (y : Subscription). AllByRecursion (λ (z : Subscription). IsOver (old.next_delivery + 1) z.unacknowledged) (remove subs at ++ y ∷ [])) kept (next_after old.next_delivery m subs at x x there refl t.whole.next)

  pub stocked_turned : IsStocked new
  stocked_turned =
      let kept = t.whole in
      record {
        messages = ap (λ (h : Held). h.messages) turn.held ∙ kept.messages ∙ sym (weighs one);
        bytes = ap (λ (h : Held). h.bytes) turn.held ∙ kept.bytes ∙ sym (weighs bytes);
        few = omega (arith, kept.few, ap (λ (h : Held). h.messages) turn.held);
        small = omega (arith, kept.small, ap (λ (h : Held). h.bytes) turn.held);
        next = subst (λ (l : List Subscription). AllByRecursion (λ (y : Subscription). IsOver new.next_delivery y.unacknowledged) l) (sym subs_after)
            (subst (λ (n : ℕ). AllByRecursion (λ (y : Subscription). IsOver n y.unacknowledged) (remove subs at ++ x ∷ [])) (sym turn.delivery) over);
        deliveries = omega (arith, t.numbers, turn.delivery);
        tickets = omega (arith, kept.tickets, turn.delivery, ap (λ (o : Waiting). o.next) turn.order);
      }

  one_more : left + 1 ≤ count_by (gets m) subs
  one_more = omega (arith, t.enough)

  few : old.next_delivery < 2 ^ 63
  few = omega (arith, t.numbers)

  pub turned : IsTurning number group m first earlier left new all
  turned = record {
    listeners = subst (λ (o : Waiting). AllByRecursion (λ (w : W). gets m w.1.sub ≡ is_in group w.1) o.all) (sym turn.order)
        (all_push (λ (w : W). gets m w.1.sub ≡ is_in group w.1) (remove old.order.all at) (turn.place.key, record turn.first.waiter { ticket = old.order.next })
        (all_removed (λ (w : W). gets m w.1.sub ≡ is_in group w.1) old.order.all at t.listeners)
        (all_at (λ (w : W). gets m w.1.sub ≡ is_in group w.1) old.order.all at (turn.place.key, turn.first.waiter) turn.first.there t.listeners));
    swift = subst (AllByRecursion (IsSwift first.shared m)) (sym subs_after) (all_push (IsSwift first.shared m) (remove subs at) x (all_removed (IsSwift first.shared m) subs at t.swift) is_swift);
    whole = stocked_turned;
    lines = turn.shared ∙ t.lines;
    numbers = omega (arith, t.numbers, turn.delivery);
    enough = subst (λ (l : List Subscription). left ≤ count_by (gets m) l) (sym subs_after) (still_enough (stocked first) m old.next_delivery left subs at x few one_more t.swift is_first there);
    outs = t.outs ++ message_out number x old.next_delivery m ∷ [];
    answers = turn.answers ∙ ap (with_outs (message_out number x old.next_delivery m ∷ [])) t.answers ∙ with_more t.outs (message_out number x old.next_delivery m ∷ []) earlier;
    settles = λ sessions durables nameless.
        let s = shown number sessions durables first in
        let on = turns s m old.next_delivery left subs at x few one_more t.swift is_first there (fanned_out s m) t.outs (t.settles sessions durables nameless) in
        let outs = t.outs ++ message_out number x old.next_delivery m ∷ [] in
        subst (λ (l : List Subscription). SettlesSo (fanned_out s m) [] (sent_to s m new.next_delivery left l) outs 0) (sym subs_after)
        (subst (λ (n : ℕ). SettlesSo (fanned_out s m) [] (sent_to s m n left (remove subs at ++ x ∷ [])) outs 0) (sym turn.delivery) on);
  }

-- When each has got it, all is handed out.
module _ (number group : ℕ) (m : Message) (first : Stock) (earlier : Answered) (now : Stock) (all : Answered) (t : IsTurning number group m first earlier 0 now all) where
  idle : NonePass (can_take (record (stocked first) { next_delivery = now.next_delivery })) (subs_of now.order.all)
  idle = all_idle (stocked first) m now.next_delivery (subs_of now.order.all) t.swift

  pub none_ready_then : NoneReady now
  none_ready_then =
      subst (λ (p : Shared). NonePass (can_take (record (stocked first) { next_delivery = now.next_delivery; shared = p })) (subs_of now.order.all)) (sym t.lines) idle

  pub goes_to_each : GoesToEach number m first earlier now all
  goes_to_each sessions durables nameless =
      let s = shown number sessions durables first in
      let ends = settles_all (fanned_out s m) (sent_to s m now.next_delivery 0 (subs_of now.order.all)) [] t.outs (t.settles sessions durables nameless) idle in (
        ap (λ (p : Shared). record (shown number sessions durables now) { shared = p }) t.lines ∙ ends.0,
        t.answers ∙ ap (λ (l : List OutValue). with_outs l earlier) ends.1,
      )

-- where nothing is due, none can be served
pub none_due_ready : (s : State) (xs : List Subscription) → AllByRecursion (λ x. can_take s x ≡ true → is_due [] x ≡ true) xs → NonePass (can_take s) xs
none_due_ready s [] all = tt
none_due_ready s (y ∷ ys) all = (not_ready (can_take s y) all.0, none_due_ready s ys all.1)
  where
    not_ready : (b : Bool) → (b ≡ true → false ≡ true) → b ≡ false
    not_ready true due = absurd (clash false (due refl) refl)
    not_ready false due = refl

-- as many copies are kept as there are listeners
pub copies_swift : (stock : Stock) (to : List ℕ) (group count : ℕ) (durables : List (Name × List ℕ)) → AreSwift stock to group count → names_bound to durables ≡ 0 → count ≡ copies_to to durables (subs_of stock.order.all)
copies_swift stock to group count durables are nameless =
    let subs = subs_of stock.order.all in
    let own = λ (sub : Subscription). is_own sub && bytes_eq sub.destination to in
    let counts : count ≡ count_by own subs = are.counted ∙ count_alike (is_plain_at to) own (plain_listens to are.topic) subs in
    let both : count ≡ names_bound to durables + count_by own subs = omega (arith, counts, nameless) in
    both ∙ sym (ap (λ b. if b then 1 else names_bound to durables + count_by own subs) are.topic)
