-- What all sessions take, if those of each desk keep within a limit.
use Rattle.std.proofs.Common.{◌≡◌, ◌<◌, ◌≤◌, ◌+◌, ◌*◌, ◌==◌, List, [], ◌∷◌, ℕ, suc, zero, Bool, true, false, Option, Some, cond, is_some, nat_lt, refl, sym, ap, arith, eq-eqb}
use Rattle.std.specs.BTreeMap.{is_at}
use Rattle.std.specs.List.{AllByRecursion, sum_by}
use Rattle.std.specs.Map.{lookup}
use Rattle.std.specs.Ordering.{is_eq, nat_cmp}
use Rattle.std.proofs.lemmas.Bool.{eqb-false, lt-ltb, ltb-false, ltb-true}
use Rattle.std.proofs.lemmas.List.Sums.{sum_by-cons, sum_by-le-sum_by}
use Rattle.std.proofs.lemmas.Map.Lookups.{exact_unsigned}
use Rattle.command_core.specs.declared.command.Op.{Op}
use Rattle.command_core.specs.Commands.{CommandValue}
use Rattle.clients.specs.Footprints.{footprint}
use Rattle.broker_state.specs.declared.nack_rule.NackRule.{NackRule}
use Rattle.broker_state.specs.declared.subscription.Subscription.{Subscription}
use Rattle.broker_state.specs.Operations.{is_of}
use Rattle.broker_state.specs.Sound.{HasSubscriptions, IsSound}
use Rattle.broker_state.specs.States.{State}
use Rattle.broker_state.specs.Steps.{state_after_by}
use Rattle.broker_state.proofs.Lookups.{is_equal}
use Rattle.snapshot_core.specs.Snapshots.{Spells}
use Rattle.engine_core.specs.Desks.{DesksKeepWithin, operations_of}
use Rattle.engine_core.specs.Rooms.{HasRoom}
use Rattle.engine_core.specs.Sessions.{bytes_of_opening, bytes_of_session, bytes_of_sessions, bytes_of_subscription}
use Rattle.engine_core.proofs.Histories.{takes_as_said}
use Rattle.engine_core.proofs.SnapshotSizes.{room_for}

abbrev Session : Type 0
Session = ℕ × Option (List ℕ)

module _ {X : Type 0} where
  sum_of_both : (f g : X → ℕ) (xs : List X) → sum_by (λ x. f x + g x) xs ≡ sum_by f xs + sum_by g xs
  sum_of_both f g [] = refl
  sum_of_both f g (x ∷ xs) =
      omega (arith, sum_of_both f g xs, sum_by-cons (λ y. f y + g y) x xs, sum_by-cons f x xs, sum_by-cons g x xs)

  sum_of_none : (xs : List X) → sum_by (λ x. 0) xs ≡ 0
  sum_of_none [] = refl
  sum_of_none (x ∷ xs) = omega (arith, sum_of_none xs, sum_by-cons (λ (y : X). 0) x xs)

-- ---- each session is one of those that are open

abbrev own_opening : List Session → ℕ → ℕ
own_opening es n = sum_by (λ (e : Session). cond (n == e.0) (bytes_of_opening e) 0) es

abbrev own_subscriptions : List Subscription → ℕ → ℕ
own_subscriptions subs n = sum_by (λ sub. cond (is_of n sub) (bytes_of_subscription sub) 0) subs

each_opening : (es : List Session) → sum_by bytes_of_opening es ≤ sum_by (λ (e : Session). own_opening es e.0) es
each_opening [] = omega arith
each_opening (x ∷ es) =
    let more : (n : ℕ) → own_opening (x ∷ es) n ≡ cond (n == x.0) (bytes_of_opening x) 0 + own_opening es n = λ n. sum_by-cons (λ (e : Session). cond (n == e.0) (bytes_of_opening e) 0) x es in
    omega (
      arith,
      each_opening es,
      more x.0,
      ap {B = ℕ} (λ b. cond b (bytes_of_opening x) 0) (eq-eqb x.0 x.0 refl),
      sum_by-le-sum_by (λ (e : Session). own_opening es e.0) (λ (e : Session). own_opening (x ∷ es) e.0) es (λ e. omega (arith, more e.0)),
      sum_by-cons bytes_of_opening x es,
      sum_by-cons (λ (e : Session). own_opening (x ∷ es) e.0) x es,
    )

-- what is found counts
found_counts : (n w : ℕ) (es : List Session) → is_some (lookup (is_at (nat_cmp n)) es) ≡ true → w ≤ sum_by (λ (e : Session). cond (e.0 == n) w 0) es
found_counts n w [] found = absurd cc
found_counts n w (x ∷ es) found = by (is_eq (nat_cmp n x.0)) refl found (found_counts n w es)
  where
    here : Session → ℕ
    here e = cond (e.0 == n) w 0

    by : (b : Bool) → is_eq (nat_cmp n x.0) ≡ b → is_some (cond b (Some x.1) (lookup (is_at (nat_cmp n)) es)) ≡ true → (is_some (lookup (is_at (nat_cmp n)) es) ≡ true → w ≤ sum_by here es) → w ≤ sum_by here (x ∷ es)
    by true is found rest =
        let it : n ≡ x.0 = exact_unsigned n x.0 (is_equal (nat_cmp n x.0) is) in
        omega (arith, sum_by-cons here x es, ap {B = ℕ} (λ b. cond b w 0) (eq-eqb x.0 n (sym it)))
    by false is found rest = omega (arith, sum_by-cons here x es, rest found)

each_subscription : (es : List Session) (subs : List Subscription) → AllByRecursion (λ (sub : Subscription). is_some (lookup (is_at (nat_cmp sub.session)) es) ≡ true) subs → sum_by bytes_of_subscription subs ≤ sum_by (λ (e : Session). own_subscriptions subs e.0) es
each_subscription es [] all = omega arith
each_subscription es (x ∷ subs) all =
    let w = bytes_of_subscription x in
    let more : (e : Session) → cond (e.0 == x.session) w 0 + own_subscriptions subs e.0 ≤ own_subscriptions (x ∷ subs) e.0 = λ e. omega (arith, sum_by-cons (λ sub. cond (is_of e.0 sub) (bytes_of_subscription sub) 0) x subs) in
    omega (
      arith,
      each_subscription es subs all.1,
      found_counts x.session w es all.0,
      sum_of_both (λ (e : Session). cond (e.0 == x.session) w 0) (λ (e : Session). own_subscriptions subs e.0) es,
      sum_by-le-sum_by (λ (e : Session). cond (e.0 == x.session) w 0 + own_subscriptions subs e.0) (λ (e : Session). own_subscriptions (x ∷ subs) e.0) es more,
      sum_by-cons bytes_of_subscription x subs,
    )

pub all_by_session : (s : State) → HasSubscriptions s → bytes_of_sessions s ≤ sum_by (λ (e : Session). bytes_of_session e.0 s) s.sessions
all_by_session s has =
    omega (arith, each_opening s.sessions, each_subscription s.sessions s.subscriptions has.of_open, sum_of_both (λ (e : Session). own_opening s.sessions e.0) (λ (e : Session). own_subscriptions s.subscriptions e.0) s.sessions)

-- ---- each session is at one of the desks

at_most : (b : Bool) (w : ℕ) → cond b w 0 ≤ w
at_most true w = omega arith
at_most false w = omega arith

none_below : (x w : ℕ) → cond (nat_lt x 0) w 0 ≤ 0
none_below x w = by (nat_lt x 0) refl
  where
    by : (b : Bool) → nat_lt x 0 ≡ b → cond b w 0 ≤ 0
    by true is = absurd (omega (arith, ltb-true x 0 is))
    by false is = omega arith

below_next : (x k w : ℕ) → cond (nat_lt x (suc k)) w 0 ≤ cond (nat_lt x k) w 0 + cond (x == k) w 0
below_next x k w = by (nat_lt x k) refl (x == k) refl
  where
    by : (a : Bool) → nat_lt x k ≡ a → (b : Bool) → (x == k) ≡ b → cond (nat_lt x (suc k)) w 0 ≤ cond a w 0 + cond b w 0
    by true under b is = omega (arith, at_most (nat_lt x (suc k)) w)
    by false over true is = omega (arith, at_most (nat_lt x (suc k)) w)
    by false over false other = last (nat_lt x (suc k)) refl
      where
        last : (c : Bool) → nat_lt x (suc k) ≡ c → cond c w 0 ≤ 0
        last true next = absurd (eqb-false x k other (omega (arith, ltb-true x (suc k) next, ltb-false x k over)))
        last false next = omega arith

module _ {X : Type 0} (desk_of weight : X → ℕ) (xs : List X) (limit : ℕ) (within : (desk : ℕ) → sum_by (λ x. cond (desk_of x == desk) (weight x) 0) xs ≤ limit) where
  abbrev below : ℕ → X → ℕ
  below k x = cond (nat_lt (desk_of x) k) (weight x) 0

  all_below : (k : ℕ) → sum_by (below k) xs ≤ k * limit
  all_below zero =
      omega (arith, sum_by-le-sum_by (below 0) (λ x. 0) xs (λ x. none_below (desk_of x) (weight x)), sum_of_none xs)
  all_below (suc k) =
      omega (
        arith,
        all_below k,
        within k,
        sum_by-le-sum_by (below (suc k)) (λ x. below k x + cond (desk_of x == k) (weight x) 0) xs (λ x. below_next (desk_of x) k (weight x)),
        sum_of_both (below k) (λ x. cond (desk_of x == k) (weight x) 0) xs,
      )

  by_desks : (desks : ℕ) → ((x : X) → desk_of x < desks) → sum_by weight xs ≤ desks * limit
  by_desks desks few =
      omega (arith, all_below desks, sum_by-le-sum_by weight (below desks) xs (λ x. omega (arith, ap {B = ℕ} (λ b. cond b (weight x) 0) (lt-ltb (desk_of x) desks (few x)))))

-- ---- and all together

module _ (rule : NackRule) (s : State) (commands : List CommandValue) (sound : IsSound s) (none : s.sessions ≡ []) where
  abbrev after : State
  after = state_after_by rule s commands

  abbrev said : ℕ → List Op
  said n = operations_of n s.count commands

  takes_within : (desks limit : ℕ) → HasSubscriptions after → DesksKeepWithin desks limit said after → bytes_of_sessions after ≤ desks * limit
  takes_within desks limit has keep =
      omega (
        arith,
        all_by_session after has,
        sum_by-le-sum_by (λ (e : Session). bytes_of_session e.0 after) (λ (e : Session). footprint (said e.0)) after.sessions (λ e. takes_as_said rule s commands e.0 sound.order sound.subscriptions none),
        by_desks (λ (e : Session). keep.desk_of e.0) (λ (e : Session). footprint (said e.0)) after.sessions limit keep.within desks (λ e. keep.few e.0),
      )

  pub room_of_desks : (desks limit size : ℕ) (snapshot : List ℕ) → DesksKeepWithin desks limit said after → Spells snapshot after → 25300000 + desks * limit ≤ size → HasRoom size snapshot
  room_of_desks desks limit size snapshot keep spells large =
      room_for after snapshot size spells (omega (arith, large, takes_within desks limit spells.sound.subscriptions keep))
