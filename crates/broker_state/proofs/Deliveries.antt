use Rattle.std.proofs.Common.{◌≡◌, ◌≤◌, ◌+◌, List, [], ◌∷◌, ℕ, suc, zero, Bool, true, false, Option, Some, None, refl, sym, subst, arith, if◌then◌else◌}
use Rattle.std.specs.List.{sum_by}
use Rattle.std.specs.Option.{option_map}
use Rattle.std.proofs.lemmas.List.Sums.{sum_by-cons, sum_by_push}
use Rattle.line_core.specs.declared.message.Message.{Message}
use Rattle.broker_state.specs.declared.subscription.Subscription.{Subscription}
use Rattle.broker_state.specs.Lists.{picked}
use Rattle.broker_state.specs.States.{State, one, weight_of, weight_of_subscription}
use Rattle.broker_state.specs.Waiting.{left_line, line_for}
use Rattle.broker_state.specs.HandOut.{Handed, Settling, behind, can_take, delivered, hand_out, handed, handed_to, is_auto, settled, settling, waiting}
use Rattle.broker_state.proofs.Firsts.{same_some}
use Rattle.broker_state.proofs.Served.{flight_more}
use Rattle.broker_state.proofs.Serving.{parts}
use Rattle.broker_state.proofs.SharedOrder.{AreRising, left_rising, lighter}

-- a sum over a list is that over the others and of the picked one
pub sum_picked : {X : Type 0} (p : X → Bool) (f : X → ℕ) (xs : List X) (x : X) (ys : List X) → picked p xs ≡ Some (x, ys) → sum_by f ys + f x ≡ sum_by f xs
sum_picked p f [] x ys is = absurd cc
sum_picked {X} p f (z ∷ zs) x ys is = by (p z) refl is (λ y qs rest. sum_picked p f zs y qs rest)
  where
    behind_one : ((y : X) (qs : List X) → picked p zs ≡ Some (y, qs) → sum_by f qs + f y ≡ sum_by f zs) → (o : Option (X × List X)) → picked p zs ≡ o → option_map {U = X × List X} (λ (q : X × List X). (q.0, z ∷ q.1)) o ≡ Some (x, ys) → sum_by f ys + f x ≡ sum_by f (z ∷ zs)
    behind_one tails None rest made = absurd cc
    behind_one tails (Some q) rest made =
        let same = same_some _ _ made in
        let tail : sum_by f q.1 + f q.0 ≡ sum_by f zs = tails q.0 q.1 rest in
        subst (λ (r : X × List X). sum_by f r.1 + f r.0 ≡ sum_by f (z ∷ zs)) same (omega (arith, tail, sum_by-cons f z zs, sum_by-cons f z q.1))

    by : (b : Bool) → p z ≡ b → (if b then Some (z, zs) else option_map {U = X × List X} (λ (q : X × List X). (q.0, z ∷ q.1)) (picked p zs)) ≡ Some (x, ys) → ((y : X) (qs : List X) → picked p zs ≡ Some (y, qs) → sum_by f qs + f y ≡ sum_by f zs) → sum_by f ys + f x ≡ sum_by f (z ∷ zs)
    by true passes made tails = subst (λ (r : X × List X). sum_by f r.1 + f r.0 ≡ sum_by f (z ∷ zs)) (same_some _ _ made) (omega (arith, sum_by-cons f z zs))
    by false passes made tails = behind_one tails (picked p zs) refl made

module _ (weight : Message → ℕ) where
  -- A delivery leaves the message in the state unless its subscription's mode is `auto`.
  pub handed_weight : (s : State) (sub : Subscription) (others : List Subscription) (m : Message) (rest : List Message) → AreRising s.shared → picked (can_take s) s.subscriptions ≡ Some (sub, others) → line_for s.shared sub ≡ m ∷ rest → weight_of weight (handed s sub others m rest).state + (if is_auto sub.mode then weight m else 0) ≡ weight_of weight s
  handed_weight s sub others m rest sorted is line =
      let less = lighter s.shared sorted sub weight m rest line in
      let all = sum_picked (can_take s) (weight_of_subscription weight) s.subscriptions sub others is in
      omega (arith, less, all, sum_by_push (weight_of_subscription weight) others (delivered (left_line sub rest) s.next_delivery m), flight_more weight (is_auto sub.mode) sub.unacknowledged s.next_delivery m)

-- and takes it out of its line
handed_waits : (s : State) (sub : Subscription) (others : List Subscription) (m : Message) (rest : List Message) → AreRising s.shared → picked (can_take s) s.subscriptions ≡ Some (sub, others) → line_for s.shared sub ≡ m ∷ rest → waiting (handed s sub others m rest).state + 1 ≡ waiting s
handed_waits s sub others m rest sorted is line =
    let less = lighter s.shared sorted sub one m rest line in
    let all = sum_picked (can_take s) (λ (x : Subscription). sum_by one x.line) s.subscriptions sub others is in
    omega (arith, less, all, sum_by_push (λ (x : Subscription). sum_by one x.line) others (delivered (left_line sub rest) s.next_delivery m))

-- what a delivery is made of, and where
pub record Made (s : State) (h : Handed) : Type 0 where
  pub sub : Subscription
  pub others : List Subscription
  pub m : Message
  pub rest : List Message
  pub is_picked : picked (can_take s) s.subscriptions ≡ Some (sub, others)
  pub line_is : line_for s.shared sub ≡ m ∷ rest
  pub handed_is : h ≡ handed s sub others m rest

pub made : (s : State) (h : Handed) → hand_out s ≡ Some h → Made s h
made s h is = by (picked (can_take s) s.subscriptions) refl is
  where
    by : (o : Option (Subscription × List Subscription)) → picked (can_take s) s.subscriptions ≡ o → handed_to s o ≡ Some h → Made s h
    by None e f = absurd cc
    by (Some q) e f =
        let p = parts s q.0 q.1 (line_for s.shared q.0) h f in
        record { sub = q.0; others = q.1; m = p.m; rest = p.rest; is_picked = e; line_is = p.line_is; handed_is = p.handed_is }

-- the lines stay in order
hand_out_in_order : (s : State) (h : Handed) → hand_out s ≡ Some h → AreRising s.shared → AreRising h.state.shared
hand_out_in_order s h is sorted =
    let p = made s h is in
    subst (λ (g : Handed). AreRising g.state.shared) (sym p.handed_is) (left_rising s.shared sorted p.sub p.rest)

-- one message waits less
pub hand_out_waits : (s : State) (h : Handed) → hand_out s ≡ Some h → AreRising s.shared → waiting h.state + 1 ≡ waiting s
hand_out_waits s h is sorted =
    let p = made s h is in
    subst (λ (g : Handed). waiting g.state + 1 ≡ waiting s) (sym p.handed_is) (handed_waits s p.sub p.others p.m p.rest sorted p.is_picked p.line_is)

-- What holds of a state, and of that after each delivery, holds once all is settled.
pub settling_keeps : (P : State → Type 0) → ((s : State) (h : Handed) → hand_out s ≡ Some h → P s → P h.state) → (n : ℕ) (s : State) → P s → P (settling n s).state
settling_keeps P keeps zero s now = now
settling_keeps P keeps (suc n) s now = by (λ h is. settling_keeps P keeps n h.state (keeps s h is now)) (hand_out s) refl
  where
    by : ((h : Handed) → hand_out s ≡ Some h → P (settling n h.state).state) → (o : Option Handed) → hand_out s ≡ o → P (elim o as (λ x. Settling) [ None ↦ record { state = s; outs = [] } | Some h ↦ behind h (settling n h.state) ]).state
    by next None is = now
    by next (Some h) is = next h is

-- deliveries end
settling_ends : (n : ℕ) (s : State) → AreRising s.shared → waiting s ≤ n → hand_out (settling n s).state ≡ None
settling_ends zero s sorted few = by (hand_out s) refl
  where
    by : (o : Option Handed) → hand_out s ≡ o → hand_out s ≡ None
    by None is = is
    by (Some h) is = absurd (omega (arith, hand_out_waits s h is sorted, few))
settling_ends (suc n) s sorted few =
    by (λ h is. settling_ends n h.state (hand_out_in_order s h is sorted) (omega (arith, hand_out_waits s h is sorted, few))) (hand_out s) refl
  where
    by : ((h : Handed) → hand_out s ≡ Some h → hand_out (settling n h.state).state ≡ None) → (o : Option Handed) → hand_out s ≡ o → hand_out (elim o as (λ x. Settling) [ None ↦ record { state = s; outs = [] } | Some h ↦ behind h (settling n h.state) ]).state ≡ None
    by next None is = is
    by next (Some h) is = next h is

pub settled_ends : (s : State) → AreRising s.shared → hand_out (settled s).state ≡ None
settled_ends s sorted = settling_ends (waiting s) s sorted (omega arith)
