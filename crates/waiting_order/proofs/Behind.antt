-- How many of a group are behind.
use Rattle.std.proofs.Common.{◌≡◌, ◌==◌, ◌≤◌, ◌+◌, ◌&&◌, ◌++◌, List, [], ◌∷◌, ℕ, Bool, true, false, cond, length, not, Some, suc, refl, sym, ap, subst, ◌∙◌, arith, remove, slice_get}
use Rattle.std.specs.List.{AllByRecursion, sum_by}
use Rattle.std.proofs.lemmas.Bool.Decides.{nat_tests}
use Rattle.std.proofs.lemmas.List.Sums.{sum_by-cons, sum_by_push}
use Rattle.broker_state.specs.Lists.{changed, is_none}
use Rattle.broker_state.proofs.Weights.{sum_by-changed, sum_by-part, sum_by-removed}
use Rattle.waiting_order.specs.Directories.{behind_in, is_behind, is_in, members, place_of}
use Rattle.waiting_order.specs.Groups.{one}
use Rattle.waiting_order.specs.declared.waiters.Waiter.{Waiter}
use Rattle.waiting_order.proofs.Timed.{W}

pub eq_is : (a b : ℕ) → (a == b) ≡ true → a ≡ b
eq_is a b is = grind (arith, nat_tests)

pub eq_itself : (a : ℕ) → (a == a) ≡ true
eq_itself a = grind (arith, nat_tests)

pub eq_not : (a b : ℕ) → (a ≡ b → ⊥) → (a == b) ≡ false
eq_not a b other = by (a == b) refl
  where
    by : (c : Bool) → (a == b) ≡ c → (a == b) ≡ false
    by true is = absurd (other (eq_is a b is))
    by false is = is

-- whether a waiter is of that group, and behind
abbrev pub counts : ℕ → W → Bool
counts group w = is_in group w.1 && is_behind w.1.sub

abbrev count_of : ℕ → W → ℕ
count_of group w = cond (counts group w) 1 0

module _ (group : ℕ) where
  pub behind_pushed : (ws : List W) (w : W) → behind_in group (ws ++ w ∷ []) ≡ behind_in group ws + one (counts group w)
  behind_pushed ws w = sum_by_push (count_of group) ws w

  pub behind_removed : (ws : List W) (at : ℕ) (w : W) → slice_get ws at ≡ Some w → behind_in group (remove ws at) + one (counts group w) ≡ behind_in group ws
  behind_removed ws at w is = sum_by-removed (count_of group) ws at w is

  pub behind_changed : (f : W → W) (ws : List W) (at : ℕ) (w : W) → slice_get ws at ≡ Some w → behind_in group (changed at f ws) + one (counts group w) ≡ behind_in group ws + one (counts group (f w))
  behind_changed f ws at w is = sum_by-changed (count_of group) f ws at w is

  pub behind_part : (ws : List W) (at : ℕ) (w : W) → slice_get ws at ≡ Some w → one (counts group w) ≤ behind_in group ws
  behind_part ws at w is = sum_by-part (count_of group) ws at w is

  -- no more than its members
  pub behind_few : (ws : List W) → behind_in group ws ≤ length (members (is_in group) ws)
  behind_few [] = omega arith
  behind_few (w ∷ ws) =
      let rest = behind_few ws in
      let it : behind_in group (w ∷ ws) ≡ one (counts group w) + behind_in group ws = sum_by-cons (count_of group) w ws in
      subst (λ n. behind_in group (w ∷ ws) ≤ n) (sym (longer (is_in group w.1) (place_of w) (members (is_in group) ws))) (no_more (behind_in group (w ∷ ws)) (behind_in group ws) (length (members (is_in group) ws)) (is_in group w.1) (is_behind w.1.sub) it rest)
    where
      longer : {X : Type 0} (b : Bool) (x : X) (xs : List X) → length (cond b (x ∷ xs) xs) ≡ cond b (suc (length xs)) (length xs)
      longer true x xs = refl
      longer false x xs = refl

      no_more : (n m l : ℕ) (b c : Bool) → n ≡ one (b && c) + m → m ≤ l → n ≤ cond b (suc l) l
      no_more n m l true true it rest = omega (arith, it, rest)
      no_more n m l true false it rest = omega (arith, it, rest)
      no_more n m l false c it rest = omega (arith, it, rest)

-- and no more than the waiters
pub few_members : (p : Waiter → Bool) (ws : List W) → length (members p ws) ≤ length ws
few_members p [] = omega arith
few_members p (w ∷ ws) =
    let rest = few_members p ws in
    elim (p w.1) as (λ b. length (cond b (place_of w ∷ members p ws) (members p ws)) ≤ length (w ∷ ws)) [ true ↦ omega (arith, rest) | false ↦ omega (arith, rest) ]

pub nobody_behind : (group : ℕ) (ws : List W) → members (is_in group) ws ≡ [] → behind_in group ws ≡ 0
nobody_behind group ws none = omega (arith, behind_few group ws, ap length none)

-- a line's length says whether it is empty
pub empty_is : {X : Type 0} (xs : List X) → (length xs == 0) ≡ is_none xs
empty_is [] = refl
empty_is (x ∷ xs) = eq_not (length (x ∷ xs)) 0 (λ is. omega (arith, is))
