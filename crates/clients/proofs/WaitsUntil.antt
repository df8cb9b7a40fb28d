-- Until when none of several things is so.
use Rattle.std.proofs.Common.{◌≡◌, ◌⊎◌, ℕ, ◌+◌, ◌-◌, ◌^◌, ◌≤◌, ◌<◌, min, inl, inr, subst, sym, arith}
use Rattle.std.proofs.lemmas.Bool.{cases_lt}
use Rattle.clients.specs.Deadlines.{Until}

module _ (P Q : ℕ → Type 0) where
  first : (at : ℕ) → P at ⊎ (2 ^ 64 - 1 ≤ at) → (P at ⊎ Q at) ⊎ (2 ^ 64 - 1 ≤ at)
  first at (inl holds) = inl (inl holds)
  first at (inr late) = inr late

  second : (at : ℕ) → Q at ⊎ (2 ^ 64 - 1 ≤ at) → (P at ⊎ Q at) ⊎ (2 ^ 64 - 1 ≤ at)
  second at (inl holds) = inl (inr holds)
  second at (inr late) = inr late

  neither : (now a b then : ℕ) → Until P now a → Until Q now b → now ≤ then → then < now + min a b → P then ⊎ Q then → ⊥
  neither now a b then p q from before (inl holds) = p.not_before then from (omega (arith, before)) holds
  neither now a b then p q from before (inr holds) = q.not_before then from (omega (arith, before)) holds

  -- until the sooner of two moments neither is so
  pub either : (now a b : ℕ) → Until P now a → Until Q now b → Until (λ then. P then ⊎ Q then) now (min a b)
  either now a b p q = elim (cases_lt a b) [
    | inl h ↦
        let is : min a b ≡ a = omega (arith, h) in
        record {
          at_once = λ none. inl (p.at_once (omega (arith, none, is)));
          not_before = λ then from before. neither now a b then p q from before;
          by_then = subst (λ m. (P (now + m) ⊎ Q (now + m)) ⊎ (2 ^ 64 - 1 ≤ now + m)) (sym is) (first (now + a) p.by_then);
        }
    | inr h ↦
        let is : min a b ≡ b = omega (arith, h) in
        record {
          at_once = λ none. inr (q.at_once (omega (arith, none, is)));
          not_before = λ then from before. neither now a b then p q from before;
          by_then = subst (λ m. (P (now + m) ⊎ Q (now + m)) ⊎ (2 ^ 64 - 1 ≤ now + m)) (sym is) (second (now + b) q.by_then);
        }
  ]

  pub sooner : (now a b m : ℕ) → m ≡ min a b → Until P now a → Until Q now b → Until (λ then. P then ⊎ Q then) now m
  sooner now a b m is p q = subst (Until (λ then. P then ⊎ Q then) now) (sym is) (either now a b p q)
