use Rattle.std.proofs.Common.{◌≡◌, ◌<◌, ◌≤◌, ◌+◌, ◌⊎◌, ◌∙◌, ℕ, List, ap, arith, inl, inr, length, max, rules, subst, sym}
use Rattle.std.proofs.lemmas.Bool.{cases_lt}
use Rattle.std.proofs.lemmas.List.Sums.{sum_by_more}
use Rattle.wakeups.specs.Budgets.{counts_there}
use Rattle.wakeups.specs.declared.memory.DeskHolds.{DeskHolds}
use Rattle.wakeups.proofs.memory.Holdings.known_at.Goals as goal

module _ (desk n : ℕ) (desks : List DeskHolds) (before after : ℕ) where
  -- one desk more is looked at
  least_more : after ≡ max before (counts_there desk n desks) → ((at : ℕ) → at < n → counts_there desk at desks ≤ before)
      → (at : ℕ) → at < n + 1 → counts_there desk at desks ≤ after
  least_more is least at lt = elim (cases_lt at n) [
    | inl h ↦ omega (arith, is, least at h)
    | inr h ↦ let same : at ≡ n = omega (arith, h, lt) in subst (λ m. counts_there desk m desks ≤ after) (sym same) (omega (arith, is))
  ]

  reached_more : after ≡ max before (counts_there desk n desks) → n < length desks
      → (before ≡ 0) ⊎ ((at : ℕ) × (at < length desks) × (before ≡ counts_there desk at desks))
      → (after ≡ 0) ⊎ ((at : ℕ) × (at < length desks) × (after ≡ counts_there desk at desks))
  reached_more is lt reached = elim (cases_lt before (counts_there desk n desks)) [
    | inl h ↦ inr (n, lt, omega (arith, is, h))
    | inr h ↦ let stays : after ≡ before = omega (arith, is, h) in elim reached [
      | inl none ↦ inl (stays ∙ none)
      | inr there ↦ inr (there.0, there.1, stays ∙ there.2)
    ]
  ]

pub loop-at-preserved : goal.loop-at-preserved
loop-at-preserved c =
    let is : c.with-holdings.result.elsewhere ≡ max c.loop-at.holdings.elsewhere (counts_there c.args.desk c.loop-at.at c.args.desks.now)
    = ap (λ h. h.elsewhere) c.with-holdings.ensures ∙ ap (max c.loop-at.holdings.elsewhere) c.counts_for.ensures in
    record {
      bytes = search rules;
      clients =
          let more = sum_by_more (λ (desk : DeskHolds). desk.clients) c.args.desks.now c.loop-at.at (record { clients = 0; most = 0 }) c.loop-at-test.true in
          omega (arith, more, ap (λ h. h.clients) c.with-holdings.ensures, c.loop-at.invariant.clients);
      least = least_more c.args.desk c.loop-at.at c.args.desks.now c.loop-at.holdings.elsewhere c.with-holdings.result.elsewhere is c.loop-at.invariant.least;
      reached = reached_more c.args.desk c.loop-at.at c.args.desks.now c.loop-at.holdings.elsewhere c.with-holdings.result.elsewhere is c.loop-at-test.true c.loop-at.invariant.reached;
    }
