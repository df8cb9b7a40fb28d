-- How near the tail is to the mark.
use Rattle.std.proofs.Common.{◌≡◌, ℕ, zero, suc, ◌+◌, ◌-◌, ◌*◌, ◌<◌, ◌≤◌, ◌⊎◌, Bool, List, length, sym, refl, ap, ◌∙◌, subst, inl, inr, ⊎_elim, arith, length-append, mul-le-mul_left, mul_comm, le_trans}
use Rattle.std.proofs.lemmas.Bool.{cases_lt}
use mathlib.Core.Option.{some}
use lib.ListN.{get_elem?}
use Rattle.std.specs.Prelude.{Option}
use Rattle.atomic_table.specs.Table.{State}
use Rattle.command_core.specs.Commands.{CommandValue}
use Rattle.command_core.specs.Entries.{EntryValue}
use Rattle.claim_core.specs.declared.views.Limits.{Limits}
use Rattle.claim_core.specs.declared.views.Claimer.{Claimer}
use Rattle.claim_core.specs.declared.views.View.{View}
use Rattle.claim_core.specs.declared.views.View.TheVariants.{Owns, Claims, Spent}
use Rattle.claim_core.specs.Counts.{sum_of, times, above, times_of, above_of, heads}
use Rattle.claim_core.specs.Rule.{far, ClaimerOk, Fits, RingRule}
use Rattle.claim_core.proofs.Sums.{sum_le, sum_less, sum_scale, sum_const, upto, upto_ones, upto_sum, times_above, above_mono}

upto_zero : (k : ℕ) → upto (λ i. 0) k ≡ 0
upto_zero zero = refl
upto_zero (suc k) = omega (arith, upto_zero k)

times_view : (m k : ℕ) (v : View) → upto (λ i. times_of (m + i) v) k ≤ above_of m v
times_view m k (Owns o) = omega (arith, upto_sum (λ i (c : Claimer). times (m + i) c.own) o.joined k, sum_le (λ (c : Claimer). upto (λ i. times (m + i) c.own) k) (λ (c : Claimer). above m c.own) o.joined (λ j c e. times_above m k c.own))
times_view m k (Claims c) = times_above m k c.own
times_view m k Spent = omega (arith, upto_zero k)

module _ (base window mark : ℕ) (stopped : Bool) (next : ℕ) (log : List CommandValue) (m : ℕ) (late : (mark ≤ m) ⊎ (far ≤ m)) where
  few_claimer : (c : Claimer) → ClaimerOk base window mark stopped next log c → above m c.own ≤ window
  few_claimer c ok = ⊎_elim (λ (le : mark ≤ m). omega (arith, above_mono c.seen m c.own (le_trans ok.seen_low le), ok.window_kept))
      (λ (le : far ≤ m). omega (arith, above_mono far m c.own le, ok.few_far)) late

  few_view : (j : ℕ) (v : View) → Fits base window mark stopped next log j v → above_of m v ≤ window * heads v
  few_view j (Owns o) fit = omega (arith, sum_le (λ (c : Claimer). above m c.own) (λ (c : Claimer). window) o.joined (λ k c e. few_claimer c (fit.1 k c e).1), sum_const window o.joined)
  few_view j (Claims c) fit = omega (arith, few_claimer c fit)
  few_view j Spent fit = omega arith

module _ {B : Type 0} (key : Limits) (s : State (Option (EntryValue B)) View) (r : RingRule key s) where
  -- the tickets from m to m + k - 1 are each in one view
  ones : (m k : ℕ) → key.base ≤ m → m + k ≤ key.base + length r.log → (i : ℕ) → i < k → sum_of (times_of (m + i)) s.views ≡ 1
  ones m k low high i lt = let d : ℕ = m + i - key.base in let e : key.base + d ≡ m + i = omega arith in subst (λ (z : ℕ). sum_of (times_of z) s.views ≡ 1) e (r.once d (omega arith))

  spread : (m k : ℕ) → key.base ≤ m → m + k ≤ key.base + length r.log → k ≡ sum_of (λ v. upto (λ i. times_of (m + i) v) k) s.views
  spread m k low high = sym (upto_ones (λ i. sum_of (times_of (m + i)) s.views) k (ones m k low high)) ∙ upto_sum (λ i. times_of (m + i)) s.views k

  each_few : (m k : ℕ) → (r.owner.published ≤ m) ⊎ (far ≤ m) → (j : ℕ) (v : View) → get_elem? s.views j ≡ some v → upto (λ i. times_of (m + i) v) k ≤ key.window * heads v
  each_few m k late j v e = omega (arith, times_view m k v, few_view key.base key.window r.owner.published r.owner.stopped (key.base + length r.owner.taken) r.log m late j v (r.each_view j v e))

  scaled : sum_of (λ v. key.window * heads v) s.views ≤ length s.homes
  scaled = let a = sum_scale key.window heads s.views in let b : key.window * sum_of heads s.views ≤ key.window * key.seats = mul-le-mul_left key.window (omega (arith, r.counted, r.few)) in
      omega (arith, a, b, mul_comm key.window key.seats, r.roomy)

  -- the law of the pigeonhole at the ring
  pub pigeon : (m k : ℕ) → key.base ≤ m → m + k ≤ key.base + length r.log → (r.owner.published ≤ m) ⊎ (far ≤ m) → k ≤ length s.homes
  pigeon m k low high late = omega (arith, spread m k low high, sum_le (λ v. upto (λ i. times_of (m + i) v) k) (λ v. key.window * heads v) s.views (each_few m k late), scaled)

  -- where one claimer may claim, there is room for one more
  pub pigeon_less : (m k id : ℕ) (c : Claimer) → get_elem? s.views id ≡ some (Claims c) → above c.seen c.own < key.window → key.base ≤ m → m + k ≤ key.base + length r.log → r.owner.published ≤ m → k < length s.homes
  pigeon_less m k id c at less low high late = let ok : ClaimerOk key.base key.window r.owner.published r.owner.stopped (key.base + length r.owner.taken) r.log c = r.each_view id (Claims c) at in
      let mine : upto (λ i. times_of (m + i) (Claims c)) k < key.window * heads (Claims c) = omega (arith, times_above m k c.own, above_mono c.seen m c.own (le_trans ok.seen_low late), less) in
      omega (arith, spread m k low high, sum_less (λ v. upto (λ i. times_of (m + i) v) k) (λ v. key.window * heads v) s.views id (Claims c) at mine (each_few m k (inl late)), scaled)

  pub taken_within : length r.owner.taken ≤ length r.log
  taken_within = let p = r.prefix in omega (arith, ap length p.1, length-append r.owner.taken p.0)

  pub near : key.base + length r.log ≤ r.owner.published + length s.homes
  near = let w = taken_within in let lo = r.low in let pl = r.published_low in let k : ℕ = key.base + length r.log - r.owner.published in omega (arith, pigeon r.owner.published k lo (omega arith) (inl (omega arith)))

  pub nearer : (id : ℕ) (c : Claimer) → get_elem? s.views id ≡ some (Claims c) → above c.seen c.own < key.window → key.base + length r.log < r.owner.published + length s.homes
  nearer id c at less = let w = taken_within in let lo = r.low in let pl = r.published_low in let k : ℕ = key.base + length r.log - r.owner.published in
      omega (arith, pigeon_less r.owner.published k id c at less lo (omega arith) (omega arith))

  -- no word wraps
  pub tail_low : key.base + length r.log ≤ 2 * far + 4096
  tail_low = let b = r.base_low in let sm = r.small in ⊎_elim
      (λ (lt : far < key.base). omega (arith, pigeon key.base (length r.log) (omega arith) (omega arith) (inr (omega arith))))
      (λ (ge : key.base ≤ far). ⊎_elim (λ (lt : far < key.base + length r.log). let k : ℕ = key.base + length r.log - far in omega (arith, pigeon far k ge (omega arith) (inr (omega arith))))
      (λ (le : key.base + length r.log ≤ far). omega arith) (cases_lt far (key.base + length r.log)))
      (cases_lt far key.base)
