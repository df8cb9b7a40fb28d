-- The steps of a claimer keep the rule.
use Rattle.std.proofs.Common.{◌≡◌, ℕ, ◌+◌, ◌%◌, ◌<◌, ◌≤◌, ◌≢◌, Bool, List, [], ◌∷◌, ◌++◌, length, get_or, set, sym, refl, ap, ◌∙◌, subst, inl, inr, ⊎_elim, arith, length-append, length-set, get_or-set_other, get_or-set_same, mod-lt, mod-eq_of_lt, true, append_assoc}
use Rattle.std.proofs.lemmas.Bool.{cases_eq}
use mathlib.Core.Option.{some, none}
use lib.ListN.{get_elem?}
use lib.Seq.{set-get_or}
use Rattle.std.specs.Prelude.{Option, Some, None}
use Rattle.atomic_table.specs.Table.{State, step, Act, keeps, takes, gives, Valid, carried_after, stepped, Allows}
use Rattle.atomic_table.proofs.Lists.{at_snoc, set_here, set_else, at_longer, at_last}
use Rattle.command_core.specs.Commands.{CommandValue}
use Rattle.command_core.specs.Entries.{EntryValue}
use Rattle.claim_core.specs.declared.views.Limits.{Limits}
use Rattle.claim_core.specs.declared.views.Claimer.{Claimer}
use Rattle.claim_core.specs.declared.views.View.{View}
use Rattle.claim_core.specs.declared.views.View.TheVariants.{Owns, Claims, Spent}
use Rattle.claim_core.specs.Counts.{Pair, sum_of, same, from, times, above, pends, times_of, pends_of}
use Rattle.claim_core.specs.Places.{free_for, ready_at}
use Rattle.claim_core.specs.Rule.{far, ClaimerOk, Fits, Stands, RingRule}
use Rattle.claim_core.specs.Steps.{claimer, Sat, MayClaim, saw_mark, saw_stop, IsLast, claimed_for, readied}
use Rattle.claim_core.proofs.Sums.{sum_set, sum_at, sum_le, sum_zero, sum_snoc, same_is, same_not, above_mono, from_one, pends_le}
use Rattle.claim_core.proofs.Moves.{Homes, Longer, none_not_some, claims_injective, number_injective, self_pends, apart, rising_snoc, get_below, stands_still, claimer_moves, same_sum}
use Rattle.claim_core.proofs.Near.{near, nearer, tail_low, taken_within}

abbrev pub St : Type 0 → Type 0
St B = State (Option (EntryValue B)) View

abbrev command_in : CommandValue → Option CommandValue → CommandValue
command_in d None = d
command_in d (Some x) = x

command_injective : (a b : CommandValue) → Some a ≡ Some b → a ≡ b
command_injective a b e = ap (command_in a) e

module _ {B : Type 0} (key : Limits) where
  abbrev pub Goes : St B → ℕ → ℕ → Sat B → (ℕ → Sat B → Type 0) → ℕ → Type 0
  Goes s k id me then x = (w : View) × (a : Act (Option (EntryValue B))) × Valid s.homes me.1 a × RingRule key (stepped s k x id me.1 w a) × then (get_or s.words k 0) (w, carried_after me.1 a)

  -- the seat of c has seen the mark
  sees : (s : St B) (r : RingRule key s) (id : ℕ) (c : Claimer) → get_elem? s.views id ≡ some (Claims c) → RingRule key record { words = s.words; homes = s.homes; views = set s.views id (Claims (claimer c.own c.pending r.owner.published c.stopped)) }
  sees s r id c at = let ok : ClaimerOk key.base key.window r.owner.published r.owner.stopped (key.base + length r.owner.taken) r.log c = r.each_view id (Claims c) at in let c' : Claimer = claimer c.own c.pending r.owner.published c.stopped in
      claimer_moves key s r id c c' s.words s.homes r.log at refl refl r.tail_is refl refl (λ i x e. e) r.prefix
      (λ i lt. same_sum key s r (times_of (key.base + i)) id (Claims c) (Claims c') at refl ∙ r.once i lt)
      record { pairs = ok.pairs; rising = ok.rising; window_kept = omega (arith, above_mono c.seen r.owner.published c.own ok.seen_low, ok.window_kept); seen_low = omega arith; stop_seen = ok.stop_seen; few_far = ok.few_far; pending_own = ok.pending_own }
      (λ t a b h. subst (λ (p : ℕ). Stands (length s.homes) s.words s.homes key.base r.log p t) (sym (same_sum key s r (pends_of t) id (Claims c) (Claims c') at refl)) (r.places t a b h))
      (λ t e h le held. held)

  pub sees_mark : (n id : ℕ) (me : Sat B) (c : Claimer) → me.0 ≡ Claims c → Allows (RingRule key) n id me 1 (λ x. x) (saw_mark (step n 1 0 0 none) me)
  sees_mark n id me c is s r wide at _ = let at' : get_elem? s.views id ≡ some (Claims c) = at ∙ ap some is in let m : ℕ = get_or s.words 1 0 in let e : m ≡ r.owner.published = r.mark_is in
      let ok : ClaimerOk key.base key.window r.owner.published r.owner.stopped (key.base + length r.owner.taken) r.log c = r.each_view id (Claims c) at' in (
        Claims (claimer c.own c.pending m c.stopped),
        keeps,
        tt,
        subst (λ (ws : List ℕ). RingRule key record { words = ws; homes = s.homes; views = set s.views id (Claims (claimer c.own c.pending m c.stopped)) }) (sym (set-get_or s.words 1 0))
            (subst (λ (z : ℕ). RingRule key record { words = s.words; homes = s.homes; views = set s.views id (Claims (claimer c.own c.pending z c.stopped)) }) (sym e) (sees s r id c at')),
        (refl, λ d dd. let cd : c ≡ d = claims_injective c d (sym is ∙ dd) in (subst (λ (z : Claimer). z.seen ≤ m) cd (subst (λ z. c.seen ≤ z) (sym e) ok.seen_low), ap (λ (z : Claimer). Claims (claimer z.own z.pending m z.stopped)) cd)),
      )

  -- the seat of c has seen whether the ring is stopped
  sees_stop_at : (s : St B) (r : RingRule key s) (id : ℕ) (c : Claimer) → get_elem? s.views id ≡ some (Claims c) → RingRule key record { words = s.words; homes = s.homes; views = set s.views id (Claims (claimer c.own c.pending c.seen r.owner.stopped)) }
  sees_stop_at s r id c at = let ok : ClaimerOk key.base key.window r.owner.published r.owner.stopped (key.base + length r.owner.taken) r.log c = r.each_view id (Claims c) at in let c' : Claimer = claimer c.own c.pending c.seen r.owner.stopped in
      claimer_moves key s r id c c' s.words s.homes r.log at refl refl r.tail_is refl refl (λ i x e. e) r.prefix
      (λ i lt. same_sum key s r (times_of (key.base + i)) id (Claims c) (Claims c') at refl ∙ r.once i lt)
      record { pairs = ok.pairs; rising = ok.rising; window_kept = ok.window_kept; seen_low = ok.seen_low; stop_seen = λ e. e; few_far = ok.few_far; pending_own = ok.pending_own }
      (λ t a b h. subst (λ (p : ℕ). Stands (length s.homes) s.words s.homes key.base r.log p t) (sym (same_sum key s r (pends_of t) id (Claims c) (Claims c') at refl)) (r.places t a b h))
      (λ t e h le held. held)

  pub sees_stop : (n id : ℕ) (me : Sat B) (c : Claimer) → me.0 ≡ Claims c → Allows (RingRule key) n id me 2 (λ x. x) (saw_stop (step n 2 0 0 none) me)
  sees_stop n id me c is s r wide at _ = let at' : get_elem? s.views id ≡ some (Claims c) = at ∙ ap some is in let b : Bool = r.owner.stopped in (
    Claims (claimer c.own c.pending c.seen b),
    keeps,
    tt,
    subst (λ (ws : List ℕ). RingRule key record { words = ws; homes = s.homes; views = set s.views id (Claims (claimer c.own c.pending c.seen b)) }) (sym (set-get_or s.words 2 0)) (sees_stop_at s r id c at'),
    (refl, λ d dd. let cd : c ≡ d = claims_injective c d (sym is ∙ dd) in (b, r.stop_is, ap (λ (z : Claimer). Claims (claimer z.own z.pending z.seen b)) cd)),
  )

module _ {B : Type 0} (key : Limits) (s : St B) (r : RingRule key s) where
  abbrev T : ℕ
  T = key.base + length r.owner.taken

  abbrev N : ℕ
  N = key.base + length r.log

  -- a ticket that was not claimed stands in no list
  times_none : (t : ℕ) (own : List Pair) → N ≤ t → ((k : ℕ) (p : Pair) → get_elem? own k ≡ some p → (i : ℕ) × (p.0 ≡ key.base + i) × (get_elem? r.log i ≡ some p.1)) → times t own ≤ 0
  times_none t own le h = let z : sum_of (λ (p : Pair). 0) own ≡ 0 = sum_zero own in
      omega (
        arith,
        z,
        sum_le (λ (p : Pair). same t p.0) (λ (p : Pair). 0) own (λ k p e. let q = h k p e in let lt : q.0 < length r.log = get_below r.log q.0 p.1 q.2 in let is : p.0 ≡ key.base + q.0 = q.1 in
            omega (arith, same_not t p.0 (λ x. omega arith))),
      )

  times_none_of : (t j : ℕ) (v : View) → N ≤ t → Fits key.base key.window r.owner.published r.owner.stopped T r.log j v → times_of t v ≤ 0
  times_none_of t j (Owns o) le fit = let z : sum_of (λ (c : Claimer). 0) o.joined ≡ 0 = sum_zero o.joined in
      omega (arith, z, sum_le (λ (c : Claimer). times t c.own) (λ (c : Claimer). 0) o.joined (λ k c e. times_none t c.own le (fit.1 k c e).1.pairs))
  times_none_of t j (Claims c) le fit = times_none t c.own le fit.pairs
  times_none_of t j Spent le fit = omega arith

  pub none_above : (t : ℕ) → N ≤ t → sum_of (times_of t) s.views ≡ 0
  none_above t le = let z : sum_of (λ (v : View). 0) s.views ≡ 0 = sum_zero s.views in omega (arith, z, sum_le (times_of t) (λ (v : View). 0) s.views (λ j v e. times_none_of t j v le (r.each_view j v e)))

  pends_times : (t j : ℕ) (v : View) → Fits key.base key.window r.owner.published r.owner.stopped T r.log j v → pends_of t v ≤ times_of t v
  pends_times t j (Owns o) fit = omega arith
  pends_times t j (Claims c) fit = pends_le t c.own c.pending (λ p e. (fit.pending_own p e).0)
  pends_times t j Spent fit = omega arith

  pub waits_le : (t : ℕ) → sum_of (pends_of t) s.views ≤ sum_of (times_of t) s.views
  waits_le t = sum_le (pends_of t) (times_of t) s.views (λ j v e. pends_times t j v (r.each_view j v e))

  -- a claimed ticket's place is not the one that the flusher frees
  pub in_reach : (t : ℕ) → t < r.owner.published + length s.homes → (t < T + length s.homes) × (r.owner.held ≡ true → t + 1 ≢ T + length s.homes) × ((u : ℕ) → u + 1 ≡ T → r.owner.held ≡ true → t < u + length s.homes)
  in_reach t lt = let p = r.published_low in (
    omega arith,
    (λ h e. let q = r.held h in let a : q.0 + 1 ≡ T = q.1 in let b : r.owner.published ≤ q.0 = q.2 in omega arith),
    λ u e h. let q = r.held h in let a : q.0 + 1 ≡ T = q.1 in let b : r.owner.published ≤ q.0 = q.2 in omega arith,
  )

  -- the seat of c makes its ticket t ready
  readied_at : (id t : ℕ) (c : Claimer) (e : EntryValue B) → get_elem? s.views id ≡ some (Claims c) → c.pending ≡ Some t → ((i : ℕ) × (t ≡ key.base + i) × (get_elem? r.log i ≡ some e.command))
      → RingRule key record { words = set s.words (t % length s.homes + 3) (ready_at t); homes = set s.homes (t % length s.homes) (some (Some e)); views = set s.views id (Claims (claimer c.own None c.seen c.stopped)) }
  readied_at id t c e at waits said = let n : ℕ = length s.homes in let c' : Claimer = claimer c.own None c.seen c.stopped in let k : ℕ = t % n + 3 in let words' : List ℕ = set s.words k (ready_at t) in let homes' : Homes B = set s.homes (t % n) (some (Some e)) in
      let ok : ClaimerOk key.base key.window r.owner.published r.owner.stopped T r.log c = r.each_view id (Claims c) at in let i : ℕ = said.0 in let ti : t ≡ key.base + i = said.1 in let lt : i < length r.log = get_below r.log i e.command said.2 in
      let low : T ≤ t = (ok.pending_own t waits).1 in let nr : N ≤ r.owner.published + n = near key s r in let reach = in_reach t (omega arith) in let high : t < T + n = reach.0 in let pos : 0 < n = let p = r.published_low in omega arith in
      let tn : t % n < n = mod-lt t pos in let w : length s.words ≡ n + 3 = r.wide in
      let ps : ℕ → ℕ = λ u. sum_of (pends_of u) s.views in let ps' : ℕ → ℕ = λ u. sum_of (pends_of u) (set s.views id (Claims c')) in
      let mine : (u : ℕ) → ps' u + pends u (Some t) ≡ ps u + 0 = λ u. subst (λ o. ps' u + pends u o ≡ ps u + 0) waits (sum_set (pends_of u) s.views id (Claims c) (Claims c') at) in
      claimer_moves key s r id c c' words' homes' r.log at (length-set s.words k (ready_at t)) (length-set s.homes (t % n) (some (Some e)))
      (get_or-set_other s.words k 0 (ready_at t) 0 (λ x. omega arith) ∙ r.tail_is) (get_or-set_other s.words k 1 (ready_at t) 0 (λ x. omega arith)) (get_or-set_other s.words k 2 (ready_at t) 0 (λ x. omega arith))
      (λ j x q. q) r.prefix (λ j l. same_sum key s r (times_of (key.base + j)) id (Claims c) (Claims c') at refl ∙ r.once j l)
      record { pairs = ok.pairs; rising = ok.rising; window_kept = ok.window_kept; seen_low = ok.seen_low; stop_seen = ok.stop_seen; few_far = ok.few_far; pending_own = λ u q. absurd (none_not_some u q) }
      (λ u a b h. ⊎_elim
      (λ (x : u ≡ t). let one : 1 ≤ ps u = let q = sum_at (pends_of u) s.views id (Claims c) at in let z : 1 ≤ pends u c.pending = subst (λ o. 1 ≤ pends u o) (sym waits) (subst (λ z. 1 ≤ pends z (Some t)) (sym x) (self_pends t)) in omega arith in
      let top : ps u ≤ 1 = let q : sum_of (times_of (key.base + i)) s.views ≡ 1 = r.once i lt in omega (arith, waits_le u, subst (λ z. sum_of (times_of z) s.views ≡ 1) (sym (x ∙ ti)) q) in
      inr (inr (
        omega arith,
        (let m = mine u in let z : pends u (Some t) ≡ 1 = same_is u t x in omega arith),
        subst (λ z. get_or words' (z % n + 3) 0 ≡ ready_at z) (sym x) (get_or-set_same s.words k (ready_at t) 0 (omega arith)),
        (e, i, subst (λ z. get_elem? homes' (z % n) ≡ some (some (Some e))) (sym x) (set_here s.homes (t % n) (some (Some e)) tn), x ∙ ti, said.2),
      )))
      (λ ne. let other : u % n ≢ t % n = apart T n u t a b low high ne in stands_still n key.base s.words words' s.homes homes' r.log r.log (ps u) (ps' u) u (get_or-set_other s.words k (u % n + 3) (ready_at t) 0 (λ x. other (omega arith)))
      (set_else s.homes (t % n) (u % n) (some (Some e)) other) (λ j x q. q) (omega arith) (λ q. q) (let m = mine u in let z : pends u (Some t) ≡ 0 = same_not u t ne in omega arith) (r.places u a b h))
      (cases_eq u t))
      (λ u b held le is. let other : u % n ≢ t % n = apart u n u t (omega arith) (omega arith) (omega arith) (reach.2 u b held) (λ x. omega arith) in
      (get_or-set_other s.words k (u % n + 3) (ready_at t) 0 (λ x. other (omega arith)) ∙ is.0, set_else s.homes (t % n) (u % n) (some (Some e)) other ∙ is.1))

  -- the place of the next ticket is free
  pub next_free : N < r.owner.published + length s.homes → get_elem? s.homes (N % length s.homes) ≡ some (some None)
  next_free lt = let tw = taken_within key s r in let reach = in_reach N lt in
      ⊎_elim (λ a. a.2) (λ b. absurd (⊎_elim (λ c. let l : N < N = c.0 in omega arith) (λ c. let l : N < N = c.0 in omega arith) b)) (r.places N (omega arith) reach.0 reach.1)

  free_face : N < r.owner.published + length s.homes → get_or s.words (N % length s.homes + 3) 0 ≡ free_for N
  free_face lt = let tw = taken_within key s r in let reach = in_reach N lt in
      ⊎_elim (λ a. a.1) (λ b. absurd (⊎_elim (λ c. let l : N < N = c.0 in omega arith) (λ c. let l : N < N = c.0 in omega arith) b)) (r.places N (omega arith) reach.0 reach.1)

  -- the seat of c claims the next ticket for the command x
  claimed_at : (id : ℕ) (x : CommandValue) (c : Claimer) → get_elem? s.views id ≡ some (Claims c) → c.pending ≡ None → above c.seen c.own < key.window → c.seen < far
      → RingRule key record { words = set s.words 0 (N + 1); homes = set s.homes (N % length s.homes) none; views = set s.views id (Claims (claimer (c.own ++ (N, x) ∷ []) (Some N) c.seen c.stopped)) }
  claimed_at id x c at waits room near_by = let n : ℕ = length s.homes in let c' : Claimer = claimer (c.own ++ (N, x) ∷ []) (Some N) c.seen c.stopped in let words' : List ℕ = set s.words 0 (N + 1) in let homes' : Homes B = set s.homes (N % n) none in let log' : List CommandValue = r.log ++ x ∷ [] in
      let ok : ClaimerOk key.base key.window r.owner.published r.owner.stopped T r.log c = r.each_view id (Claims c) at in let lt : N < r.owner.published + n = nearer key s r id c at room in let tw : length r.owner.taken ≤ length r.log = taken_within key s r in
      let reach = in_reach N lt in let high : N < T + n = reach.0 in let low : T ≤ N = omega arith in let pos : 0 < n = omega arith in let at_n : N % n < n = mod-lt N pos in let w : length s.words ≡ n + 3 = r.wide in
      let one : length log' ≡ length r.log + 1 = length-append r.log (x ∷ []) in let more : Longer r.log log' = λ j a e. at_longer r.log (x ∷ []) j a e in
      let ps : ℕ → ℕ = λ u. sum_of (pends_of u) s.views in let ps' : ℕ → ℕ = λ u. sum_of (pends_of u) (set s.views id (Claims c')) in
      let mine : (u : ℕ) → ps' u ≡ ps u + pends u (Some N) = λ u. let q : ps' u + pends u c.pending ≡ ps u + pends u (Some N) = sum_set (pends_of u) s.views id (Claims c) (Claims c') at in let z : pends u c.pending ≡ 0 = ap (pends u) waits in omega arith in
      claimer_moves key s r id c c' words' homes' log' at (length-set s.words 0 (N + 1)) (length-set s.homes (N % n) none)
      (get_or-set_same s.words 0 (N + 1) 0 (omega arith) ∙ (omega arith)) (get_or-set_other s.words 0 1 (N + 1) 0 (λ x. omega arith)) (get_or-set_other s.words 0 2 (N + 1) 0 (λ x. omega arith))
      more (r.prefix.0 ++ x ∷ [], ap (λ l. l ++ x ∷ []) r.prefix.1 ∙ append_assoc r.owner.taken r.prefix.0 (x ∷ []))
      (λ i l. let q : sum_of (times_of (key.base + i)) (set s.views id (Claims c')) + times (key.base + i) c.own ≡ sum_of (times_of (key.base + i)) s.views + times (key.base + i) (c.own ++ (N, x) ∷ []) = sum_set (times_of (key.base + i)) s.views id (Claims c) (Claims c') at in
      let p : times (key.base + i) (c.own ++ (N, x) ∷ []) ≡ times (key.base + i) c.own + same (key.base + i) N = sum_snoc (λ (z : Pair). same (key.base + i) z.0) c.own (N, x) in
      ⊎_elim (λ (e : key.base + i ≡ N). let z : sum_of (times_of (key.base + i)) s.views ≡ 0 = none_above (key.base + i) (omega arith) in omega (arith, same_is (key.base + i) N e))
      (λ ne. let z : sum_of (times_of (key.base + i)) s.views ≡ 1 = r.once i (omega arith) in omega (arith, same_not (key.base + i) N ne)) (cases_eq (key.base + i) N))
      record {
        pairs = λ k p e. ⊎_elim (λ (old : get_elem? c.own k ≡ some p). let q = ok.pairs k p old in (q.0, q.1, more q.0 p.1 q.2))
            (λ (new : (N, x) ≡ p). subst (λ (z : Pair). (i : ℕ) × (z.0 ≡ key.base + i) × (get_elem? log' i ≡ some z.1)) new (length r.log, refl, at_last r.log x (length r.log) refl)) (at_snoc c.own (N, x) p k e);
        rising = rising_snoc key.base c.own (N, x) ok.rising (λ k q e. let z = ok.pairs k q e in let lt : z.0 < length r.log = get_below r.log z.0 q.1 z.2 in let is : q.0 ≡ key.base + z.0 = z.1 in omega arith) (omega arith);
        window_kept = omega (arith, sum_snoc (λ (z : Pair). from c.seen z.0) c.own (N, x), from_one c.seen N);
        seen_low = ok.seen_low;
        stop_seen = ok.stop_seen;
        few_far = omega (arith, sum_snoc (λ (z : Pair). from far z.0) c.own (N, x), from_one far N, above_mono c.seen far c.own (omega arith));
        pending_own = λ t e. subst (λ z. (1 ≤ times z (c.own ++ (N, x) ∷ [])) × (T ≤ z)) (number_injective N t e) (omega (arith, sum_snoc (λ (z : Pair). same N z.0) c.own (N, x), same_is N N refl), low);
      }
      (λ u a b h. ⊎_elim
      (λ (y : u ≡ N). let nobody : ps N ≡ 0 = omega (arith, waits_le N, none_above N (omega arith)) in
      subst (λ z. Stands n words' homes' key.base log' (ps' z) z) (sym y) (inr (inl (
        omega arith,
        (let m = mine N in let z : pends N (Some N) ≡ 1 = same_is N N refl in omega arith),
        get_or-set_other s.words 0 (N % n + 3) (N + 1) 0 (λ q. omega arith) ∙ free_face lt,
        set_here s.homes (N % n) none at_n,
      ))))
      (λ ne. let other : u % n ≢ N % n = apart T n u N a b low high ne in stands_still n key.base s.words words' s.homes homes' r.log log' (ps u) (ps' u) u (get_or-set_other s.words 0 (u % n + 3) (N + 1) 0 (λ q. omega arith))
      (set_else s.homes (N % n) (u % n) none other) more (omega arith) (λ q. omega arith) (let m = mine u in let z : pends u (Some N) ≡ 0 = same_not u N ne in omega arith) (r.places u a b h))
      (cases_eq u N))
      (λ u b held le is. let other : u % n ≢ N % n = apart u n u N (omega arith) (omega arith) (omega arith) (reach.2 u b held) (λ q. omega arith) in
      (get_or-set_other s.words 0 (u % n + 3) (N + 1) 0 (λ q. omega arith) ∙ is.0, set_else s.homes (N % n) (u % n) none other ∙ is.1))

module _ {B : Type 0} (key : Limits) where
  pub claims : (n id : ℕ) (said : Option CommandValue) (x : CommandValue) (me : Sat B) → said ≡ Some x → MayClaim key.window me.0 → Allows (RingRule key) n id me 0 (λ y. (y + 1) % 18446744073709551616) (claimed_for said (step n 0 1 0 none) me)
  claims n id said x me told may s r wide at _ = let c : Claimer = may.0 in let m : ℕ = length s.homes in let y : ℕ = get_or s.words 0 0 in let is : y ≡ key.base + length r.log = r.tail_is in let at' : get_elem? s.views id ≡ some (Claims c) = at ∙ ap some may.1 in
      let near_by : key.base + length r.log < r.owner.published + m = nearer key s r id c at' may.3 in let high = tail_low key s r in let ok : ClaimerOk key.base key.window r.owner.published r.owner.stopped (key.base + length r.owner.taken) r.log c = r.each_view id (Claims c) at' in
      let seen_low : c.seen ≤ y = omega (arith, ok.seen_low, r.published_low, taken_within key s r, is) in
      let last : IsLast y c.own = λ k p e. let q = ok.pairs k p e in let lt : q.0 < length r.log = get_below r.log q.0 p.1 q.2 in let eq : p.0 ≡ key.base + q.0 = q.1 in omega arith in
      let next : (y + 1) % 18446744073709551616 ≡ key.base + length r.log + 1 = mod-eq_of_lt (omega arith) ∙ (omega arith) in
      subst (λ (z : ℕ). Goes key s 0 id me (claimed_for said (step z 0 1 0 none) me) ((y + 1) % 18446744073709551616)) wide (
        Claims (claimer (c.own ++ (y, x) ∷ []) (Some y) c.seen c.stopped),
        takes (y % m) None,
        subst (λ z. get_elem? s.homes (z % m) ≡ some (some None)) (sym is) (next_free key s r near_by),
        subst (λ z. RingRule key record { words = set s.words 0 z; homes = set s.homes (y % m) none; views = set s.views id (Claims (claimer (c.own ++ (y, x) ∷ []) (Some y) c.seen c.stopped)) }) (sym next)
            (subst (λ z. RingRule key record { words = set s.words 0 (key.base + length r.log + 1); homes = set s.homes (z % m) none; views = set s.views id (Claims (claimer (c.own ++ (z, x) ∷ []) (Some z) c.seen c.stopped)) }) (sym is)
            (claimed_at key s r id x c at' may.2 may.3 may.4)),
        λ x' told'. let xx : x ≡ x' = command_injective x x' (sym told ∙ told') in (
          refl,
          omega arith,
          λ d dd. let cd : c ≡ d = claims_injective c d (sym may.1 ∙ dd) in (
            (λ i. Claims (claimer ((cd i).own ++ (y, xx i) ∷ []) (Some y) (cd i).seen (cd i).stopped)),
            subst (λ (z : Claimer). z.seen ≤ y) cd seen_low,
            subst (λ (z : Claimer). IsLast y z.own) cd last,
          ),
        ),
      )

  pub readies : (n id : ℕ) (me : Sat B) (k new t : ℕ) (c : Claimer) (own : List Pair) (e : EntryValue B) (more : List (ℕ × Option (EntryValue B))) → k ≡ t % n + 3 → new ≡ ready_at t → me.0 ≡ Claims c → c.pending ≡ Some t → c.own ≡ own ++ (t, e.command) ∷ [] → me.1 ≡ (t % n, Some e) ∷ more
      → Allows (RingRule key) n id me k (λ _. new) (λ _. readied (step n k new 0 none) me new)
  readies n id me k new t c own e more k_is new_is is waits last has s r wide at _ = let at' : get_elem? s.views id ≡ some (Claims c) = at ∙ ap some is in let m : ℕ = length s.homes in
      let ok : ClaimerOk key.base key.window r.owner.published r.owner.stopped (key.base + length r.owner.taken) r.log c = r.each_view id (Claims c) at' in
      let said : (i : ℕ) × (t ≡ key.base + i) × (get_elem? r.log i ≡ some e.command) = ok.pairs (length own) (t, e.command) (ap (λ (l : List Pair). get_elem? l (length own)) last ∙ at_last own (t, e.command) (length own) refl) in
      let w : View = Claims (claimer c.own None c.seen c.stopped) in
      subst (λ (z : ℕ). k ≡ t % z + 3 → me.1 ≡ (t % z, Some e) ∷ more → Goes key s k id me (λ _. readied (step z k new 0 none) me new) new) wide (λ k_is' has'.
      subst (λ (cs : List (ℕ × Option (EntryValue B))). Goes key s k id (me.0, cs) (λ _. readied (step m k new 0 none) (me.0, cs) new) new) (sym has') (
        w,
        gives,
        tt,
        subst (λ (z : ℕ × ℕ). RingRule key record { words = set s.words z.0 z.1; homes = set s.homes (t % m) (some (Some e)); views = set s.views id w }) (λ i. (sym k_is' i, sym new_is i)) (readied_at key s r id t c e at' waits said),
        (refl, λ d dd. let cd : c ≡ d = claims_injective c d (sym is ∙ dd) in ap (λ (z : Claimer). Claims (claimer z.own None z.seen z.stopped)) cd),
      )) k_is has
