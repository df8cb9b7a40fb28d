-- What stays of the rule when a claimer makes a step.
use Rattle.std.proofs.Common.{◌≡◌, ℕ, zero, suc, ◌+◌, ◌*◌, ◌%◌, ◌<◌, ◌≤◌, ◌≢◌, Bool, true, List, [], ◌∷◌, ◌++◌, length, get_or, set, sym, refl, ap, ◌∙◌, subst, inl, inr, ⊎_elim, arith, le_trans}
use Rattle.std.proofs.lemmas.Bool.{cases_lt}
use mathlib.Core.Option.{some, none, some-injective, some-ne-none}
use mathlib.Core.Option as maybe
use lib.ListN.{get_elem?}
use Rattle.std.specs.Prelude.{Option, Some, None}
use Rattle.atomic_table.specs.Table.{State}
use Rattle.atomic_table.proofs.Lists.{at_set, set_else, one_turn}
use Rattle.command_core.specs.Commands.{CommandValue}
use Rattle.command_core.specs.Entries.{EntryValue}
use Rattle.claim_core.specs.declared.views.Limits.{Limits}
use Rattle.claim_core.specs.declared.views.Claimer.{Claimer}
use Rattle.claim_core.specs.declared.views.Owner.{Owner}
use Rattle.claim_core.specs.declared.views.View.{View}
use Rattle.claim_core.specs.declared.views.View.TheVariants.{Owns, Claims, Spent}
use Rattle.claim_core.specs.Counts.{Pair, sum_of, pends, times_of, pends_of, heads}
use Rattle.claim_core.specs.Rule.{IsRising, ClaimerOk, Fits, Stands, IsHeld, RingRule}
use Rattle.claim_core.proofs.Sums.{sum_set, same_is}

abbrev pub Homes : Type 0 → Type 0
Homes B = List (maybe.Option (Option (EntryValue B)))

abbrev pub Longer : List CommandValue → List CommandValue → Type 0
Longer log log' = (i : ℕ) (x : CommandValue) → get_elem? log i ≡ some x → get_elem? log' i ≡ some x

-- the variants are apart
abbrev IsClaims : View → Type 0
IsClaims (Owns o) = ⊥
IsClaims (Claims c) = Unit {0}
IsClaims Spent = ⊥

pub claims_not_owns : (c : Claimer) (o : Owner) → Claims c ≡ Owns o → ⊥
claims_not_owns c o e = subst IsClaims e tt

abbrev IsNone : Option ℕ → Type 0
IsNone None = Unit {0}
IsNone (Some x) = ⊥

pub none_not_some : (t : ℕ) → None ≡ Some t → ⊥
none_not_some t e = subst IsNone e tt

abbrev claimer_in : Claimer → View → Claimer
claimer_in d (Owns o) = d
claimer_in d (Claims c) = c
claimer_in d Spent = d

pub claims_injective : (c d : Claimer) → Claims c ≡ Claims d → c ≡ d
claims_injective c d e = ap (claimer_in c) e

abbrev number_in : ℕ → Option ℕ → ℕ
number_in d None = d
number_in d (Some x) = x

pub number_injective : (a b : ℕ) → Some a ≡ Some b → a ≡ b
number_injective a b e = ap (number_in a) e

pub self_pends : (t : ℕ) → 1 ≤ pends t (Some t)
self_pends t = omega (arith, same_is t t refl)

pub rising_snoc : (lo : ℕ) (own : List Pair) (p : Pair) → IsRising lo own → ((k : ℕ) (q : Pair) → get_elem? own k ≡ some q → q.0 < p.0) → lo ≤ p.0 → IsRising lo (own ++ p ∷ [])
rising_snoc lo [] p up below le = (le, tt)
rising_snoc lo (q ∷ qs) p up below le = (up.0, rising_snoc (q.0 + 1) qs p up.1 (λ k. below (suc k)) (let b : q.0 < p.0 = below 0 q refl in omega arith))

-- two tickets of one round have places of their own
pub apart : (lo n a b : ℕ) → lo ≤ a → a < lo + n → lo ≤ b → b < lo + n → a ≢ b → a % n ≢ b % n
apart lo n a b la ha lb hb ne e = ⊎_elim (λ (lt : a < b). ne (one_turn a b n (omega arith) (omega arith) e)) (λ (le : b ≤ a). ne (sym (one_turn b a n le (omega arith) (sym e)))) (cases_lt a b)

pub get_below : {A : Type 0} (l : List A) (i : ℕ) (a : A) → get_elem? l i ≡ some a → i < length l
get_below [] i a e = absurd (some-ne-none a (sym e))
get_below (x ∷ xs) zero a e = omega arith
get_below (x ∷ xs) (suc i) a e = omega (arith, get_below xs i a e)

module _ (base window : ℕ) where
  pub ok_longer : (mark next mark' next' : ℕ) (stopped stopped' : Bool) (log log' : List CommandValue) (c : Claimer) → mark ≤ mark' → (stopped ≡ true → stopped' ≡ true) → Longer log log' → ((t : ℕ) → c.pending ≡ Some t → next ≤ t → next' ≤ t)
      → ClaimerOk base window mark stopped next log c → ClaimerOk base window mark' stopped' next' log' c
  ok_longer mark next mark' next' stopped stopped' log log' c le still more later ok = record {
    pairs = λ k p e. let q = ok.pairs k p e in (q.0, q.1, more q.0 p.1 q.2);
    rising = ok.rising;
    window_kept = ok.window_kept;
    seen_low = le_trans ok.seen_low le;
    stop_seen = λ e. still (ok.stop_seen e);
    few_far = ok.few_far;
    pending_own = λ t e. let q = ok.pending_own t e in (q.0, later t e q.1);
  }

  pub fits_longer : (mark next mark' next' : ℕ) (stopped stopped' : Bool) (log log' : List CommandValue) (j : ℕ) (v : View) → mark ≤ mark' → (stopped ≡ true → stopped' ≡ true) → Longer log log' → ((t : ℕ) → 1 ≤ pends_of t v → next ≤ t → next' ≤ t)
      → Fits base window mark stopped next log j v → Fits base window mark' stopped' next' log' j v
  fits_longer mark next mark' next' stopped stopped' log log' j (Owns o) le still more later fit = (fit.0, λ k c e. let q = fit.1 k c e in (q.0, ok_longer mark next mark' next' stopped stopped' log log' c le still more (λ t is. absurd (none_not_some t (sym q.0 ∙ is))) q.1))
  fits_longer mark next mark' next' stopped stopped' log log' j (Claims c) le still more later fit = ok_longer mark next mark' next' stopped stopped' log log' c le still more (λ t is. later t (subst (λ o. 1 ≤ pends t o) (sym is) (self_pends t))) fit
  fits_longer mark next mark' next' stopped stopped' log log' j Spent le still more later fit = tt

module _ {B : Type 0} (n base : ℕ) where
  -- the place of a ticket that a step does not touch
  pub stands_still : (words words' : List ℕ) (homes homes' : Homes B) (log log' : List CommandValue) (p p' t : ℕ) → get_or words' (t % n + 3) 0 ≡ get_or words (t % n + 3) 0 → get_elem? homes' (t % n) ≡ get_elem? homes (t % n)
      → Longer log log' → length log ≤ length log' → (base + length log ≤ t → base + length log' ≤ t) → p' ≡ p → Stands n words homes base log p t → Stands n words' homes' base log' p' t
  stands_still words words' homes homes' log log' p p' t w h more le free e st = ⊎_elim
      (λ a. inl (free a.0, w ∙ a.1, h ∙ a.2))
      (λ b. inr (⊎_elim (λ c. inl (omega (arith, c.0), e ∙ c.1, w ∙ c.2, h ∙ c.3)) (λ c. inr (omega (arith, c.0), e ∙ c.1, w ∙ c.2, (c.3.0, c.3.1, h ∙ c.3.2, c.3.3, more c.3.1 c.3.0.command c.3.4))) b)) st

module _ {B : Type 0} (key : Limits) (s : State (Option (EntryValue B)) View) (r : RingRule key s) where
  abbrev pub next_of : ℕ
  next_of = key.base + length r.owner.taken

  pub not_first : (id : ℕ) (c : Claimer) → get_elem? s.views id ≡ some (Claims c) → 0 ≢ id
  not_first id c at z = claims_not_owns c r.owner (some-injective (Claims c) (Owns r.owner) (sym at ∙ (ap (get_elem? s.views) (sym z) ∙ r.at_owner)))

  -- a step of the claimer c, which becomes c'
  pub claimer_moves : (id : ℕ) (c c' : Claimer) (words' : List ℕ) (homes' : Homes B) (log' : List CommandValue) → get_elem? s.views id ≡ some (Claims c) → length words' ≡ length s.words → length homes' ≡ length s.homes
      → get_or words' 0 0 ≡ key.base + length log' → get_or words' 1 0 ≡ get_or s.words 1 0 → get_or words' 2 0 ≡ get_or s.words 2 0 → Longer r.log log' → ((rest : List CommandValue) × (log' ≡ r.owner.taken ++ rest))
      → ((i : ℕ) → i < length log' → sum_of (times_of (key.base + i)) (set s.views id (Claims c')) ≡ 1) → ClaimerOk key.base key.window r.owner.published r.owner.stopped next_of log' c'
      → ((t : ℕ) → next_of ≤ t → t < next_of + length s.homes → (r.owner.held ≡ true → t + 1 ≢ next_of + length s.homes) → Stands (length s.homes) words' homes' key.base log' (sum_of (pends_of t) (set s.views id (Claims c'))) t)
      → ((t : ℕ) → t + 1 ≡ next_of → r.owner.held ≡ true → r.owner.published ≤ t → IsHeld (length s.homes) s.words s.homes t → IsHeld (length s.homes) words' homes' t)
      → RingRule key record { words = words'; homes = homes'; views = set s.views id (Claims c') }
  claimer_moves id c c' words' homes' log' at same_words same_homes tail mark stop more prefix once ok places held =
      let T : ℕ = next_of in let n : ℕ = length s.homes in let hs : ℕ = sum_of heads s.views in
      record {
        log = log';
        owner = r.owner;
        base_low = r.base_low;
        roomy = subst (λ z. key.seats * key.window ≤ z) (sym same_homes) r.roomy;
        some_place = subst (λ z. 0 < z) (sym same_homes) r.some_place;
        small = subst (λ z. z ≤ 4096) (sym same_homes) r.small;
        wide = same_words ∙ (r.wide ∙ ap (λ z. z + 3) (sym same_homes));
        tail_is = tail;
        mark_is = mark ∙ r.mark_is;
        stop_is = stop ∙ r.stop_is;
        at_owner = set_else s.views id 0 (Claims c') (not_first id c at) ∙ r.at_owner;
        base_is = r.base_is;
        low = r.low;
        published_low = r.published_low;
        prefix = prefix;
        counted = omega (arith, sum_set heads s.views id (Claims c) (Claims c') at, r.counted);
        few = r.few;
        once = once;
        each_view = λ j v e. ⊎_elim (λ (x : (j ≡ id) × (Claims c' ≡ v)). subst (Fits key.base key.window r.owner.published r.owner.stopped T log' j) x.1 ok)
            (λ (x : (j ≢ id) × (get_elem? s.views j ≡ some v)). fits_longer key.base key.window r.owner.published T r.owner.published T r.owner.stopped r.owner.stopped r.log log' j v (omega arith) (λ e. e) more (λ t _ le. le) (r.each_view j v x.1))
            (at_set s.views id j (Claims c') v e);
        places = subst (λ (m : ℕ). (t : ℕ) → T ≤ t → t < T + m → (r.owner.held ≡ true → t + 1 ≢ T + m) → Stands m words' homes' key.base log' (sum_of (pends_of t) (set s.views id (Claims c'))) t) (sym same_homes) places;
        held = λ is. let h = r.held is in (h.0, h.1, h.2, subst (λ (m : ℕ). IsHeld m words' homes' h.0) (sym same_homes) (held h.0 h.1 is h.2 h.3));
      }

  pub same_sum : (f : View → ℕ) (id : ℕ) (v w : View) → get_elem? s.views id ≡ some v → f w ≡ f v → sum_of f (set s.views id w) ≡ sum_of f s.views
  same_sum f id v w at e = omega (arith, sum_set f s.views id v w at, e)
