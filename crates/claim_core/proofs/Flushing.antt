-- The steps of the owner keep the rule.
use Rattle.std.proofs.Common.{◌≡◌, ℕ, ◌+◌, ◌*◌, ◌%◌, ◌<◌, ◌≤◌, ◌≢◌, Bool, true, false, eqb, List, [], ◌∷◌, ◌++◌, length, get_or, set, sym, refl, ap, ◌∙◌, subst, inl, ⊎_elim, arith, length-append, length-set, get_or-set_other, get_or-set_same, mod-lt, le_trans}
use Rattle.std.proofs.lemmas.Bool.{cases_eq, both_ways, false≢true}
use mathlib.Core.Option.{some, none, some-injective, some-ne-none}
use native.Mathlib.Nat.{add-mod_right}
use prog.Atomic.{either}
use lib.ListN.{get_elem?}
use lib.Seq.{set-get_or}
use Rattle.std.specs.Prelude.{Option, Some, None}
use Rattle.atomic_table.specs.Table.{step, keeps, takes, gives, Allows}
use Rattle.atomic_table.proofs.Lists.{at_set, set_here, set_else, set_again, exchanged}
use Rattle.command_core.specs.Commands.{CommandValue}
use Rattle.command_core.specs.Entries.{EntryValue}
use Rattle.claim_core.specs.declared.views.Limits.{Limits}
use Rattle.claim_core.specs.declared.views.Owner.{Owner}
use Rattle.claim_core.specs.declared.views.View.{View}
use Rattle.claim_core.specs.declared.views.View.TheVariants.{Owns, Claims, Spent}
use Rattle.claim_core.specs.Counts.{sum_of, times_of, pends_of, heads}
use Rattle.claim_core.specs.Places.{free_for, ready_at, taken_at}
use Rattle.claim_core.specs.Rule.{far, stop_word, Fits, Stands, IsHeld, RingRule}
use Rattle.claim_core.specs.Steps.{owning, next_of, Sat, took, freed, raised, stopped}
use Rattle.claim_core.proofs.Sums.{sum_set, sum_at}
use Rattle.claim_core.proofs.Moves.{Homes, apart, get_below, stands_still, fits_longer}
use Rattle.claim_core.proofs.Near.{near, tail_low, taken_within}
use Rattle.claim_core.proofs.Claiming.{St, Goes}

abbrev owner_in : Owner → View → Owner
owner_in d (Owns o) = o
owner_in d (Claims c) = d
owner_in d Spent = d

pub owns_injective : (o p : Owner) → Owns o ≡ Owns p → o ≡ p
owns_injective o p e = ap (owner_in o) e

-- a list goes on behind a beginning with the item that stands there
pub goes_on : (xs ys : List CommandValue) (x : CommandValue) → get_elem? (xs ++ ys) (length xs) ≡ some x → (zs : List CommandValue) × (xs ++ ys ≡ (xs ++ x ∷ []) ++ zs)
goes_on [] [] x e = absurd (some-ne-none x (sym e))
goes_on [] (y ∷ ys) x e = (ys, ap (λ z. z ∷ ys) (some-injective y x e))
goes_on (w ∷ xs) ys x e = let q = goes_on xs ys x e in (q.0, ap (λ l. w ∷ l) q.1)

module _ {B : Type 0} (key : Limits) (s : St B) (r : RingRule key s) where
  abbrev T : ℕ
  T = key.base + length r.owner.taken

  abbrev N : ℕ
  N = key.base + length r.log

  -- whoever has an owner's view is the owner
  pub is_owner : (id : ℕ) (o : Owner) → get_elem? s.views id ≡ some (Owns o) → (id ≡ 0) × (o ≡ r.owner)
  is_owner id o at = let fit = r.each_view id (Owns o) at in let z : id ≡ 0 = fit.0 in (z, owns_injective o r.owner (some-injective (Owns o) (Owns r.owner) (sym at ∙ (ap (get_elem? s.views) z ∙ r.at_owner))))

  -- a step of the owner
  pub owner_moves : (words' : List ℕ) (homes' : Homes B) (taken' : List CommandValue) (held' : Bool) (published' : ℕ) (stopped' : Bool) → length words' ≡ length s.words → length homes' ≡ length s.homes
      → get_or words' 0 0 ≡ get_or s.words 0 0 → get_or words' 1 0 ≡ published' → get_or words' 2 0 ≡ stop_word stopped' → (r.owner.stopped ≡ true → stopped' ≡ true) → r.owner.published ≤ published' → published' ≤ key.base + length taken' → T ≤ key.base + length taken' → ((rest : List CommandValue) × (r.log ≡ taken' ++ rest))
      → ((t : ℕ) → 1 ≤ sum_of (pends_of t) s.views → T ≤ t → key.base + length taken' ≤ t)
      → ((t : ℕ) → key.base + length taken' ≤ t → t < key.base + length taken' + length s.homes → (held' ≡ true → t + 1 ≢ key.base + length taken' + length s.homes) → Stands (length s.homes) words' homes' key.base r.log (sum_of (pends_of t) s.views) t)
      → (held' ≡ true → (t : ℕ) × (t + 1 ≡ key.base + length taken') × (published' ≤ t) × IsHeld (length s.homes) words' homes' t)
      → RingRule key record { words = words'; homes = homes'; views = set s.views 0 (Owns (owning r.owner.base taken' held' published' stopped' r.owner.count r.owner.joined)) }
  owner_moves words' homes' taken' held' published' stopped' same_words same_homes tail mark stop still up low on prefix later places held =
      let o' : Owner = owning r.owner.base taken' held' published' stopped' r.owner.count r.owner.joined in let T' : ℕ = key.base + length taken' in let at = r.at_owner in
      let quiet : (f : View → ℕ) → f (Owns o') ≡ f (Owns r.owner) → sum_of f (set s.views 0 (Owns o')) ≡ sum_of f s.views = λ f e. omega (arith, sum_set f s.views 0 (Owns r.owner) (Owns o') at, e) in
      let moved : (j : ℕ) (v : View) → get_elem? s.views j ≡ some v → Fits key.base key.window published' stopped' T' r.log j v = λ j v e.
      fits_longer key.base key.window r.owner.published T published' T' r.owner.stopped stopped' r.log r.log j v up still (λ i x q. q) (λ t one le. later t (omega (arith, sum_at (pends_of t) s.views j v e)) le) (r.each_view j v e) in
      record {
        log = r.log;
        owner = o';
        base_low = r.base_low;
        roomy = subst (λ z. key.seats * key.window ≤ z) (sym same_homes) r.roomy;
        some_place = subst (λ z. 0 < z) (sym same_homes) r.some_place;
        small = subst (λ z. z ≤ 4096) (sym same_homes) r.small;
        wide = same_words ∙ (r.wide ∙ ap (λ z. z + 3) (sym same_homes));
        tail_is = tail ∙ r.tail_is;
        mark_is = mark;
        stop_is = stop;
        at_owner = set_here s.views 0 (Owns o') (get_below s.views 0 (Owns r.owner) at);
        base_is = r.base_is;
        low = le_trans r.low up;
        published_low = low;
        prefix = prefix;
        counted = quiet heads refl ∙ r.counted;
        few = r.few;
        once = λ i l. quiet (times_of (key.base + i)) refl ∙ r.once i l;
        each_view = λ j v e. ⊎_elim (λ (x : (j ≡ 0) × (Owns o' ≡ v)). subst (Fits key.base key.window published' stopped' T' r.log j) x.1 (x.0, (moved 0 (Owns r.owner) at).1))
            (λ (x : (j ≢ 0) × (get_elem? s.views j ≡ some v)). moved j v x.1) (at_set s.views 0 j (Owns o') v e);
        places = subst (λ (m : ℕ). (t : ℕ) → T' ≤ t → t < T' + m → (held' ≡ true → t + 1 ≢ T' + m) → Stands m words' homes' key.base r.log (sum_of (pends_of t) (set s.views 0 (Owns o'))) t) (sym same_homes)
            (λ t a b h. subst (λ p. Stands (length s.homes) words' homes' key.base r.log p t) (sym (quiet (pends_of t) refl)) (places t a b h));
        held = subst (λ (m : ℕ). held' ≡ true → (t : ℕ) × (t + 1 ≡ T') × (published' ≤ t) × IsHeld m words' homes' t) (sym same_homes) held;
      }

  -- the place of the next ticket is ready, and the flusher takes it
  abbrev Takes : EntryValue B → Type 0
  Takes e = (get_elem? s.homes (T % length s.homes) ≡ some (some (Some e)))
      × RingRule key record { words = set s.words (T % length s.homes + 3) (taken_at T); homes = set s.homes (T % length s.homes) none; views = set s.views 0 (Owns (owning r.owner.base (r.owner.taken ++ e.command ∷ []) true r.owner.published r.owner.stopped r.owner.count r.owner.joined)) }

  takes_at : r.owner.held ≡ false → get_or s.words (T % length s.homes + 3) 0 ≡ ready_at T → (e : EntryValue B) × Takes e
  takes_at idle hit = let n : ℕ = length s.homes in let pos : 0 < n = r.some_place in let tn : T % n < n = mod-lt T pos in let w : length s.words ≡ n + 3 = r.wide in let no_hold : r.owner.held ≡ true → ⊥ = λ h. both_ways r.owner.held idle h in
      ⊎_elim (λ (a : (N ≤ T) × (get_or s.words (T % n + 3) 0 ≡ free_for T) × (get_elem? s.homes (T % n) ≡ some (some None))). let l = a.1 in absurd (omega arith))
      (λ z. ⊎_elim (λ (b : (T < N) × (sum_of (pends_of T) s.views ≡ 1) × (get_or s.words (T % n + 3) 0 ≡ free_for T) × (get_elem? s.homes (T % n) ≡ some none)). let l = b.2 in absurd (omega arith))
      (λ c. let e : EntryValue B = c.3.0 in let i : ℕ = c.3.1 in let ti : T ≡ key.base + i = c.3.3 in let x : CommandValue = e.command in let o = r.owner in let nobody : sum_of (pends_of T) s.views ≡ 0 = c.1 in
      let it : get_elem? r.log (length o.taken) ≡ some x = subst (λ j. get_elem? r.log j ≡ some x) (let g : i ≡ length o.taken = omega arith in g) c.3.4 in
      let on = goes_on o.taken r.prefix.0 x (ap (λ (l : List CommandValue). get_elem? l (length o.taken)) (sym r.prefix.1) ∙ it) in let taken' : List CommandValue = o.taken ++ x ∷ [] in let longer : length taken' ≡ length o.taken + 1 = length-append o.taken (x ∷ []) in
      let k : ℕ = T % n + 3 in let words' : List ℕ = set s.words k (taken_at T) in let homes' : Homes B = set s.homes (T % n) none in let pl : o.published ≤ T = r.published_low in (
        e,
        (
          c.3.2,
          owner_moves words' homes' taken' true o.published o.stopped (length-set s.words k (taken_at T)) (length-set s.homes (T % n) none) (get_or-set_other s.words k 0 (taken_at T) 0 (λ q. omega arith)) (get_or-set_other s.words k 1 (taken_at T) 0 (λ q. omega arith) ∙ r.mark_is)
              (get_or-set_other s.words k 2 (taken_at T) 0 (λ q. omega arith) ∙ r.stop_is) (λ q. q) (omega arith) (omega arith) (omega arith) (on.0, r.prefix.1 ∙ on.1)
              (λ t one le. ⊎_elim (λ (y : t ≡ T). let z : sum_of (pends_of t) s.views ≡ 0 = subst (λ u. sum_of (pends_of u) s.views ≡ 0) (sym y) nobody in absurd (omega arith)) (λ ne. omega arith) (cases_eq t T))
              (λ t a b h. let ne : t ≢ T = λ q. omega arith in let last : t + 1 ≢ key.base + length taken' + n = h refl in let high : t < T + n = omega arith in let other : t % n ≢ T % n = apart T n t T (omega arith) high (omega arith) (omega arith) ne in
              stands_still n key.base s.words words' s.homes homes' r.log r.log (sum_of (pends_of t) s.views) (sum_of (pends_of t) s.views) t (get_or-set_other s.words k (t % n + 3) (taken_at T) 0 (λ q. other (omega arith))) (set_else s.homes (T % n) (t % n) none other)
              (λ j y q. q) (omega arith) (λ q. q) refl (r.places t (omega arith) high (λ h'. absurd (no_hold h'))))
              (λ _. (T, omega arith, pl, (get_or-set_same s.words k (taken_at T) 0 (omega arith), set_here s.homes (T % n) none tn))),
        ),
      )) z) (r.places T (omega arith) (omega arith) (λ h. absurd (no_hold h)))

  -- the place of the ticket t, taken last, is freed for the next round
  frees_at : (t : ℕ) → r.owner.held ≡ true → t + 1 ≡ T
      → RingRule key record { words = set s.words (t % length s.homes + 3) (free_for (t + length s.homes)); homes = set s.homes (t % length s.homes) (some None); views = set s.views 0 (Owns (owning r.owner.base r.owner.taken false r.owner.published r.owner.stopped r.owner.count r.owner.joined)) }
  frees_at t held is = let n : ℕ = length s.homes in let pos : 0 < n = r.some_place in let tn : t % n < n = mod-lt t pos in let w : length s.words ≡ n + 3 = r.wide in let h = r.held held in let pt : r.owner.published ≤ t = (let a : h.0 + 1 ≡ T = h.1 in let b : r.owner.published ≤ h.0 = h.2 in omega arith) in
      let k : ℕ = t % n + 3 in let y : ℕ = free_for (t + n) in let words' : List ℕ = set s.words k y in let homes' : Homes B = set s.homes (t % n) (some None) in let o = r.owner in let turn : (t + n) % n ≡ t % n = add-mod_right t n in let nr : N ≤ o.published + n = near key s r in
      owner_moves words' homes' o.taken false o.published o.stopped (length-set s.words k y) (length-set s.homes (t % n) (some None)) (get_or-set_other s.words k 0 y 0 (λ q. omega arith)) (get_or-set_other s.words k 1 y 0 (λ q. omega arith) ∙ r.mark_is)
      (get_or-set_other s.words k 2 y 0 (λ q. omega arith) ∙ r.stop_is) (λ q. q) (omega arith) r.published_low (omega arith) r.prefix (λ u one le. le)
      (λ u a b _. ⊎_elim
      (λ (q : u ≡ t + n). inl (omega arith, subst (λ z. get_or words' (z % n + 3) 0 ≡ free_for z) (sym q) (ap (λ z. get_or words' (z + 3) 0) turn ∙ get_or-set_same s.words k y 0 (omega arith)), subst (λ z. get_elem? homes' (z % n) ≡ some (some None)) (sym q) (ap (get_elem? homes') turn ∙ set_here s.homes (t % n) (some None) tn)))
      (λ ne. let other' : u % n ≢ (t + n) % n = apart T n u (t + n) a b (omega arith) (omega arith) ne in let other : u % n ≢ t % n = λ q. other' (q ∙ sym turn) in
      stands_still n key.base s.words words' s.homes homes' r.log r.log (sum_of (pends_of u) s.views) (sum_of (pends_of u) s.views) u (get_or-set_other s.words k (u % n + 3) y 0 (λ q. other (omega arith))) (set_else s.homes (t % n) (u % n) (some None) other)
      (λ j z q. q) (omega arith) (λ q. q) refl (r.places u a b (λ _ q. ne (omega arith))))
      (cases_eq u (t + n)))
      (λ h'. absurd (false≢true h'))

  -- the mark, or the stop word, is stored
  sets_at : (k x m : ℕ) (stopped' : Bool) → k < 3 → r.owner.held ≡ false → get_or (set s.words k x) 0 0 ≡ get_or s.words 0 0 → get_or (set s.words k x) 1 0 ≡ m → get_or (set s.words k x) 2 0 ≡ stop_word stopped' → (r.owner.stopped ≡ true → stopped' ≡ true) → r.owner.published ≤ m → m ≤ T
      → RingRule key record { words = set s.words k x; homes = s.homes; views = set s.views 0 (Owns (owning r.owner.base r.owner.taken r.owner.held m stopped' r.owner.count r.owner.joined)) }
  sets_at k x m stopped' lt idle tail mark stop still up top = owner_moves (set s.words k x) s.homes r.owner.taken r.owner.held m stopped' (length-set s.words k x) refl tail mark stop still up top (omega arith) r.prefix (λ t one le. le)
      (λ t a b h. stands_still (length s.homes) key.base s.words (set s.words k x) s.homes s.homes r.log r.log (sum_of (pends_of t) s.views) (sum_of (pends_of t) s.views) t (get_or-set_other s.words k (t % length s.homes + 3) x 0 (λ q. omega arith)) refl (λ j y q. q) (omega arith) (λ q. q) refl (r.places t a b h))
      (λ h. absurd (both_ways r.owner.held idle h))

module _ {B : Type 0} (key : Limits) where
  pub holds : (n id : ℕ) (me : Sat B) (k ticket : ℕ) (o : Owner) → k ≡ ticket % n + 3 → me.0 ≡ Owns o → o.held ≡ false → ticket ≡ next_of o
      → Allows (RingRule key) n id me k (λ y. either (eqb y (ready_at ticket)) (taken_at ticket) y) (took (step n k (ready_at ticket) (taken_at ticket) none) me)
  holds n id me k ticket o k_is is idle t_is s r wide at _ = let at' : get_elem? s.views id ≡ some (Owns o) = at ∙ ap some is in let who = is_owner key s r id o at' in let m : ℕ = length s.homes in let t : ℕ = key.base + length r.owner.taken in
      let next : next_of o ≡ t = ap next_of who.1 ∙ ap (λ z. z + length r.owner.taken) r.base_is in let tt' : ticket ≡ t = t_is ∙ next in
      subst (λ (z : ℕ). k ≡ ticket % z + 3 → Goes key s k id me (took (step z k (ready_at ticket) (taken_at ticket) none) me) (either (eqb (get_or s.words k 0) (ready_at ticket)) (taken_at ticket) (get_or s.words k 0))) wide (λ k_is'.
      let y : ℕ = get_or s.words k 0 in let told : ℕ → Sat B → Type 0 = took (step m k (ready_at ticket) (taken_at ticket) none) me in let kt : k ≡ t % m + 3 = k_is' ∙ ap (λ z. z % m + 3) tt' in
      exchanged y (ready_at ticket) (taken_at ticket) (Goes key s k id me told)
      (λ hit. let got = takes_at key s r (ap (λ (z : Owner). z.held) (sym who.1) ∙ idle) (ap (λ z. get_or s.words z 0) (sym kt) ∙ (hit ∙ ap ready_at tt')) in let e : EntryValue B = got.0 in (
        Owns (owning o.base (o.taken ++ e.command ∷ []) true o.published o.stopped o.count o.joined),
        takes (next_of o % m) (Some e),
        ap (λ z. get_elem? s.homes (z % m)) next ∙ got.1.0,
        subst (λ (z : ℕ × ℕ × ℕ × ℕ × Owner). RingRule key record { words = set s.words z.0 z.1; homes = set s.homes (z.2 % m) none; views = set s.views z.3 (Owns (owning z.4.base (z.4.taken ++ e.command ∷ []) true z.4.published z.4.stopped z.4.count z.4.joined)) })
            (λ i. (sym kt i, taken_at (sym tt' i), sym next i, sym who.0 i, sym who.1 i)) got.1.1,
        ((λ miss. absurd (miss hit)), λ _ p same. let op : o ≡ p = owns_injective o p (sym is ∙ same) in (e, ap (λ (z : Owner). (next_of z % m, Some e) ∷ me.1) op, ap (λ (z : Owner). Owns (owning z.base (z.taken ++ e.command ∷ []) true z.published z.stopped z.count z.joined)) op, subst (λ (z : Owner). next_of z < 4 * far) op (omega (arith, tail_low key s r, taken_within key s r, next)))),
      ))
      (λ miss. (
        me.0,
        keeps,
        tt,
        subst (λ (ws : List ℕ). RingRule key record { words = ws; homes = s.homes; views = set s.views id me.0 }) (sym (set-get_or s.words k 0))
            (subst (λ (vs : List View). RingRule key record { words = s.words; homes = s.homes; views = vs }) (sym (set_again s.views id me.0 at)) r),
        ((λ _. refl), λ hit. absurd (miss hit)),
      ))) k_is

  pub frees : (n id : ℕ) (me : Sat B) (k new t : ℕ) (o : Owner) (more : List (ℕ × Option (EntryValue B))) → k ≡ t % n + 3 → new ≡ free_for (t + n) → me.0 ≡ Owns o → o.held ≡ true → t + 1 ≡ next_of o → me.1 ≡ (t % n, None) ∷ more
      → Allows (RingRule key) n id me k (λ _. new) (λ _. freed (step n k new 0 none) me new)
  frees n id me k new t o more k_is new_is is held t_is has s r wide at _ = let at' : get_elem? s.views id ≡ some (Owns o) = at ∙ ap some is in let who = is_owner key s r id o at' in let m : ℕ = length s.homes in
      let next : next_of o ≡ key.base + length r.owner.taken = ap next_of who.1 ∙ ap (λ z. z + length r.owner.taken) r.base_is in
      subst (λ (z : ℕ). k ≡ t % z + 3 → new ≡ free_for (t + z) → me.1 ≡ (t % z, None) ∷ more → Goes key s k id me (λ _. freed (step z k new 0 none) me new) new) wide (λ k_is' new_is' has'.
      subst (λ (cs : List (ℕ × Option (EntryValue B))). Goes key s k id (me.0, cs) (λ _. freed (step m k new 0 none) (me.0, cs) new) new) (sym has') (
        Owns (owning o.base o.taken false o.published o.stopped o.count o.joined),
        gives,
        tt,
        subst (λ (z : ℕ × ℕ × ℕ × Owner). RingRule key record { words = set s.words z.0 z.1; homes = set s.homes (t % m) (some None); views = set s.views z.2 (Owns (owning z.3.base z.3.taken false z.3.published z.3.stopped z.3.count z.3.joined)) })
            (λ i. (sym k_is' i, sym new_is' i, sym who.0 i, sym who.1 i)) (frees_at key s r t (ap (λ (z : Owner). z.held) (sym who.1) ∙ held) (t_is ∙ next)),
        (refl, λ p same. let op : o ≡ p = owns_injective o p (sym is ∙ same) in ap (λ (z : Owner). Owns (owning z.base z.taken false z.published z.stopped z.count z.joined)) op),
      )) k_is new_is has

  pub raises : (n id : ℕ) (me : Sat B) (m : ℕ) (o : Owner) → me.0 ≡ Owns o → o.held ≡ false → o.published ≤ m → m ≤ next_of o → Allows (RingRule key) n id me 1 (λ _. m) (λ _. raised (step n 1 m 0 none) me m)
  raises n id me m o is idle up top s r wide at _ = let at' : get_elem? s.views id ≡ some (Owns o) = at ∙ ap some is in let who = is_owner key s r id o at' in
      let next : next_of o ≡ key.base + length r.owner.taken = ap next_of who.1 ∙ ap (λ z. z + length r.owner.taken) r.base_is in let w : length s.words ≡ length s.homes + 3 = r.wide in (
        Owns (owning o.base o.taken o.held m o.stopped o.count o.joined),
        keeps,
        tt,
        subst (λ (z : ℕ × Owner). RingRule key record { words = set s.words 1 m; homes = s.homes; views = set s.views z.0 (Owns (owning z.1.base z.1.taken z.1.held m z.1.stopped z.1.count z.1.joined)) }) (λ i. (sym who.0 i, sym who.1 i))
            (sets_at key s r 1 m m r.owner.stopped (omega arith) (ap (λ (z : Owner). z.held) (sym who.1) ∙ idle) (get_or-set_other s.words 1 0 m 0 (λ q. omega arith)) (get_or-set_same s.words 1 m 0 (omega arith))
            (get_or-set_other s.words 1 2 m 0 (λ q. omega arith) ∙ r.stop_is) (λ q. q) (subst (λ (z : Owner). z.published ≤ m) who.1 up) (omega arith)),
        (refl, λ p same. let op : o ≡ p = owns_injective o p (sym is ∙ same) in ap (λ (z : Owner). Owns (owning z.base z.taken z.held m z.stopped z.count z.joined)) op),
      )

  pub stops : (n id : ℕ) (me : Sat B) (o : Owner) → me.0 ≡ Owns o → o.held ≡ false → Allows (RingRule key) n id me 2 (λ _. 1) (λ _. stopped (step n 2 1 0 none) me 1)
  stops n id me o is idle s r wide at _ = let at' : get_elem? s.views id ≡ some (Owns o) = at ∙ ap some is in let who = is_owner key s r id o at' in let w : length s.words ≡ length s.homes + 3 = r.wide in
      let one : get_or (set s.words 2 1) 2 0 ≡ 1 = get_or-set_same s.words 2 1 0 (omega arith) in (
        Owns (owning o.base o.taken o.held o.published true o.count o.joined),
        keeps,
        tt,
        subst (λ (z : ℕ × Owner). RingRule key record { words = set s.words 2 1; homes = s.homes; views = set s.views z.0 (Owns (owning z.1.base z.1.taken z.1.held z.1.published true z.1.count z.1.joined)) }) (λ i. (sym who.0 i, sym who.1 i))
            (sets_at key s r 2 1 r.owner.published true (omega arith) (ap (λ (z : Owner). z.held) (sym who.1) ∙ idle) (get_or-set_other s.words 2 0 1 0 (λ q. omega arith)) (get_or-set_other s.words 2 1 1 0 (λ q. omega arith) ∙ r.mark_is) one (λ _. refl) (omega arith) r.published_low),
        (refl, λ p same. let op : o ≡ p = owns_injective o p (sym is ∙ same) in ap (λ (z : Owner). Owns (owning z.base z.taken z.held z.published true z.count z.joined)) op),
      )
