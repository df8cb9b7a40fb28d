-- The owner deals seats and takes them back.
use Rattle.std.proofs.Common.{◌≡◌, ℕ, suc, ◌+◌, ◌<◌, ◌≤◌, ◌≢◌, List, [], ◌∷◌, ◌++◌, false, length, get_or, set, sym, refl, ap, ◌∙◌, subst, ⊎_elim, arith, length-append}
use Rattle.std.proofs.lemmas.Bool.{false≢true}
use mathlib.Core.Option.{some, none, some-ne-none}
use lib.ListN.{get_elem?}
use lib.Seq.{set-get_or}
use Rattle.std.specs.Prelude.{None}
use Rattle.atomic_table.specs.Table.{step, keeps, Allows, Splits, Joins}
use Rattle.atomic_table.proofs.Lists.{at_set, at_snoc, set_here, set_else, set_again, at_longer}
use Rattle.claim_core.specs.declared.views.Limits.{Limits}
use Rattle.claim_core.specs.declared.views.Claimer.{Claimer}
use Rattle.claim_core.specs.declared.views.Owner.{Owner}
use Rattle.claim_core.specs.declared.views.View.{View}
use Rattle.claim_core.specs.declared.views.View.TheVariants.{Owns, Claims, Spent}
use Rattle.claim_core.specs.Counts.{sum_of, times, pends, times_of, pends_of, heads}
use Rattle.claim_core.specs.Rule.{ClaimerOk, Fits, Stands, RingRule}
use Rattle.claim_core.specs.Steps.{claimer, owning, Sat, Ended, ended, dealt, fresh, joined_to, without_first, first_of, handed_back, came_back, nobody}
use Rattle.claim_core.proofs.Sums.{sum_set, sum_at, sum_le, sum_zero, sum_snoc}
use Rattle.claim_core.proofs.Moves.{none_not_some, get_below}
use Rattle.claim_core.proofs.Claiming.{St}
use Rattle.claim_core.proofs.Flushing.{is_owner, owns_injective}

module _ {B : Type 0} (key : Limits) (s : St B) (r : RingRule key s) where
  abbrev T : ℕ
  T = key.base + length r.owner.taken

  -- a seat is dealt
  deals_at : r.owner.count < key.seats → RingRule key record { words = s.words; homes = s.homes; views = set s.views 0 (dealt (Owns r.owner)) ++ fresh (Owns r.owner) ∷ [] }
  deals_at few = let o : Owner = r.owner in let o' : Owner = owning o.base o.taken o.held o.published o.stopped (o.count + 1) o.joined in let c : Claimer = claimer [] None o.base false in let at = r.at_owner in
      let all : (f : View → ℕ) → f (Owns o') ≡ f (Owns o) → sum_of f (set s.views 0 (Owns o') ++ Claims c ∷ []) ≡ sum_of f s.views + f (Claims c) = λ f e. omega (arith, sum_snoc f (set s.views 0 (Owns o')) (Claims c), sum_set f s.views 0 (Owns o) (Owns o') at, e) in
      record {
        log = r.log;
        owner = o';
        base_low = r.base_low;
        roomy = r.roomy;
        some_place = r.some_place;
        small = r.small;
        wide = r.wide;
        tail_is = r.tail_is;
        mark_is = r.mark_is;
        stop_is = r.stop_is;
        at_owner = at_longer (set s.views 0 (Owns o')) (Claims c ∷ []) 0 (Owns o') (set_here s.views 0 (Owns o') (get_below s.views 0 (Owns o) at));
        base_is = r.base_is;
        low = r.low;
        published_low = r.published_low;
        prefix = r.prefix;
        counted = omega (arith, all heads refl, r.counted);
        few = omega arith;
        once = λ i l. omega (arith, all (times_of (key.base + i)) refl, r.once i l);
        each_view = λ j v e. ⊎_elim
            (λ (old : get_elem? (set s.views 0 (Owns o')) j ≡ some v). ⊎_elim (λ (x : (j ≡ 0) × (Owns o' ≡ v)). subst (Fits key.base key.window o.published o.stopped T r.log j) x.1 (x.0, (r.each_view 0 (Owns o) at).1))
            (λ (x : (j ≢ 0) × (get_elem? s.views j ≡ some v)). r.each_view j v x.1) (at_set s.views 0 j (Owns o') v old))
            (λ (new : Claims c ≡ v). subst (Fits key.base key.window o.published o.stopped T r.log j) new record { pairs = λ k p q. absurd (some-ne-none p (sym q)); rising = tt; window_kept = omega arith; seen_low = omega (arith, r.base_is, r.low); stop_seen = λ q. absurd (false≢true q); few_far = omega arith; pending_own = λ t q. absurd (none_not_some t q) })
            (at_snoc (set s.views 0 (Owns o')) (Claims c) v j e);
        places = λ t a b h. subst (λ p. Stands (length s.homes) s.words s.homes key.base r.log p t) (sym (omega (arith, all (pends_of t) refl))) (r.places t a b h);
        held = r.held;
      }

  -- a seat that knows nothing is split off
  stands_in_at : RingRule key record { words = s.words; homes = s.homes; views = set s.views 0 (Owns r.owner) ++ Spent ∷ [] }
  stands_in_at = let o : Owner = r.owner in let at = r.at_owner in
      let all : (f : View → ℕ) → f Spent ≡ 0 → sum_of f (set s.views 0 (Owns o) ++ Spent ∷ []) ≡ sum_of f s.views = λ f z. omega (arith, sum_snoc f (set s.views 0 (Owns o)) Spent, sum_set f s.views 0 (Owns o) (Owns o) at, z) in
      record {
        log = r.log;
        owner = o;
        base_low = r.base_low;
        roomy = r.roomy;
        some_place = r.some_place;
        small = r.small;
        wide = r.wide;
        tail_is = r.tail_is;
        mark_is = r.mark_is;
        stop_is = r.stop_is;
        at_owner = at_longer (set s.views 0 (Owns o)) (Spent ∷ []) 0 (Owns o) (set_here s.views 0 (Owns o) (get_below s.views 0 (Owns o) at));
        base_is = r.base_is;
        low = r.low;
        published_low = r.published_low;
        prefix = r.prefix;
        counted = all heads refl ∙ r.counted;
        few = r.few;
        once = λ i l. all (times_of (key.base + i)) refl ∙ r.once i l;
        each_view = λ j v e. ⊎_elim
            (λ (old : get_elem? (set s.views 0 (Owns o)) j ≡ some v). ⊎_elim (λ (x : (j ≡ 0) × (Owns o ≡ v)). subst (Fits key.base key.window o.published o.stopped T r.log j) x.1 (subst (λ i. Fits key.base key.window o.published o.stopped T r.log i (Owns o)) (sym x.0) (r.each_view 0 (Owns o) at)))
            (λ (x : (j ≢ 0) × (get_elem? s.views j ≡ some v)). r.each_view j v x.1) (at_set s.views 0 j (Owns o) v old))
            (λ (new : Spent ≡ v). subst (Fits key.base key.window o.published o.stopped T r.log j) new tt)
            (at_snoc (set s.views 0 (Owns o)) Spent v j e);
        places = λ t a b h. subst (λ p. Stands (length s.homes) s.words s.homes key.base r.log p t) (sym (all (pends_of t) refl)) (r.places t a b h);
        held = r.held;
      }

  -- a seat that was taken back is handed out again
  hands_at : (c : Claimer) (cs : List Claimer) → r.owner.joined ≡ c ∷ cs → RingRule key record { words = s.words; homes = s.homes; views = set s.views 0 (handed_back (Owns r.owner)) ++ came_back (Owns r.owner) ∷ [] }
  hands_at c cs is = let o : Owner = r.owner in let o' : Owner = owning o.base o.taken o.held o.published o.stopped o.count cs in let at = r.at_owner in
      let fit : Fits key.base key.window o.published o.stopped T r.log 0 (Owns o) = r.each_view 0 (Owns o) at in
      let fit' : (k : ℕ) (d : Claimer) → get_elem? (c ∷ cs) k ≡ some d → (d.pending ≡ None) × ClaimerOk key.base key.window o.published o.stopped T r.log d = subst (λ (l : List Claimer). (k : ℕ) (d : Claimer) → get_elem? l k ≡ some d → (d.pending ≡ None) × ClaimerOk key.base key.window o.published o.stopped T r.log d) is fit.1 in
      let mine = fit' 0 c refl in
      let all : (f : View → ℕ) → f (Owns o') + f (Claims c) ≡ f (Owns o) → sum_of f (set s.views 0 (Owns o') ++ Claims c ∷ []) ≡ sum_of f s.views = λ f e. omega (arith, sum_snoc f (set s.views 0 (Owns o')) (Claims c), sum_set f s.views 0 (Owns o) (Owns o') at, e) in
      let all_times : (t : ℕ) → sum_of (times_of t) (set s.views 0 (Owns o') ++ Claims c ∷ []) ≡ sum_of (times_of t) s.views = λ t. all (times_of t) (omega (arith, ap (sum_of (λ (d : Claimer). times t d.own)) is)) in
      let all_pends : (t : ℕ) → sum_of (pends_of t) (set s.views 0 (Owns o') ++ Claims c ∷ []) ≡ sum_of (pends_of t) s.views = λ t. all (pends_of t) (omega (arith, ap (pends t) mine.0)) in
      subst (λ (l : List Claimer). RingRule key record { words = s.words; homes = s.homes; views = set s.views 0 (Owns (owning o.base o.taken o.held o.published o.stopped o.count (without_first l))) ++ first_of l ∷ [] }) (sym is)
      record {
        log = r.log;
        owner = o';
        base_low = r.base_low;
        roomy = r.roomy;
        some_place = r.some_place;
        small = r.small;
        wide = r.wide;
        tail_is = r.tail_is;
        mark_is = r.mark_is;
        stop_is = r.stop_is;
        at_owner = at_longer (set s.views 0 (Owns o')) (Claims c ∷ []) 0 (Owns o') (set_here s.views 0 (Owns o') (get_below s.views 0 (Owns o) at));
        base_is = r.base_is;
        low = r.low;
        published_low = r.published_low;
        prefix = r.prefix;
        counted = all heads (omega (arith, ap length is)) ∙ r.counted;
        few = r.few;
        once = λ i l. all_times (key.base + i) ∙ r.once i l;
        each_view = λ j v e. ⊎_elim
            (λ (old : get_elem? (set s.views 0 (Owns o')) j ≡ some v). ⊎_elim (λ (x : (j ≡ 0) × (Owns o' ≡ v)). subst (Fits key.base key.window o.published o.stopped T r.log j) x.1 (x.0, λ k d q. fit' (suc k) d q))
            (λ (x : (j ≢ 0) × (get_elem? s.views j ≡ some v)). r.each_view j v x.1) (at_set s.views 0 j (Owns o') v old))
            (λ (new : Claims c ≡ v). subst (Fits key.base key.window o.published o.stopped T r.log j) new mine.1)
            (at_snoc (set s.views 0 (Owns o')) (Claims c) v j e);
        places = λ t a b h. subst (λ p. Stands (length s.homes) s.words s.homes key.base r.log p t) (sym (all_pends t)) (r.places t a b h);
        held = r.held;
      }

  -- a seat is taken back
  gathers_at : (other : ℕ) (c : Claimer) → ¬ (other ≡ 0) → get_elem? s.views other ≡ some (Claims c) → c.pending ≡ None
      → RingRule key record { words = s.words; homes = s.homes; views = set (set s.views 0 (joined_to (Owns r.owner) (Claims c))) other Spent }
  gathers_at other c apart_is at' idle = let o : Owner = r.owner in let o' : Owner = owning o.base o.taken o.held o.published o.stopped o.count (o.joined ++ c ∷ []) in let at = r.at_owner in let mid : List View = set s.views 0 (Owns o') in
      let at_mid : get_elem? mid other ≡ some (Claims c) = set_else s.views 0 other (Owns o') apart_is ∙ at' in
      let all : (f : View → ℕ) → f (Owns o') ≡ f (Owns o) + f (Claims c) → f Spent ≡ 0 → sum_of f (set mid other Spent) ≡ sum_of f s.views = λ f e z. omega (arith, sum_set f mid other (Claims c) Spent at_mid, sum_set f s.views 0 (Owns o) (Owns o') at, e, z) in
      let all_times : (t : ℕ) → sum_of (times_of t) (set mid other Spent) ≡ sum_of (times_of t) s.views = λ t. all (times_of t) (sum_snoc (λ (d : Claimer). times t d.own) o.joined c) refl in
      let all_pends : (t : ℕ) → sum_of (pends_of t) (set mid other Spent) ≡ sum_of (pends_of t) s.views = λ t. let z : pends t c.pending ≡ 0 = ap (pends t) idle in all (pends_of t) (omega arith) refl in
      let fit : Fits key.base key.window o.published o.stopped T r.log 0 (Owns o) = r.each_view 0 (Owns o) at in let mine : ClaimerOk key.base key.window o.published o.stopped T r.log c = r.each_view other (Claims c) at' in
      record {
        log = r.log;
        owner = o';
        base_low = r.base_low;
        roomy = r.roomy;
        some_place = r.some_place;
        small = r.small;
        wide = r.wide;
        tail_is = r.tail_is;
        mark_is = r.mark_is;
        stop_is = r.stop_is;
        at_owner = set_else mid other 0 Spent (λ z. apart_is (sym z)) ∙ set_here s.views 0 (Owns o') (get_below s.views 0 (Owns o) at);
        base_is = r.base_is;
        low = r.low;
        published_low = r.published_low;
        prefix = r.prefix;
        counted = all heads (length-append o.joined (c ∷ [])) refl ∙ r.counted;
        few = r.few;
        once = λ i l. all_times (key.base + i) ∙ r.once i l;
        each_view = λ j v e. ⊎_elim (λ (x : (j ≡ other) × (Spent ≡ v)). subst (Fits key.base key.window o.published o.stopped T r.log j) x.1 tt)
            (λ (y : (j ≢ other) × (get_elem? mid j ≡ some v)). ⊎_elim
            (λ (x : (j ≡ 0) × (Owns o' ≡ v)). subst (Fits key.base key.window o.published o.stopped T r.log j) x.1 (
              x.0,
              λ k d q. ⊎_elim (λ (old : get_elem? o.joined k ≡ some d). fit.1 k d old)
                  (λ (new : c ≡ d). subst (λ (z : Claimer). (z.pending ≡ None) × ClaimerOk key.base key.window o.published o.stopped T r.log z) new (idle, mine)) (at_snoc o.joined c d k q),
            ))
            (λ (x : (j ≢ 0) × (get_elem? s.views j ≡ some v)). r.each_view j v x.1) (at_set s.views 0 j (Owns o') v y.1))
            (at_set mid other j Spent v e);
        places = λ t a b h. subst (λ p. Stands (length s.homes) s.words s.homes key.base r.log p t) (sym (all_pends t)) (r.places t a b h);
        held = r.held;
      }

module _ {B : Type 0} (key : Limits) where
  pub deals : (id : ℕ) (v : View) (o : Owner) → v ≡ Owns o → o.count < key.seats → Splits (RingRule {B = B} key) id v (dealt v) (fresh v)
  deals id v o is few s r at = let who = is_owner key s r id o (at ∙ ap some is) in
      subst (λ (z : ℕ × View). RingRule key record { words = s.words; homes = s.homes; views = set s.views z.0 (dealt z.1) ++ fresh z.1 ∷ [] }) (λ i. (sym who.0 i, (sym (is ∙ ap Owns who.1)) i)) (deals_at key s r (subst (λ (z : Owner). z.count < key.seats) who.1 few))

  pub stands_in : (id : ℕ) (v : View) (o : Owner) → v ≡ Owns o → Splits (RingRule {B = B} key) id v v (nobody v)
  stands_in id v o is s r at = let who = is_owner key s r id o (at ∙ ap some is) in
      subst (λ (z : ℕ × View). RingRule key record { words = s.words; homes = s.homes; views = set s.views z.0 z.1 ++ Spent ∷ [] }) (λ i. (sym who.0 i, (sym (is ∙ ap Owns who.1)) i)) (stands_in_at key s r)

  pub hands : (id : ℕ) (v : View) (o : Owner) (c : Claimer) (cs : List Claimer) → v ≡ Owns o → o.joined ≡ c ∷ cs → Splits (RingRule {B = B} key) id v (handed_back v) (came_back v)
  hands id v o c cs is has s r at = let who = is_owner key s r id o (at ∙ ap some is) in
      subst (λ (z : ℕ × View). RingRule key record { words = s.words; homes = s.homes; views = set s.views z.0 (handed_back z.1) ++ came_back z.1 ∷ [] }) (λ i. (sym who.0 i, (sym (is ∙ ap Owns who.1)) i)) (hands_at key s r c cs (sym (ap (λ (z : Owner). z.joined) who.1) ∙ has))

  pub gathers : (id other : ℕ) (v w : View) (o : Owner) (c : Claimer) → v ≡ Owns o → w ≡ Claims c → c.pending ≡ None → Joins (RingRule {B = B} key) id v other w (joined_to v w) Spent
  gathers id other v w o c is isc idle s r at ne at' = let who = is_owner key s r id o (at ∙ ap some is) in
      subst (λ (z : ℕ × View × View). RingRule key record { words = s.words; homes = s.homes; views = set (set s.views z.0 (joined_to z.1 z.2)) other Spent }) (λ i. (sym who.0 i, (sym (is ∙ ap Owns who.1)) i, sym isc i))
      (gathers_at key s r other c (λ z. ne (z ∙ sym who.0)) (sym (set_else s.views id other (joined_to v w) ne) ∙ (at' ∙ ap some isc)) idle)

module _ {B : Type 0} (key : Limits) (s : St B) (r : RingRule key s) where
  -- where every claimer has come back, no other view counts
  alone : (f : View → ℕ) → f Spent ≡ 0 → length r.owner.joined ≡ r.owner.count → sum_of f s.views ≡ f (Owns r.owner)
  alone f none_left all = let o : Owner = r.owner in let others : List View = set s.views 0 Spent in
      let hs : sum_of heads others ≡ 0 = omega (arith, sum_set heads s.views 0 (Owns o) Spent r.at_owner, r.counted, all) in
      let quiet : sum_of f others ≤ sum_of (λ (v : View). 0) others = sum_le f (λ (v : View). 0) others (λ j v e. still j v e (omega (arith, sum_at heads others j v e, hs))) in
      omega (arith, sum_set f s.views 0 (Owns o) Spent r.at_owner, quiet, sum_zero others, none_left)
    where
      still : (j : ℕ) (v : View) → get_elem? (set s.views 0 Spent) j ≡ some v → heads v ≤ 0 → f v ≤ 0
      still j (Owns p) e h = ⊎_elim (λ (x : (j ≡ 0) × (Spent ≡ Owns p)). omega (arith, ap f (sym x.1), none_left)) (λ (x : (j ≢ 0) × (get_elem? s.views j ≡ some (Owns p))). absurd (x.0 (r.each_view j (Owns p) x.1).0)) (at_set s.views 0 j Spent (Owns p) e)
      still j (Claims c) e h = absurd (omega arith)
      still j Spent e h = omega (arith, none_left)

  ends_at : (o : Owner) → o ≡ r.owner → Ended o (get_or s.words 0 0)
  ends_at o is = subst (λ (z : Owner). Ended z (get_or s.words 0 0)) (sym is)
      (subst (λ (b : ℕ). Ended (owning b r.owner.taken r.owner.held r.owner.published r.owner.stopped r.owner.count r.owner.joined) (get_or s.words 0 0)) (sym r.base_is) (
        r.log,
        r.tail_is,
        r.prefix,
        r.low,
        r.published_low,
        (λ all i l. sym (alone (times_of (key.base + i)) refl all) ∙ r.once i l),
        λ k c e. let ok = (r.each_view 0 (Owns r.owner) r.at_owner).1 k c e in (ok.1.rising, ok.1.seen_low, ok.1.stop_seen, ok.1.pairs),
      ))

module _ {B : Type 0} (key : Limits) where
  pub ends : (n id : ℕ) (me : Sat B) (o : Owner) → me.0 ≡ Owns o → Allows (RingRule key) n id me 0 (λ x. x) (ended (step n 0 0 0 none) me)
  ends n id me o is s r wide at _ = let who = is_owner key s r id o (at ∙ ap some is) in (
    me.0,
    keeps,
    tt,
    subst (λ (ws : List ℕ). RingRule key record { words = ws; homes = s.homes; views = set s.views id me.0 }) (sym (set-get_or s.words 0 0))
        (subst (λ (vs : List View). RingRule key record { words = s.words; homes = s.homes; views = vs }) (sym (set_again s.views id me.0 at)) r),
    (refl, λ p q. ends_at key s r p (sym (owns_injective o p (sym is ∙ q)) ∙ who.1)),
  )
