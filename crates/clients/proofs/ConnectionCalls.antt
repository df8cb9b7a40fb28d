-- How a connection lives through the calls of its desk.
use Rattle.std.proofs.Common.{◌≡◌, ℕ, List, [], ◌∷◌, ◌++◌, Option, Some, None, length, sym, ap, ◌∙◌, subst, inl, inr, append_assoc, append-nil}
use Rattle.std.specs.Prelude.{◌==◌, cond, option_map, slice_get}
use Rattle.std.proofs.lemmas.Bool.{cases_eq, cases_lt}
use Rattle.std.proofs.lemmas.List.{get_or_past}
use Rattle.std.proofs.lemmas.Option.{get_or_from_slice_get, slice_get-get_or}
use Rattle.clients.specs.Connections.{evicted}
use Rattle.clients.specs.declared.desk.Seated.{Seated}
use Rattle.clients.specs.Chains.{AreTaken, Calls, Chain, Lived, deeds_at, deeds_of, last_of}
use Rattle.clients.specs.Effects.{Effect}
use Rattle.clients.specs.Desks.{Admits, DeskValue, SitsAt, seated_at}
use Rattle.clients.specs.Histories.{Heeds}
use Rattle.clients.specs.Places.{ChangedAt}
use Rattle.clients.proofs.EvictedConnection.{evicts}
use Rattle.clients.proofs.ClientProgress.{heeds_none, heeds_then, lives_anew}
use Rattle.clients.proofs.Lists.{cond_other, cond_same}

one_seated : {X : Type 0} (o : Option (Option X)) (a b : X) → o ≡ Some (Some a) → o ≡ Some (Some b) → a ≡ b
one_seated o a b x y = let both : Some (Some a) ≡ Some (Some b) = sym x ∙ y in cc

never_free : {B L : Type 0} (places : List (Option (Seated B L))) (at : ℕ) (s : Seated B L) → seated_at places at ≡ None → SitsAt places at s → ⊥
never_free places at s free sat = let both : None ≡ Some s = sym free ∙ get_or_from_slice_get places at (Some s) None sat in cc

-- who is seated there sits there
sits_there : {B L : Type 0} (places : List (Option (Seated B L))) (k : ℕ) (s : Seated B L) → seated_at places k ≡ Some s → SitsAt places k s
sits_there places k s is = elim (cases_lt k (length places)) [
  | inl within ↦ slice_get-get_or places k None within ∙ ap (λ x. Some x) is
  | inr past ↦ let none : None ≡ Some s = sym (get_or_past places k None past) ∙ is in absurd (cc)
]

module _ {B L : Type 0} (sent : L → Option (List (List ℕ))) (received : L → Option (List ℕ)) where
  -- it goes on so from one to the other with these effects
  abbrev Went : DeskValue B L → ℕ → Seated B L → List Effect → Type 0
  Went new place s effects = (mid : Seated B L) × SitsAt new.places place mid × Heeds received s.client s.link mid.client mid.link effects

  at_place : (old new : DeskValue B L) (at : ℕ) (c : Calls sent received old new at) (s : Seated B L) → SitsAt old.places at s → (t : Seated B L) × SitsAt new.places at t → Went new at s (deeds_of sent received old new at c)
  at_place old new at (inl turn) s sat taken =
      (turn.1.is, turn.1.sits, subst (λ (w : Seated B L). Heeds received w.client w.link turn.1.is.client turn.1.is.link turn.1.effects) (one_seated _ _ _ turn.1.sat sat) turn.1.heeds)
  at_place old new at (inr (inl touch)) s sat taken = let is = touch.unserved s sat in (is.0, is.1, is.3.heeds)
  at_place old new at (inr (inr (inl changes))) s sat taken =
      let is = subst (λ o. ChangedAt evicted o (seated_at new.places at)) (get_or_from_slice_get old.places at (Some s) None sat) changes.changed in
      (is.0, sits_there new.places at is.0 is.1, evicts received s.client is.0.client s.link is.0.link (ap received is.2.link) is.2.connection is.2.waiting)
  at_place old new at (inr (inr (inr (inl looks)))) s sat taken = (s, ap (λ (d : DeskValue B L). slice_get d.places at) looks.1 ∙ sat, (heeds_none received s.client s.link).heeds)
  at_place old new at (inr (inr (inr (inr (link, inl admits))))) s sat taken = absurd (never_free old.places at s admits.was_free sat)
  at_place old new at (inr (inr (inr (inr (link, inr leaves))))) s sat taken = absurd (never_free new.places at taken.0 leaves.free taken.1)

  others_stay : (old new : DeskValue B L) (at : ℕ) → Calls sent received old new at → (k : ℕ) → (k ≡ at → ⊥) → (s : Seated B L) → SitsAt old.places k s → SitsAt new.places k s
  others_stay old new at (inl turn) k other s sat = turn.2.others k other ∙ sat
  others_stay old new at (inr (inl touch)) k other s sat = touch.others.others k other ∙ sat
  others_stay old new at (inr (inr (inl changes))) k other s sat = changes.others.others k other ∙ sat
  others_stay old new at (inr (inr (inr (inl looks)))) k other s sat = ap (λ (d : DeskValue B L). slice_get d.places k) looks.1 ∙ sat
  others_stay old new at (inr (inr (inr (inr (link, inl admits))))) k other s sat = sits_there new.places k s (admits.others k other ∙ get_or_from_slice_get old.places k (Some s) None sat)
  others_stay old new at (inr (inr (inr (inr (link, inr leaves))))) k other s sat = sits_there new.places k s (leaves.others k other ∙ get_or_from_slice_get old.places k (Some s) None sat)

  one_call : (old new : DeskValue B L) (at place : ℕ) (c : Calls sent received old new at) (s : Seated B L) → SitsAt old.places place s → (t : Seated B L) × SitsAt new.places place t
      → Went new place s (cond (at == place) (deeds_of sent received old new at c) [])
  one_call old new at place c s sat taken = elim (cases_eq at place) [
    | inl same ↦
        let so = at_place old new at c s (subst (λ k. SitsAt old.places k s) (sym same) sat) (taken.0, subst (λ k. SitsAt new.places k taken.0) (sym same) taken.1) in
        (so.0, subst (λ k. SitsAt new.places k so.0) same so.1, subst (λ d. Heeds received s.client s.link so.0.client so.0.link d) (sym (cond_same at place (deeds_of sent received old new at c) [] same)) so.2)
    | inr other ↦
        (s, others_stay old new at c place (λ e. other (sym e)) s sat, subst (λ d. Heeds received s.client s.link s.client s.link d) (sym (cond_other at place (deeds_of sent received old new at c) [] other)) (heeds_none received s.client s.link).heeds)
  ]

  all_calls : (place : ℕ) (from : Seated B L) (before : List Effect) (old : DeskValue B L) (others : List (DeskValue B L)) (chain : Chain sent received old others) (s : Seated B L) → SitsAt old.places place s
      → Heeds received from.client from.link s.client s.link before → AreTaken place others → (is : Seated B L) → SitsAt (last_of old others).places place is
      → Heeds received from.client from.link is.client is.link (before ++ deeds_at sent received place old others chain)
  all_calls place from before old [] chain s sat h taken is sits =
      subst (λ d. Heeds received from.client from.link is.client is.link d) (sym (append-nil before))
      (subst (λ (x : Seated B L). Heeds received from.client from.link x.client x.link before) (one_seated _ _ _ sat sits) h)
  all_calls place from before old (new ∷ others) chain s sat h taken is sits =
      let effects : List Effect = cond (chain.0.0 == place) (deeds_of sent received old new chain.0.0 chain.0.1) [] in
      let so = one_call old new chain.0.0 place chain.0.1 s sat taken.0 in
      subst (λ d. Heeds received from.client from.link is.client is.link d) (append_assoc before effects (deeds_at sent received place new others chain.1))
      (all_calls place from (before ++ effects) new others chain.1 so.0 so.1 (heeds_then received from.client s.client so.0.client from.link s.link so.0.link before effects h so.2) taken.1 is sits)

  pub lives : (old first : DeskValue B L) (link : L) (place : ℕ) (others : List (DeskValue B L)) (chain : Chain sent received first others) → Admits old first link place → AreTaken place others → (is : Seated B L)
      → SitsAt (last_of first others).places place is → Lived received link is (deeds_at sent received place first others chain)
  lives old first link place others chain admits taken is sits =
      let h = all_calls place admits.seated [] first others chain admits.seated admits.sits (heeds_none received admits.seated.client admits.seated.link).heeds taken is sits in record {
        got = h.got;
        read = h.read ∙ ap (λ l. option_map (λ bytes. bytes ++ h.got) (received l)) admits.link_is;
        lives = lives_anew old.limit admits.seated.client is.client h.got (deeds_at sent received place first others chain) admits.is_new h.lives;
      }
