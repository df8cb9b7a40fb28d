-- What a store stands for, from what its area reads.
use Rattle.std.proofs.Common.{◌≡◌, ◌⊎◌, inl, inr, ⊎_elim, ℕ, List, [], ◌∷◌, ◌++◌, refl, sym, ◌∙◌, ap, subst, arith}
use Rattle.std.proofs.lemmas.List.{append-nil}
use Rattle.std.proofs.lemmas.Grind.{flat_map-append}
use Rattle.std.proofs.Math.Logic.{∥∥₁_prop, ∥∥₁_map, ∥∥₁_elim}
use Rattle.command_core.specs.Commands.{CommandValue}
use Rattle.broker_core.specs.States.{State}
use Rattle.broker_core.specs.Steps.{state_after, state_after_by}
use Rattle.broker_state.specs.declared.nack_rule.NackRule.{NackRule}
use Rattle.broker_state.specs.declared.nack_rule.NackRule.TheVariants.{Keeps}
use Rattle.snapshot_core.specs.Snapshots.{Spells}
use Rattle.area_core.specs.declared.area.Area.{Area}
use Rattle.area_core.specs.declared.version.Version.{Version}
use Rattle.area_core.specs.declared.version.Version.TheVariants.{One, Two}
use Rattle.area_core.specs.Areas.{number}
use Rattle.area_core.specs.Held.{IsAt}
use Rattle.area_core.specs.Journals.{Reads}
use Rattle.area_core.specs.Puts.{Each}
use Rattle.recover_core.specs.Sound.{Sound, IsSound}
use Rattle.recover_core.specs.Standing.{joined, rule_of, Leads, Standing, Stands, StandFor, StandsForEither}
use Rattle.area_core.specs.Steps.{IsBeforeOrAfter}
use Rattle.area_core.proofs.Single.{reads_one}

pub commands_push : (bs : List (List CommandValue)) (b : List CommandValue) → joined (bs ++ b ∷ []) ≡ joined bs ++ b
commands_push bs b = flat_map-append (λ (x : List CommandValue). x) bs (b ∷ []) ∙ ap (λ (l : List CommandValue). joined bs ++ l) (append-nil b)

pub after-append-by : (rule : NackRule) (xs : List CommandValue) (s : State) (ys : List CommandValue) → state_after_by rule s (xs ++ ys) ≡ state_after_by rule (state_after_by rule s xs) ys
after-append-by rule [] s ys = refl
after-append-by rule (x ∷ xs) s ys = after-append-by rule xs _ ys

pub after-append : (xs : List CommandValue) (s : State) (ys : List CommandValue) → state_after s (xs ++ ys) ≡ state_after (state_after s xs) ys
after-append xs s ys = after-append-by Keeps xs s ys

after_pushed : (rule : NackRule) (bs : List (List CommandValue)) (b : List CommandValue) (s : State) → state_after_by rule s (joined (bs ++ b ∷ [])) ≡ state_after_by rule (state_after_by rule s (joined bs)) b
after_pushed rule bs b s = ap (λ (l : List CommandValue). state_after_by rule s l) (commands_push bs b) ∙ after-append-by rule (joined bs) s b

pub leads : (version : Version) (size selector : ℕ) (snapshot : List ℕ) (blocks : List (List CommandValue)) (image : List ℕ) (s : State) → Reads version size selector snapshot blocks image → Standing image s → Leads version snapshot blocks s
leads version size selector snapshot blocks image s reads st =
    let one = reads_one version st.version size st.size selector st.selector snapshot st.snapshot blocks st.blocks image reads st.reads in
    record {
      first = st.leads.first;
      spells = subst (λ (l : List ℕ). Spells l st.leads.first) (sym one.3) st.leads.spells;
      is = st.leads.is
          ∙ ap (λ (v : Version). state_after_by (rule_of v) st.leads.first (joined st.blocks)) (sym one.0)
          ∙ ap (λ (b : List (List CommandValue)). state_after_by (rule_of version) st.leads.first (joined b)) (sym one.4);
    }

pub stands : (version : Version) (size selector : ℕ) (snapshot : List ℕ) (blocks : List (List CommandValue)) (image : List ℕ) (s : State) → Reads version size selector snapshot blocks image → Leads version snapshot blocks s → Stands image s
stands version size selector snapshot blocks image s reads l =
    ∣ record { version = version; size = size; selector = selector; snapshot = snapshot; blocks = blocks; reads = reads; leads = l } ∣₁

pub leads_on : (version : Version) (snapshot : List ℕ) (blocks : List (List CommandValue)) (s : State) (batch : List CommandValue) → Leads version snapshot blocks s → Leads version snapshot (blocks ++ batch ∷ []) (state_after_by (rule_of version) s batch)
leads_on version snapshot blocks s batch l = record {
  first = l.first;
  spells = l.spells;
  is = ap (λ (t : State). state_after_by (rule_of version) t batch) l.is ∙ sym (after_pushed (rule_of version) blocks batch l.first);
}

-- the number tells the version
pub is_two : (version : Version) → number version ≡ 2 → version ≡ Two
is_two One is = absurd (omega (arith, is))
is_two Two is = refl

-- where the area is of the second version, the rule is the one that holds now
by_two : (version : Version) (s : State) (batch : List CommandValue) → version ≡ Two → state_after_by (rule_of version) s batch ≡ state_after s batch
by_two version s batch is = ap (λ (v : Version). state_after_by (rule_of v) s batch) is

module _ (area : Area) (images : List ℕ → Type 0) (content : List ℕ) (reads : images content) (sound : IsSound images area) (s : State) (stand : StandFor images s) where
  -- what follows for each snapshot and blocks that the area may have, where it is one proposition
  knowing : (P : Type 0) → ((snapshot : List ℕ) (blocks : List (List CommandValue)) → Each images (IsAt area snapshot blocks) → Leads area.version snapshot blocks s → ∥ P ∥₁) → ∥ P ∥₁
  knowing P then = ∥∥₁_elim sound ∥∥₁_prop (λ (it : Sound images area). ∥∥₁_elim (stand content reads) ∥∥₁_prop (λ (st : Standing content s).
      then it.snapshot it.blocks it.held (leads area.version area.size area.selector it.snapshot it.blocks content s (it.held content reads).reads st)))

  leads_by : area.version ≡ Two → (snapshot : List ℕ) (blocks : List (List CommandValue)) (batch : List CommandValue) → Leads area.version snapshot blocks s → Leads area.version snapshot (blocks ++ batch ∷ []) (state_after s batch)
  leads_by two snapshot blocks batch lead = subst (λ (t : State). Leads area.version snapshot (blocks ++ batch ∷ []) t) (by_two area.version s batch two) (leads_on area.version snapshot blocks s batch lead)

  pub either : area.version ≡ Two → (batch : List CommandValue) (c : List ℕ) → IsBeforeOrAfter images area batch c → StandsForEither s (state_after s batch) c
  either two batch c before_or_after = knowing (Stands c s ⊎ Stands c (state_after s batch)) (λ snapshot blocks held lead.
      ⊎_elim (λ (at : IsAt area snapshot blocks c). ∣ inl (stands area.version area.size area.selector snapshot blocks c s at.reads lead) ∣₁)
      (λ (r : Reads area.version area.size area.selector snapshot (blocks ++ batch ∷ []) c). ∣ inr (stands area.version area.size area.selector snapshot (blocks ++ batch ∷ []) c (state_after s batch) r (leads_by two snapshot blocks batch lead)) ∣₁)
      (before_or_after snapshot blocks held))

  pub all_after : area.version ≡ Two → (next : Area) → next.version ≡ area.version → (batch : List CommandValue) (now : List ℕ → Type 0) → ((snapshot : List ℕ) (blocks : List (List CommandValue)) → Each images (IsAt area snapshot blocks) → Each now (IsAt next snapshot (blocks ++ batch ∷ []))) → StandFor now (state_after s batch)
  all_after two next same batch now after c image = knowing (Standing c (state_after s batch)) (λ snapshot blocks held lead.
      stands next.version next.size next.selector snapshot (blocks ++ batch ∷ []) c (state_after s batch) (after snapshot blocks held c image).reads
      (subst (λ (v : Version). Leads v snapshot (blocks ++ batch ∷ []) (state_after s batch)) (sym same) (leads_by two snapshot blocks batch lead)))

pub sound_on : (area next : Area) (images now : List ℕ → Type 0) (batch : List CommandValue) → IsSound images area
    → ((snapshot : List ℕ) (blocks : List (List CommandValue)) → Each images (IsAt area snapshot blocks) → Each now (IsAt next snapshot (blocks ++ batch ∷ []))) → IsSound now next
sound_on area next images now batch sound after =
    ∥∥₁_map sound (λ (it : Sound images area). record { snapshot = it.snapshot; blocks = it.blocks ++ batch ∷ []; held = after it.snapshot it.blocks it.held })
