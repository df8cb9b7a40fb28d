-- What a connection has heard, by more and more bytes.
use Rattle.std.proofs.Common.{◌≡◌, ◌++◌, [], ℕ, List, false, refl, arith, sym, ap, ◌∙◌, subst, inl, inr, append-nil}
use Rattle.session_core.specs.declared.session.Act.{Act}
use Rattle.session_core.specs.Sessions.{Hearing, Hears, IsOver, fresh}
use Rattle.session_core.proofs.Hearings.{heard_as_one, pieces_as_one}
use Rattle.frame_core.specs.Parts.{IsUnfinished}
use Rattle.clients.specs.Connections.{ConnectionValue, HearsBytes, Listens}
use Rattle.clients.specs.Acts.{all_of}
use Rattle.clients.specs.declared.progress.Stage.TheVariants.{Running}

-- These bytes were heard, however they were cut. Of all that they ask for these acts were taken, the first ones: the others wait.
-- While the connection runs, its session stands where those bytes bring one.
pub record HasHeard (bytes : List ℕ) (taken : List Act) (c : ConnectionValue) : Type 0 where
  pub session : Hearing
  pub hears : Hears fresh bytes (taken ++ all_of c.acts) session
  pub phase : c.stage ≡ Running → session.phase ≡ c.session.phase
  pub rest : c.stage ≡ Running → (IsOver c.session.phase → ⊥) → session ≡ c.session

nothing_yet : IsUnfinished []
nothing_yet = inl record { lines = []; part = []; with_cr = false; whole = refl; begun = inl refl; each = tt; size = omega arith }

pub nothing_heard_yet : Hears fresh [] [] fresh
nothing_heard_yet = inr (inl (λ over. over, record { frames = []; reads = (([], refl), nothing_yet); same_acts = refl; phase = refl }))

-- the bytes of one more piece
pub hears_on : (bytes before : List ℕ) (taken : List Act) (old new : ConnectionValue) → Listens old → HearsBytes old bytes new → HasHeard before taken old → HasHeard (before ++ bytes) taken new
hears_on bytes before taken old new listens is h = by_case is.hears
  where
    was : Hears fresh before taken h.session
    was = subst (λ l. Hears fresh before l h.session) (ap (λ l. taken ++ l) listens.1 ∙ append-nil taken) h.hears

    acts_are : all_of new.acts ≡ is.acts
    acts_are = ap (λ (c : ConnectionValue). all_of c.acts) is.same

    goes_on : (IsOver old.session.phase → ⊥) → Hears old.session bytes is.acts new.session → HasHeard (before ++ bytes) taken new
    goes_on on hears =
        let here : Hears fresh before taken old.session = subst (Hears fresh before taken) (h.rest listens.0 on) was in
        record {
          session = new.session;
          hears = subst (λ l. Hears fresh (before ++ bytes) (taken ++ l) new.session) (sym acts_are) (heard_as_one fresh old.session new.session before bytes taken is.acts on here hears);
          phase = λ r. refl;
          rest = λ r o. refl;
        }

    by_case : Hears old.session bytes is.acts new.session → HasHeard (before ++ bytes) taken new
    by_case (inl over) =
        let ended : IsOver h.session.phase = subst IsOver (sym (h.phase listens.0)) over.0 in
        let all = pieces_as_one fresh h.session h.session before bytes taken [] was (inl (ended, refl, refl)) in
        record {
          session = all.0;
          hears = subst (λ l. Hears fresh (before ++ bytes) (taken ++ l) all.0) (sym (acts_are ∙ over.1)) all.1;
          phase = λ r. all.2 ∙ h.phase listens.0 ∙ ap (λ (s : Hearing). s.phase) (sym over.2);
          rest = λ r on. absurd (on (subst (λ (s : Hearing). IsOver s.phase) (sym over.2) over.0));
        }
    by_case (inr (inl goes)) = goes_on goes.0 (inr (inl goes))
    by_case (inr (inr goes)) = goes_on goes.0 (inr (inr goes))
