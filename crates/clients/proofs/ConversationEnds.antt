-- How a conversation comes to its end, one step after another.
use Rattle.std.proofs.Common.{◌≡◌, ◌++◌, ◌∷◌, [], ℕ, List, Option, Some, None, refl, sym, ap, ◌∙◌, subst, inl, inr, append_assoc}
use Rattle.std.specs.Prelude.{◌⊎◌, option_map}
use Rattle.claim_core.specs.Counts.{Pair}
use Rattle.frame_core.specs.declared.frame.Frame.{Frame}
use Rattle.frame_core.specs.declared.frame.Verb.TheVariants as verbs
use Rattle.frame_core.specs.Written.{written}
use Rattle.ws_core.specs.Sending.{with_message}
use Rattle.clients.specs.Concluding.{Concludes, IsError, SendsError, follow}
use Rattle.clients.specs.Connections.{ConnectionValue}
use Rattle.clients.specs.Progress.{after, role_of}
use Rattle.clients.specs.declared.progress.Progress.{Progress}
use Rattle.clients.specs.declared.relaying.Relayed.{Relayed}
use Rattle.clients.specs.declared.relaying.Relayed.TheVariants as relayed
use Rattle.clients.specs.Relays.{Passage, Relays}
use Rattle.clients.specs.Stages.{CanTell}
use Rattle.clients.specs.declared.progress.Stage.TheVariants.{Running}

follow_append : (p : Progress) (a b : List Pair) → follow p (a ++ b) ≡ follow (follow p a) b
follow_append p [] b = refl
follow_append p (one ∷ a) b = follow_append (after p (role_of one.1.op) one.0) a b

more_twice : (sent : Option (List (List ℕ))) (a b : List (List ℕ)) → option_map (λ l. l ++ b) (option_map (λ l. l ++ a) sent) ≡ option_map (λ l. l ++ (a ++ b)) sent
more_twice None a b = refl
more_twice (Some l) a b = ap (λ x. Some x) (append_assoc l a b)

module _ {L : Type 0} (sent : L → Option (List (List ℕ))) where
  abbrev Adds : List (List ℕ) → L → L → Type 0
  Adds more from to = sent to ≡ option_map (λ l. l ++ more) (sent from)

  adds_then : (a b : List (List ℕ)) (l m n : L) → Adds a l m → Adds b m n → Adds (a ++ b) l n
  adds_then a b l m n x y = y ∙ ap (λ o. option_map (λ l. l ++ b) o) x ∙ more_twice (sent l) a b

  error_then : (b : List (List ℕ)) (l m n : L) → SendsError sent l m → Adds b m n → SendsError sent l n
  error_then b l m n e y = record {
    earlier = e.earlier;
    frame = e.frame;
    later = e.later ++ b;
    error = e.error;
    told = adds_then (e.earlier ++ written e.frame ∷ e.later) b l m n e.told y ∙ ap (λ x. option_map (λ l. l ++ x) (sent l)) (append_assoc e.earlier (written e.frame ∷ e.later) b);
  }

  then_error : (a : List (List ℕ)) (l m n : L) → Adds a l m → SendsError sent m n → SendsError sent l n
  then_error a l m n x e = record {
    earlier = a ++ e.earlier;
    frame = e.frame;
    later = e.later;
    error = e.error;
    told = adds_then a (e.earlier ++ written e.frame ∷ e.later) l m n x e.told ∙ ap (λ x. option_map (λ l. l ++ x) (sent l)) (sym (append_assoc a e.earlier (written e.frame ∷ e.later)));
  }

  pub concludes_then : (was mid is : ConnectionValue) (l m n : L) (a b : List Pair) (more others : List (List ℕ)) → Adds more l m → Adds others m n → Concludes sent was l mid m a → Concludes sent mid m is n b → Concludes sent was l is n (a ++ b)
  concludes_then was mid is l m n a b more others sends goes first second = record {
    follows = by_both first.follows second.follows;
    silent = λ over. second.silent (λ c. over (first.tells c)) ∙ first.silent over;
    tells = λ c. first.tells (second.tells c);
  }
    where
      by_both : (mid.progress ≡ follow was.progress a) ⊎ (CanTell was.stage × SendsError sent l m) → (is.progress ≡ follow mid.progress b) ⊎ (CanTell mid.stage × SendsError sent m n) → (is.progress ≡ follow was.progress (a ++ b)) ⊎ (CanTell was.stage × SendsError sent l n)
      by_both (inl x) (inl y) = inl (y ∙ ap (λ p. follow p b) x ∙ sym (follow_append was.progress a b))
      by_both (inl x) (inr y) = inr (first.tells y.0, then_error more l m n sends y.1)
      by_both (inr x) y = inr (x.0, error_then others l m n x.1 goes)

  -- where nothing is said or sent
  pub concludes_quietly : (was is : ConnectionValue) (l m : L) → is.progress ≡ was.progress → sent m ≡ sent l → (CanTell is.stage → CanTell was.stage) → Concludes sent was l is m []
  concludes_quietly was is l m progress unsent tells = record { follows = inl progress; silent = λ over. unsent; tells = tells }

  no_others : (told : Option (List (List ℕ))) (bytes : List ℕ) → with_message bytes told ≡ option_map (λ messages. messages ++ ([] ++ bytes ∷ [])) told
  no_others None bytes = refl
  no_others (Some messages) bytes = refl

  -- where an ERROR is sent
  pub concludes_by_error : (was is : ConnectionValue) (l m : L) (frame : Frame) → CanTell was.stage → frame.verb ≡ verbs.Error → sent m ≡ with_message (written frame) (sent l) → Concludes sent was l is m []
  concludes_by_error was is l m frame can error told = record {
    follows = inr (can, record { earlier = []; frame = frame; later = []; error = error; told = told ∙ no_others (sent l) (written frame) });
    silent = λ over. absurd (over can);
    tells = λ c. can;
  }

  only_same : (was is : ConnectionValue) (l m : L) → (is.progress ≡ was.progress) ⊎ ⊥ → sent m ≡ sent l → (CanTell is.stage → CanTell was.stage) → Concludes sent was l is m []
  only_same was is l m (inl same) unsent tells = concludes_quietly was is l m same unsent tells
  only_same was is l m (inr never) unsent tells = absurd never

  -- by what one call of `relay` did, of a connection that runs
  pub concludes_relaying : (was is : ConnectionValue) (l m : L) (session : ℕ) (p q : Passage) (seen : ℕ) (r : Relayed) → was.stage ≡ Running → p.sent ≡ sent l → q.sent ≡ sent m → Relays session p q seen r
      → (is.progress ≡ was.progress) ⊎ IsError r → (CanTell is.stage → CanTell was.stage) → Concludes sent was l is m []
  concludes_relaying was is l m session p q seen (relayed.Sent number verb bytes) runs from to s how tells = record {
    follows = elim how [
      | inl same ↦ inl same
      | inr error ↦ inr (subst CanTell (sym runs) tt, record { earlier = []; frame = s.out.frame; later = []; error = sym s.verb_is ∙ error; told = sym to ∙ s.told ∙ ap (λ o. with_message (written s.out.frame) o) from ∙ no_others (sent l) (written s.out.frame) })
    ];
    silent = λ over. absurd (over (subst CanTell (sym runs) tt));
    tells = tells;
  }
  concludes_relaying was is l m session p q seen relayed.Waits runs from to s how tells = only_same was is l m how (sym to ∙ s.untold ∙ from) tells
  concludes_relaying was is l m session p q seen relayed.Foreign runs from to s how tells = only_same was is l m how (sym to ∙ s.untold ∙ from) tells
  concludes_relaying was is l m session p q seen relayed.Empty runs from to s how tells = only_same was is l m how (sym to ∙ s.same.1 ∙ from) tells
  concludes_relaying was is l m session p q seen relayed.Cut runs from to s how tells = only_same was is l m how (sym to ∙ s.same.1 ∙ from) tells
