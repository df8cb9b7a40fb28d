use Rattle.std.proofs.Common.{◌≡◌, ℕ, zero, suc, Bool, false, not, ◌||◌, eqb, List, [], ◌∷◌, refl, sym, ap, subst, ◌∙◌}
use Rattle.std.specs.Prelude.{IsTrue}
use Rattle.std.specs.List.{list_any}
use Rattle.std.proofs.lemmas.Bool.{ne_eqb, not-true}
use Rattle.frame_core.specs.Writable.{HasNoNul}
use Rattle.command_core.proofs.destination.has_no_nul.Goals as goal

is_none : (b : ℕ) → eqb (suc b) 0 ≡ false
is_none b = ne_eqb (suc b) 0 (λ is. absurd cc)

none_found : (text : List ℕ) → list_any (λ (b : ℕ). eqb b 0) text ≡ false → HasNoNul text
none_found [] e = tt
none_found (zero ∷ text) e = absurd cc
none_found (suc b ∷ text) e = ((λ is. absurd cc), none_found text (subst (λ (is : Bool). (is || list_any (λ (b : ℕ). eqb b 0) text) ≡ false) (is_none b) e))

none_there : (text : List ℕ) → HasNoNul text → list_any (λ (b : ℕ). eqb b 0) text ≡ false
none_there [] plain = refl
none_there (zero ∷ text) plain = absurd (plain.0 refl)
none_there (suc b ∷ text) plain = ap (λ (is : Bool). is || list_any (λ (b : ℕ). eqb b 0) text) (is_none b) ∙ none_there text plain.1

said : (text : List ℕ) (found : Bool) → found ≡ list_any (λ (b : ℕ). eqb b 0) text → (IsTrue (not found) → HasNoNul text) × (HasNoNul text → IsTrue (not found))
said text found e = ((λ none. none_found text (sym e ∙ not-true found none)), (λ plain. rw (e, none_there text plain) refl))

pub returns : goal.returns
returns c =
    said c.args.text.now c.contains.result (c.contains.ensures.value ∙ ap (λ (t : List ℕ). list_any (λ (b : ℕ). eqb b 0) t) c.as_bytes.ensures.value)
