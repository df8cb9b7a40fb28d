use Rattle.std.proofs.Common.{◌≡◌, ◌≢◌, ℕ, List, [], ◌∷◌, ◌++◌, Option, Some, None, MatchOption, length, take, drop, refl, sym, ap, ◌∙◌, subst, append_assoc}
use Rattle.std.proofs.lemmas.List.{take_at, drop_at, append_cancel_right}
use Rattle.frame_core.specs.declared.frame.Frame.{Frame}
use Rattle.frame_core.specs.declared.frame.Verb.{Verb}
use Rattle.frame_core.specs.Writable.{HasNoNul}
use Rattle.frame_core.specs.Spelling.{IsNumber, announced, HasBody, Spells}
use Rattle.frame_core.proofs.OneHead.{one_end, one_head}

-- bodies that end as the headers say end at one place
ends_at_one : (o : Option (List ℕ)) (body other x y : List ℕ) → MatchOption o (HasNoNul body) (λ text. IsNumber text (length body)) → MatchOption o (HasNoNul other) (λ text. IsNumber text (length other))
    → body ++ (0 ∷ x) ≡ other ++ (0 ∷ y) → (body ≡ other) × (x ≡ y)
ends_at_one None body other x y h k e =
    let r = one_end (λ b. b ≢ 0) body other 0 0 x y h k (λ ne. ne refl) (λ ne. ne refl) e in
    (r.0, r.2)
ends_at_one (Some text) body other x y h k e =
    let n : length other ≡ length body = sym k.1 ∙ h.1 in
    let same : body ≡ other = sym (take_at body (0 ∷ x) (length body) refl) ∙ ap (take (length body)) e ∙ take_at other (0 ∷ y) (length body) n in
    let rest : 0 ∷ x ≡ 0 ∷ y = sym (drop_at body (0 ∷ x) (length body) refl) ∙ ap (drop (length body)) e ∙ drop_at other (0 ∷ y) (length body) n in
    (same, (cc))

pub one_body : (verb other : Verb) (headers seconds : List (List ℕ × List ℕ)) (body second x y : List ℕ) → headers ≡ seconds → HasBody verb headers body → HasBody other seconds second
    → body ++ (0 ∷ x) ≡ second ++ (0 ∷ y) → (body ≡ second) × (x ≡ y)
one_body verb other headers seconds body second x y same h k e =
    let P : List (List ℕ × List ℕ) → Type 0 = λ hs. MatchOption (announced hs) (HasNoNul second) (λ text. IsNumber text (length second)) in
    ends_at_one (announced headers) body second x y h.ends (subst P (sym same) k.ends) e

-- Bytes that begin with a frame's spelling begin with no other frame's, and with it once.
pub one_frame : (a b : List ℕ) (f g : Frame) (x y : List ℕ) → Spells a f → Spells b g → a ++ x ≡ b ++ y → (a ≡ b) × (f ≡ g) × (x ≡ y)
one_frame a b f g x y h k e =
    let cut : h.head ++ (f.body ++ (0 ∷ x)) ≡ k.head ++ (g.body ++ (0 ∷ y)) = sym (spread a f x h) ∙ e ∙ spread b g y k in
    let r = one_head f.verb g.verb f.headers g.headers h.head k.head _ _ h.is_head k.is_head cut in
    let s = one_body f.verb g.verb f.headers g.headers f.body g.body x y r.1 h.has_body k.has_body r.2 in
    let bytes : a ≡ b = append_cancel_right a b x (e ∙ ap (λ z. b ++ z) (sym s.1)) in
    (bytes, λ i. record { verb = r.0 i; headers = r.1 i; body = s.0 i }, s.1)
  where
    spread : (bytes : List ℕ) (frame : Frame) (z : List ℕ) (i : Spells bytes frame) → bytes ++ z ≡ i.head ++ (frame.body ++ (0 ∷ z))
    spread bytes frame z i =
        ap (λ w. w ++ z) i.whole ∙ append_assoc i.head (frame.body ++ 0 ∷ []) z ∙ ap (λ w. i.head ++ w) (append_assoc frame.body (0 ∷ []) z)
