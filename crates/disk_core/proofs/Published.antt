-- What the two writes of a payload behind a flag may leave.
use Rattle.std.proofs.Common.{◌≡◌, ◌⊎◌, inl, inr, ℕ, ◌+◌, ◌≤◌, ◌==◌, Bool, true, false, List, [], ◌∷◌, length, take, drop, Some, None, if◌then◌else◌, refl, ◌∙◌, ap, arith}
use Rattle.std.proofs.lemmas.List.{take_at}
use Rattle.disk_core.specs.Images.{patched, Torn}
use Rattle.disk_core.specs.Publish.{published, IsAllOrNothing}

shut : (b : Bool) (x y : List ℕ) → (if b then Some x else None) ≡ None → (if b then Some y else None) ≡ None
shut true x y is = absurd (cc)
shut false x y is = refl

-- a torn payload leaves the flag closed
pub still_closed : (n : ℕ) (d c : List ℕ) → published n d ≡ None → Torn 1 n d c → published n c ≡ None
still_closed n d [] closed torn = refl
still_closed n [] (g ∷ c) closed torn = absurd (omega (arith, torn.size))
still_closed n (f ∷ d) (g ∷ c) closed torn =
    let same : g ≡ f = (let front : g ∷ [] ≡ f ∷ [] = torn.before in cc) in
    ap (λ b. if b == 1 then Some (take n c) else None) same ∙ shut (f == 1) (take n d) (take n c) closed

-- the payload is there
pub is_there : (payload content : List ℕ) → 1 + length payload ≤ length content → take (length payload) (drop 1 (patched 1 payload content)) ≡ payload
is_there payload [] room = absurd (omega arith)
is_there payload (b ∷ content) room = take_at payload (drop (1 + length payload) (b ∷ content)) (length payload) refl

open_or_not : (b : Bool) (x y : List ℕ) → x ≡ y → ((if b then Some x else None) ≡ None) ⊎ ((if b then Some x else None) ≡ Some y)
open_or_not true x y is = inr (ap (λ (l : List ℕ). Some l) is)
open_or_not false x y is = inl refl

-- a torn flag is open or closed
pub all_or_nothing : (n : ℕ) (payload d c : List ℕ) → take n (drop 1 d) ≡ payload → Torn 0 1 d c → IsAllOrNothing n payload c
all_or_nothing n payload d [] there torn = inl refl
all_or_nothing n payload d (g ∷ c) there torn =
    let rest : c ≡ drop 1 d = torn.after in
    open_or_not (g == 1) (take n c) payload (ap (λ (l : List ℕ). take n l) rest ∙ there)

-- with the flag open it is published
pub opened : (n : ℕ) (payload d : List ℕ) → take n (drop 1 d) ≡ payload → published n (patched 0 (1 ∷ []) d) ≡ Some payload
opened n payload d there = ap (λ (l : List ℕ). Some l) there
