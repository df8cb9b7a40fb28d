use Rattle.std.proofs.Common.{◌≡◌, ◌≢◌, ◌<◌, ◌≤◌, ◌+◌, ℕ, List, ◌∷◌, ◌++◌, Option, Some, None, MatchOption, Bool, true, length, take, drop, get_or, sym, ap, ◌∙◌, subst, arith}
use Rattle.std.specs.List.{AllByRecursion}
use Rattle.std.proofs.lemmas.Bool.{eq-eqb, eqb-true}
use Rattle.std.proofs.lemmas.List.{get_or-take, length-take-le, take_all, take-append-drop, drop_more}
use Rattle.std.proofs.lemmas.List.Elements.{All-from_get_or, recursion_from_All}
use Rattle.memchr.specs.Find.{Nowhere, Passes, IsFirstByte, is_byte}

-- where a test passes nowhere in the first n bytes, what a failing test says holds of them
pub all_before : (test : ℕ → Bool) (P : ℕ → Type 0) (xs : List ℕ) (n : ℕ) → n ≤ length xs → ((b : ℕ) → (test b ≡ true → ⊥) → P b)
    → Nowhere (Passes test xs) 0 n → AllByRecursion P (take n xs)
all_before test P xs n le says none =
    let len = length-take-le n xs le in
    recursion_from_All P (take n xs) (All-from_get_or P (take n xs) 0 (λ i lt.
    let below : i < n = omega (arith, len) in
    subst P (sym (get_or-take n xs i 0 below)) (says (get_or xs i 0) (none i (omega arith) below))))

pub place_found : (byte : ℕ) (xs : List ℕ) (r : Option ℕ) → IsFirstByte (is_byte byte) xs r
    → MatchOption r (AllByRecursion (λ b. b ≢ byte) xs) (λ at. (at < length xs) × AllByRecursion (λ b. b ≢ byte) (take at xs) × (get_or xs at 0 ≡ byte))
place_found byte xs None h =
    let P : List ℕ → Type 0 = λ ys. AllByRecursion (λ b. b ≢ byte) ys in
    subst P (take_all (length xs) xs (omega arith)) (all_before (is_byte byte) (λ b. b ≢ byte) xs (length xs) (omega arith) (λ b no e. no (eq-eqb b byte e)) h)
place_found byte xs (Some at) h =
    (h.0.high, all_before (is_byte byte) (λ b. b ≢ byte) xs at (omega (arith, h.0.high)) (λ b no e. no (eq-eqb b byte e)) h.0.before, eqb-true _ _ h.1)

-- a list is what stands before a place, what stands there, and what stands behind
pub cut_at : (xs : List ℕ) (at : ℕ) → at < length xs → xs ≡ take at xs ++ (get_or xs at 0 ∷ drop (at + 1) xs)
cut_at xs at lt = sym (take-append-drop at xs) ∙ ap (λ ys. take at xs ++ ys) (drop_more xs at 0 lt)
