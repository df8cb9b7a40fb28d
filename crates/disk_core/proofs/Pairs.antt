-- Lists element by element, and loops that write one of them in place.
use Rattle.std.proofs.Common.{◌≡◌, ℕ, zero, suc, ◌+◌, ◌<◌, List, [], ◌∷◌, ◌++◌, length, get_or, take, drop, refl, arith, append_assoc}
use Rattle.std.proofs.lemmas.List.{drop_more, take_more_set, drop-set-lt}
use Rattle.std.proofs.Math.ListN.{set}
use Rattle.disk_core.specs.Pairs.{pairwise}

pub length-pairwise : {A B C : Type 0} (f : A → B → C) (xs : List A) (ys : List B) → length xs ≡ length ys → length (pairwise f xs ys) ≡ length ys
length-pairwise f [] [] h = refl
length-pairwise f [] (y ∷ ys) h = absurd (omega arith)
length-pairwise f (x ∷ xs) [] h = refl
length-pairwise f (x ∷ xs) (y ∷ ys) h = omega (arith, length-pairwise f xs ys (omega arith))

pub get_or-pairwise : {A B C : Type 0} (f : A → B → C) (xs : List A) (ys : List B) (i : ℕ) (d : A) (e : B) (z : C) → i < length xs → i < length ys → get_or (pairwise f xs ys) i z ≡ f (get_or xs i d) (get_or ys i e)
get_or-pairwise f [] ys i d e z h k = absurd (omega arith)
get_or-pairwise f (x ∷ xs) [] i d e z h k = absurd (omega arith)
get_or-pairwise f (x ∷ xs) (y ∷ ys) zero d e z h k = refl
get_or-pairwise f (x ∷ xs) (y ∷ ys) (suc i) d e z h k = get_or-pairwise f xs ys i d e z (omega arith) (omega arith)

pairwise_more : {A B C : Type 0} (f : A → B → C) (xs : List A) (ys : List B) (i : ℕ) (d : A) (e : B) → i < length xs → i < length ys → pairwise f (drop i xs) (drop i ys) ≡ f (get_or xs i d) (get_or ys i e) ∷ pairwise f (drop (i + 1) xs) (drop (i + 1) ys)
pairwise_more f xs ys i d e h k = rw (drop_more xs i d h, drop_more ys i e k) refl

-- a loop that writes f over the first list
pub first_more : {A B : Type 0} (f : A → B → A) (xs : List A) (ys : List B) (i : ℕ) (d y : A) (e : B) → i < length xs → i < length ys → y ≡ f (get_or xs i d) (get_or ys i e)
    → take (i + 1) (set xs i y) ++ pairwise f (drop (i + 1) (set xs i y)) (drop (i + 1) ys) ≡ take i xs ++ pairwise f (drop i xs) (drop i ys)
first_more f xs ys i d y e h k is =
    rw (take_more_set xs i y h, drop-set-lt (i + 1) xs i y (omega arith), pairwise_more f xs ys i d e h k, is)
    (append_assoc (take i xs) (f (get_or xs i d) (get_or ys i e) ∷ []) (pairwise f (drop (i + 1) xs) (drop (i + 1) ys)))

-- a loop that writes f over the second list
pub second_more : {A B : Type 0} (f : A → B → B) (xs : List A) (ys : List B) (i : ℕ) (d : A) (y e : B) → i < length xs → i < length ys → y ≡ f (get_or xs i d) (get_or ys i e)
    → take (i + 1) (set ys i y) ++ pairwise f (drop (i + 1) xs) (drop (i + 1) (set ys i y)) ≡ take i ys ++ pairwise f (drop i xs) (drop i ys)
second_more f xs ys i d y e h k is =
    rw (take_more_set ys i y k, drop-set-lt (i + 1) ys i y (omega arith), pairwise_more f xs ys i d e h k, is)
    (append_assoc (take i ys) (f (get_or xs i d) (get_or ys i e) ∷ []) (pairwise f (drop (i + 1) xs) (drop (i + 1) ys)))
