-- Lists whose every element is so.
use Rattle.std.proofs.Common.{◌≡◌, ℕ, suc, ◌<◌, List, [], ◌∷◌, ◌++◌, Bool, true, false, cond, refl, eq-eqb}
use Rattle.std.specs.Prelude.{◌==◌, filter}
use Rattle.std.specs.List.{AllByRecursion}
use Rattle.std.proofs.lemmas.Bool.{ne_eqb}
use Rattle.claim_core.specs.Counts.{Pair}
use Rattle.claim_core.specs.Steps.{IsLast}

pub all_append : {X : Type 0} (P : X → Type 0) (xs ys : List X) → AllByRecursion P xs → AllByRecursion P ys → AllByRecursion P (xs ++ ys)
all_append P [] ys a b = b
all_append P (x ∷ xs) ys a b = (a.0, all_append P xs ys a.1 b)

pub all_right : {X : Type 0} (P : X → Type 0) (xs ys : List X) → AllByRecursion P (xs ++ ys) → AllByRecursion P ys
all_right P [] ys a = a
all_right P (x ∷ xs) ys a = all_right P xs ys a.1

pub all_weaker : {X : Type 0} (P Q : X → Type 0) → ((x : X) → P x → Q x) → (xs : List X) → AllByRecursion P xs → AllByRecursion Q xs
all_weaker P Q so [] a = tt
all_weaker P Q so (x ∷ xs) a = (so x a.0, all_weaker P Q so xs a.1)

all_one : {X : Type 0} (P : X → Type 0) (b : Bool) (x : X) (xs : List X) → P x → AllByRecursion P xs → AllByRecursion P (cond b (x ∷ xs) xs)
all_one P true x xs p a = (p, a)
all_one P false x xs p a = a

pub all_filter : {X : Type 0} (P : X → Type 0) (q : X → Bool) (xs : List X) → AllByRecursion P xs → AllByRecursion P (filter q xs)
all_filter P q [] a = tt
all_filter P q (x ∷ xs) a = all_one P (q x) x (filter q xs) a.0 (all_filter P q xs a.1)

-- each has a ticket below n
abbrev pub AreBelow : ℕ → List Pair → Type 0
AreBelow n own = AllByRecursion (λ (p : Pair). p.0 < n) own

pub below : (n : ℕ) (own : List Pair) → IsLast n own → AreBelow n own
below n [] last = tt
below n (p ∷ own) last = (last 0 p refl, below n own (λ k q at. last (suc k) q at))

pub cond_same : {X : Type 0} (a b : ℕ) (x y : X) → a ≡ b → cond (a == b) x y ≡ x
cond_same a b x y e = rw (eq-eqb a b e) refl

pub cond_other : {X : Type 0} (a b : ℕ) (x y : X) → (a ≡ b → ⊥) → cond (a == b) x y ≡ y
cond_other a b x y e = rw (ne_eqb a b e) refl
