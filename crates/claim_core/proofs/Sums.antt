-- Sums over lists, and the law of the pigeonhole.
use Rattle.std.proofs.Common.{◌≡◌, ℕ, zero, suc, ◌+◌, ◌*◌, ◌<◌, ◌≤◌, ◌≢◌, ◌⊎◌, List, [], ◌∷◌, ◌++◌, length, set, sym, refl, ap, ◌∙◌, subst, inl, inr, ⊎_elim, arith, eq-eqb, ne_eqb, cond}
use Rattle.std.proofs.lemmas.Bool.{cases_eq, cases_lt, lt-ltb, le-ltb}
use mathlib.Core.Option.{some, some-injective, some-ne-none}
use native.Mathlib.Nat.{mul-add}
use lib.ListN.{get_elem?}
use Rattle.std.specs.Prelude.{Option, Some, None}
use Rattle.claim_core.specs.Counts.{Pair, sum_of, same, from, times, above, pends}

module _ {A : Type 0} where
  pub sum_set : (f : A → ℕ) (l : List A) (i : ℕ) (a b : A) → get_elem? l i ≡ some a → sum_of f (set l i b) + f a ≡ sum_of f l + f b
  sum_set f [] i a b e = absurd (some-ne-none a (sym e))
  sum_set f (x ∷ xs) zero a b e = let is : f x ≡ f a = ap f (some-injective x a e) in omega arith
  sum_set f (x ∷ xs) (suc i) a b e = omega (arith, sum_set f xs i a b e)

  pub sum_snoc : (f : A → ℕ) (l : List A) (a : A) → sum_of f (l ++ a ∷ []) ≡ sum_of f l + f a
  sum_snoc f [] a = omega arith
  sum_snoc f (x ∷ xs) a = omega (arith, sum_snoc f xs a)

  pub sum_at : (f : A → ℕ) (l : List A) (i : ℕ) (a : A) → get_elem? l i ≡ some a → f a ≤ sum_of f l
  sum_at f [] i a e = absurd (some-ne-none a (sym e))
  sum_at f (x ∷ xs) zero a e = let is : f x ≡ f a = ap f (some-injective x a e) in omega arith
  sum_at f (x ∷ xs) (suc i) a e = omega (arith, sum_at f xs i a e)

  pub sum_le : (f g : A → ℕ) (l : List A) → ((i : ℕ) (a : A) → get_elem? l i ≡ some a → f a ≤ g a) → sum_of f l ≤ sum_of g l
  sum_le f g [] h = omega arith
  sum_le f g (x ∷ xs) h = omega (arith, h 0 x refl, sum_le f g xs (λ i. h (suc i)))

  -- and less in all where it is less somewhere
  pub sum_less : (f g : A → ℕ) (l : List A) (i : ℕ) (a : A) → get_elem? l i ≡ some a → f a < g a → ((i : ℕ) (a : A) → get_elem? l i ≡ some a → f a ≤ g a) → sum_of f l < sum_of g l
  sum_less f g [] i a e lt h = absurd (some-ne-none a (sym e))
  sum_less f g (x ∷ xs) zero a e lt h = let is : f x ≡ f a = ap f (some-injective x a e) in let is' : g x ≡ g a = ap g (some-injective x a e) in omega (arith, sum_le f g xs (λ i. h (suc i)))
  sum_less f g (x ∷ xs) (suc i) a e lt h = omega (arith, h 0 x refl, sum_less f g xs i a e lt (λ i. h (suc i)))

  pub sum_plus : (f g : A → ℕ) (l : List A) → sum_of (λ a. f a + g a) l ≡ sum_of f l + sum_of g l
  sum_plus f g [] = omega arith
  sum_plus f g (x ∷ xs) = omega (arith, sum_plus f g xs)

  pub sum_zero : (l : List A) → sum_of (λ (a : A). 0) l ≡ 0
  sum_zero [] = refl
  sum_zero (x ∷ xs) = omega (arith, sum_zero xs)

  pub sum_scale : (w : ℕ) (f : A → ℕ) (l : List A) → sum_of (λ a. w * f a) l ≡ w * sum_of f l
  sum_scale w f [] = omega arith
  sum_scale w f (x ∷ xs) = omega (arith, sum_scale w f xs, mul-add w (f x) (sum_of f xs))

  pub sum_const : (w : ℕ) (l : List A) → sum_of (λ (a : A). w) l ≡ w * length l
  sum_const w [] = omega arith
  sum_const w (x ∷ xs) = omega (arith, sum_const w xs, mul-add w 1 (length xs))

-- f at the first k numbers, added up
abbrev pub upto : (ℕ → ℕ) → ℕ → ℕ
upto f zero = 0
upto f (suc k) = upto f k + f k

pub upto_ones : (f : ℕ → ℕ) (k : ℕ) → ((i : ℕ) → i < k → f i ≡ 1) → upto f k ≡ k
upto_ones f zero h = refl
upto_ones f (suc k) h = omega (arith, upto_ones f k (λ i l. h i (omega arith)), h k (omega arith))

pub upto_sum : {A : Type 0} (g : ℕ → A → ℕ) (l : List A) (k : ℕ) → upto (λ i. sum_of (g i) l) k ≡ sum_of (λ a. upto (λ i. g i a) k) l
upto_sum g l zero = sym (sum_zero l)
upto_sum g l (suc k) = let e = upto_sum g l k in ap (λ (z : ℕ). z + sum_of (g k) l) e ∙ sym (sum_plus (λ a. upto (λ i. g i a) k) (g k) l)

pub same_is : (a b : ℕ) → a ≡ b → same a b ≡ 1
same_is a b e = ap (λ b. cond b 1 0) (eq-eqb a b e)

pub same_not : (a b : ℕ) → a ≢ b → same a b ≡ 0
same_not a b n = ap (λ b. cond b 1 0) (ne_eqb a b n)

pub from_is : (a b : ℕ) → a ≤ b → from a b ≡ 1
from_is a b e = ap (λ b. cond b 0 1) (le-ltb b a e)

pub from_not : (a b : ℕ) → b < a → from a b ≡ 0
from_not a b e = ap (λ b. cond b 0 1) (lt-ltb b a e)

pub from_one : (a b : ℕ) → from a b ≤ 1
from_one a b = ⊎_elim (λ lt. omega (arith, from_not a b lt)) (λ le. omega (arith, from_is a b le)) (cases_lt b a)

pub from_mono : (m n b : ℕ) → m ≤ n → from n b ≤ from m b
from_mono m n b le = ⊎_elim (λ lt. omega (arith, from_not n b lt)) (λ ge. omega (arith, from_is n b ge, from_is m b (omega arith))) (cases_lt b n)

one_not : (m p k : ℕ) → (p < m) ⊎ (m + k ≤ p) → upto (λ i. same (m + i) p) k ≡ 0
one_not m p zero out = refl
one_not m p (suc k) out = ⊎_elim (λ (lt : p < m). omega (arith, one_not m p k (inl lt), same_not (m + k) p (λ e. omega arith)))
    (λ (ge : m + suc k ≤ p). omega (arith, one_not m p k (inr (omega arith)), same_not (m + k) p (λ e. omega arith))) out

one_from : (m p k : ℕ) → upto (λ i. same (m + i) p) k ≤ from m p
one_from m p zero = omega arith
one_from m p (suc k) = ⊎_elim (λ e. omega (arith, one_not m p k (inr (omega arith)), same_is (m + k) p e, from_is m p (omega arith)))
    (λ n. omega (arith, one_from m p k, same_not (m + k) p n)) (cases_eq (m + k) p)

-- the tickets from m to m + k - 1, counted in one list, are at most those from m on
pub times_above : (m k : ℕ) (own : List Pair) → upto (λ i. times (m + i) own) k ≤ above m own
times_above m k own = omega (arith, upto_sum (λ i (p : Pair). same (m + i) p.0) own k, sum_le (λ (p : Pair). upto (λ i. same (m + i) p.0) k) (λ (p : Pair). from m p.0) own (λ j p e. one_from m p.0 k))

pub above_mono : (m n : ℕ) (own : List Pair) → m ≤ n → above n own ≤ above m own
above_mono m n own le = sum_le (λ (p : Pair). from n p.0) (λ (p : Pair). from m p.0) own (λ j p e. from_mono m n p.0 le)

pub pends_le : (t : ℕ) (own : List Pair) (o : Option ℕ) → ((p : ℕ) → o ≡ Some p → 1 ≤ times p own) → pends t o ≤ times t own
pends_le t own None h = omega arith
pends_le t own (Some p) h = ⊎_elim (λ e. omega (arith, same_is t p e, subst (λ z. 1 ≤ times z own) (sym e) (h p refl))) (λ n. omega (arith, same_not t p n)) (cases_eq t p)
