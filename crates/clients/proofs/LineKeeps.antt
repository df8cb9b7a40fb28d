-- What joining and leaving do to a line that is kept.
use Rattle.std.proofs.Common.{◌≡◌, ◌≢◌, ℕ, ◌+◌, ◌≤◌, ◌<◌, Bool, true, false, List, [], ◌∷◌, ◌++◌, cond, ◌&&◌, not, replicate, eqb, ltb, eq-eqb, subst, count_by, length, get_or, set, slice_get, Option, Some, None, IfSome, refl, sym, ap, ◌∙◌, inl, inr, arith, length-set}
use Rattle.std.proofs.lemmas.List.{get_or-set_same, get_or-set_other, get_or_past, get_or-replicate, length-replicate}
use Rattle.std.proofs.lemmas.List.Sums.{sum_by-cons, sum_by_push, sum_by-set, count_by-le-length}
use Rattle.std.proofs.lemmas.List.Folds.{sum_by-replicate}
use Rattle.std.proofs.lemmas.Bool.{cases_lt, lt-ltb, ltb-true}
use Rattle.std.proofs.lemmas.Bool.Decides.{eqb_tells}
use Rattle.clients.specs.Lines.{times, IsLine, may_join}
use Rattle.clients.specs.KeptLines.{reported, IsKept}
use Rattle.clients.specs.declared.wakers.TheConstants.{CLIENTS}

-- one where the numbers are the same
abbrev pub same : ℕ → ℕ → ℕ
same m n = cond (eqb m n) 1 0

pub times-cons : (m n : ℕ) (line : List ℕ) → times m (n ∷ line) ≡ same m n + times m line
times-cons m n line = sum_by-cons (λ other. cond (eqb m other) 1 0) n line

pub times_push : (m n : ℕ) (line : List ℕ) → times m (line ++ n ∷ []) ≡ times m line + same m n
times_push m n line = sum_by_push (λ other. cond (eqb m other) 1 0) line n

-- what is told of a number once this is told of it, and of any other
told_same : (n : ℕ) (b : Bool) (stands : List Bool) → n < length stands → reported n (set stands n b) ≡ cond b 1 0
told_same n b stands h = ap (λ x. cond x 1 0) (get_or-set_same stands n b false h)

told_other : (n m : ℕ) (b : Bool) (stands : List Bool) → m ≢ n → reported m (set stands n b) ≡ reported m stands
told_other n m b stands apart = ap (λ x. cond x 1 0) (get_or-set_other stands n m b false apart)

same-equal : (m n : ℕ) → eqb m n ≡ true → same m n ≡ 1
same-equal m n e = ap (λ x. cond x 1 0) e

same-apart : (m n : ℕ) → eqb m n ≡ false → same m n ≡ 0
same-apart m n e = ap (λ x. cond x 1 0) e

-- how many are told of once this is told of a number
count_after : (n : ℕ) (b : Bool) (stands : List Bool) → n < length stands
    → count_by (λ x. x) (set stands n b) + reported n stands ≡ count_by (λ x. x) stands + cond b 1 0
count_after n b stands h = sum_by-set (λ (x : Bool). cond x 1 0) stands n b false h

-- nobody is told of
told_none : (n : ℕ) (stands : List Bool) → get_or stands n false ≡ false → reported n stands ≡ 0
told_none n stands off = ap (λ x. cond x 1 0) off

-- who is told of is a client
told_client : (n : ℕ) (stands : List Bool) → reported n stands ≡ 1 → n < length stands
told_client n stands on =
    elim (cases_lt n (length stands)) [
      | inl h ↦ h
      | inr h ↦ let none : reported n stands ≡ 0 = ap (λ x. cond x 1 0) (get_or_past stands n false h) in absurd (omega arith)
    ]

told_bit : (n : ℕ) (stands : List Bool) → reported n stands ≤ 1
told_bit n stands = elim (get_or stands n false) as (λ b. cond b 1 0 ≤ 1) [ true ↦ omega arith | false ↦ omega arith ]

-- there is room for one that does not stand there
pub room_left : (order : List ℕ) (stands : List Bool) (capacity n : ℕ) → IsKept order stands capacity → n < length stands → get_or stands n false ≡ false → length order < capacity
room_left order stands capacity n kept h off =
    let more = count_after n true stands h in
    let most : count_by (λ x. x) (set stands n true) ≤ length (set stands n true) = count_by-le-length (λ (x : Bool). x) (set stands n true) in
    omega (arith, length-set stands n true, told_none n stands off, kept.count, kept.room, kept.all)

-- one that does not stand there joins
pub joins : (order longer : List ℕ) (stands : List Bool) (capacity n : ℕ)
    → IsKept order stands capacity → n < length stands → get_or stands n false ≡ false
    → length longer ≡ length order + 1 → ((m : ℕ) → times m longer ≡ times m order + same m n)
    → IsKept longer (set stands n true) capacity
joins order longer stands capacity n kept h off one more = record {
  all = length-set stands n true ∙ kept.all;
  each = λ m. elim (eqb_tells m n) [
    | inl e ↦ subst (λ (k : ℕ). times k longer ≡ reported k (set stands n true)) (sym e.1)
        (let self = same-equal n n (eq-eqb n n refl) in omega (arith, more n, kept.each n, told_none n stands off, told_same n true stands h))
    | inr e ↦ omega (arith, more m, kept.each m, same-apart m n e.0, told_other n m true stands e.1)
  ];
  count = omega (arith, count_after n true stands h, told_none n stands off, kept.count);
  room = kept.room;
}

-- the first one leaves
first_told : (order rest : List ℕ) (stands : List Bool) (capacity n : ℕ) → IsKept order stands capacity → order ≡ n ∷ rest → reported n stands ≡ 1
first_told order rest stands capacity n kept e =
    let self = same-equal n n (eq-eqb n n refl) in
    omega (arith, kept.each n, ap (times n) e, times-cons n n rest, told_bit n stands)

pub first_stands : (order rest : List ℕ) (stands : List Bool) (capacity n : ℕ) → IsKept order stands capacity → order ≡ n ∷ rest → n < length stands
first_stands order rest stands capacity n kept e = told_client n stands (first_told order rest stands capacity n kept e)

pub first_client : (order : List ℕ) (stands : List Bool) (capacity n : ℕ) → IsKept order stands capacity → slice_get order 0 ≡ Some n → n < CLIENTS
first_client [] stands capacity n kept e = cc
first_client (m ∷ rest) stands capacity n kept e =
    let is : m ≡ n = cc in
    omega (arith, kept.all, first_stands (m ∷ rest) rest stands capacity m kept refl)

pub first_is_client : (order : List ℕ) (stands : List Bool) (capacity : ℕ) (first : Option ℕ) → IsKept order stands capacity → first ≡ slice_get order 0 → IfSome first (λ n. n < CLIENTS)
first_is_client order stands capacity None kept e = tt
first_is_client order stands capacity (Some n) kept e = first_client order stands capacity n kept (sym e)

pub leaves : (order rest : List ℕ) (stands : List Bool) (capacity n : ℕ) → IsKept order stands capacity → order ≡ n ∷ rest → IsKept rest (set stands n false) capacity
leaves order rest stands capacity n kept e =
    let h = first_stands order rest stands capacity n kept e in
    let self = same-equal n n (eq-eqb n n refl) in
    let on = first_told order rest stands capacity n kept e in
    record {
      all = length-set stands n false ∙ kept.all;
      each = λ m. elim (eqb_tells m n) [
        | inl f ↦ subst (λ (k : ℕ). times k rest ≡ reported k (set stands n false)) (sym f.1)
            (omega (arith, kept.each n, ap (times n) e, times-cons n n rest, on, told_same n false stands h))
        | inr f ↦ omega (arith, kept.each m, ap (times m) e, times-cons m n rest, same-apart m n f.0, told_other n m false stands f.1)
      ];
      count = omega (arith, count_after n false stands h, on, kept.count, ap length e);
      room = kept.room;
    }

-- a line that is kept is one
pub is_line : (order : List ℕ) (stands : List Bool) (capacity : ℕ) → IsKept order stands capacity → IsLine order
is_line order stands capacity kept = record {
  once = λ n. omega (arith, kept.each n, told_bit n stands);
  numbers = λ n h.
      let past : length stands ≤ n = rw kept.all h in
      kept.each n ∙ ap (λ x. cond x 1 0) (get_or_past stands n false past);
}

-- whether one may join, by what is told
pub may_join_tells : (order : List ℕ) (stands : List Bool) (capacity n : ℕ) → IsKept order stands capacity → n < CLIENTS → may_join n order ≡ not (get_or stands n false)
may_join_tells order stands capacity n kept h =
    rw (lt-ltb n CLIENTS h, kept.each n)
    (elim (get_or stands n false) as (λ b. ltb (cond b 1 0) 1 ≡ not b) [ true ↦ refl | false ↦ refl ])

off : (b : Bool) → cond {A = ℕ} b 1 0 ≡ 0 → b ≡ false
off true e = absurd (omega (arith, e))
off false e = refl

nobody_told : (n : ℕ) (stands : List Bool) → stands ≡ replicate CLIENTS false → reported n stands ≡ 0
nobody_told n stands e =
    elim (cases_lt n CLIENTS) [
      | inl h ↦ told_none n stands (rw e (get_or-replicate CLIENTS n false false h))
      | inr h ↦ told_none n stands (get_or_past stands n false (rw e (rw length-replicate h)))
    ]

both : (a b : Bool) → (a && b) ≡ true → (a ≡ true) × (b ≡ true)
both true b e = (refl, e)
both false b e = cc

told_off : (n : ℕ) (stands : List Bool) → reported n stands ≡ 0 → get_or stands n false ≡ false
told_off n stands e = off (get_or stands n false) e

-- one that may join is a client that does not stand there
pub client_that_may : (order : List ℕ) (n : ℕ) → may_join n order ≡ true → n < CLIENTS
client_that_may order n e = ltb-true n CLIENTS (both (ltb n CLIENTS) (ltb (times n order) 1) e).0

pub off_where_may : (order : List ℕ) (stands : List Bool) (capacity n : ℕ) → IsKept order stands capacity → may_join n order ≡ true → get_or stands n false ≡ false
off_where_may order stands capacity n kept e =
    let none : times n order < 1 = ltb-true (times n order) 1 (both (ltb n CLIENTS) (ltb (times n order) 1) e).1 in
    told_off n stands (omega (arith, kept.each n, none))

-- nobody stands there
pub nobody : (stands : List Bool) (capacity : ℕ) → stands ≡ replicate CLIENTS false → CLIENTS ≤ capacity → IsKept [] stands capacity
nobody stands capacity e h = record {
  all = ap length e ∙ length-replicate CLIENTS false;
  each = λ n. sym (nobody_told n stands e);
  count = sym (ap (λ (l : List Bool). count_by (λ x. x) l) e ∙ sum_by-replicate (λ (x : Bool). cond x 1 0) CLIENTS false);
  room = h;
}

-- there are no more in a line than clients
pub at_most : (order : List ℕ) (stands : List Bool) (capacity : ℕ) → IsKept order stands capacity → length order ≤ CLIENTS
at_most order stands capacity kept = omega (arith, kept.count, kept.all, count_by-le-length (λ (x : Bool). x) stands)
