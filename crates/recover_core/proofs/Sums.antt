-- Sums over lists, and over what tables have under keys.
use Rattle.std.proofs.Common.{◌≡◌, ◌≤◌, ◌+◌, List, [], ◌∷◌, ℕ, Bool, true, false, Some, cond, unwrap_or, refl, ap, sym, subst, arith}
use Rattle.std.specs.BTreeMap.{is_at}
use Rattle.std.specs.List.{AllByRecursion, sum_by}
use Rattle.std.specs.List.Sorted.{IsStrictlySortedBy}
use Rattle.std.specs.Map.{keys_of, lookup, values_of}
use Rattle.std.specs.Ordering.{is_eq}
use Rattle.std.specs.declared.cmp.Ordering.{Ordering}
use Rattle.std.specs.declared.cmp.Ordering.TheVariants.{Less}
use Rattle.std.proofs.lemmas.List.Sums.{sum_by-cons}
use Rattle.broker_core.specs.Names.{AreSame}
use Rattle.broker_state.proofs.Lookups.{is_equal}

module _ {K X : Type 0} (cmp : K → K → Ordering) where
  -- what holds of each entry's value, and where there is none, holds of what a key has
  pub looked_up : (P : X → Type 0) (none : X) → P none → (key : K) (table : List (K × X)) → AllByRecursion (λ (e : K × X). P e.1) table → P (unwrap_or (lookup (is_at (cmp key)) table) none)
  looked_up P none absent key [] all = absent
  looked_up P none absent key (e ∷ table) all = by (is_at (cmp key) e.0) (looked_up P none absent key table all.1)
    where
      by : (b : Bool) → P (unwrap_or (lookup (is_at (cmp key)) table) none) → P (unwrap_or (cond b (Some e.1) (lookup (is_at (cmp key)) table)) none)
      by true rest = all.0
      by false rest = rest

module _ {K T : Type 0} (cmp : K → K → Ordering) (same : AreSame cmp) where
  -- so many, where the keys are the same
  abbrev where_same : K → ℕ → K × T → ℕ
  where_same key n e = cond (is_eq (cmp e.0 key)) n 0

  others_none : (key : K) (n : ℕ) (es : List (K × T)) → AllByRecursion (λ k. cmp key k ≡ Less) (keys_of es) → sum_by (where_same key n) es ≡ 0
  others_none key n [] above = refl
  others_none key n (e ∷ es) above = by (is_eq (cmp e.0 key)) refl (others_none key n es above.1)
    where
      by : (b : Bool) → is_eq (cmp e.0 key) ≡ b → sum_by (where_same key n) es ≡ 0 → sum_by (where_same key n) (e ∷ es) ≡ 0
      by true is rest =
          let equal = is_equal (cmp e.0 key) is in
          let itself = subst (λ (k : K). cmp k key ≡ Less) (sym (same e.0 key equal)) (subst (λ (k : K). cmp key k ≡ Less) (same e.0 key equal) above.0) in
          absurd cc
      by false is rest = omega (arith, sum_by-cons (where_same key n) e es, ap (λ b. cond b n 0) is, rest)

  -- keys that rise have a key at most once
  at_most_once : (key : K) (n : ℕ) (es : List (K × T)) → IsStrictlySortedBy cmp (keys_of es) → sum_by (where_same key n) es ≤ n
  unfolding IsStrictlySortedBy
  at_most_once key n [] sorted = omega arith
  at_most_once key n (e ∷ es) sorted = by (is_eq (cmp e.0 key)) refl (at_most_once key n es sorted.1)
    where
      by : (b : Bool) → is_eq (cmp e.0 key) ≡ b → sum_by (where_same key n) es ≤ n → sum_by (where_same key n) (e ∷ es) ≤ n
      by true is rest =
          let above = subst (λ (k : K). AllByRecursion (λ y. cmp k y ≡ Less) (keys_of es)) (same e.0 key (is_equal (cmp e.0 key) is)) sorted.0 in
          omega (arith, sum_by-cons (where_same key n) e es, ap (λ b. cond b n 0) is, others_none key n es above)
      by false is rest = omega (arith, sum_by-cons (where_same key n) e es, ap (λ b. cond b n 0) is, rest)

  module _ {X : Type 0} (weight : X → ℕ) (none : X) (nothing : weight none ≡ 0) where
    -- what that table's value under the key weighs
    abbrev found : List (K × X) → K × T → ℕ
    found table e = weight (unwrap_or (lookup (is_at (cmp e.0)) table) none)

    found_none : (es : List (K × T)) → sum_by (found []) es ≡ 0
    found_none [] = refl
    found_none (e ∷ es) = omega (arith, sum_by-cons (found []) e es, nothing, found_none es)

    first_or_rest : (t : K × X) (table : List (K × X)) (e : K × T) → found (t ∷ table) e ≤ where_same t.0 (weight t.1) e + found table e
    first_or_rest t table e = by (is_eq (cmp e.0 t.0))
      where
        by : (b : Bool) → weight (unwrap_or (cond b (Some t.1) (lookup (is_at (cmp e.0)) table)) none) ≤ cond b (weight t.1) 0 + found table e
        by true = omega arith
        by false = omega arith

    each_first_or_rest : (t : K × X) (table : List (K × X)) (es : List (K × T)) → sum_by (found (t ∷ table)) es ≤ sum_by (where_same t.0 (weight t.1)) es + sum_by (found table) es
    each_first_or_rest t table [] = omega arith
    each_first_or_rest t table (e ∷ es) =
        omega (arith, sum_by-cons (found (t ∷ table)) e es, sum_by-cons (where_same t.0 (weight t.1)) e es, sum_by-cons (found table) e es, first_or_rest t table e, each_first_or_rest t table es)

    -- what a table has under keys that rise weighs no more than all of the table
    pub found-le : (table : List (K × X)) (es : List (K × T)) → IsStrictlySortedBy cmp (keys_of es) → sum_by (found table) es ≤ sum_by weight (values_of table)
    found-le [] es sorted = omega (arith, found_none es)
    found-le (t ∷ table) es sorted =
        omega (arith, each_first_or_rest t table es, at_most_once t.0 (weight t.1) es sorted, found-le table es sorted, sum_by-cons weight t.1 (values_of table))
