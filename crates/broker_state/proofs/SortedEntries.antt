use Rattle.std.proofs.Common.{◌≡◌, List, [], ◌∷◌, Bool, true, false, cond, refl, ◌∙◌, ap}
use Rattle.std.specs.BTreeMap.{insert_entry}
use Rattle.std.specs.Cmp.{IsTotalOrder}
use Rattle.std.specs.List.{AllByRecursion}
use Rattle.std.specs.List.Sorted.{IsStrictlySortedBy}
use Rattle.std.specs.Map.{keys_of, remove_entry}
use Rattle.std.specs.Ordering.{match_ordering, ordering_reverse}
use Rattle.std.specs.declared.cmp.Ordering.{Ordering}
use Rattle.std.specs.declared.cmp.Ordering.TheVariants.{Less, Equal, Greater}

-- what is above y is above each k below y
all_below : {K : Type 0} (R : K → K → Ordering) → IsTotalOrder R → (k y : K) → R k y ≡ Less → (zs : List K) → AllByRecursion (λ z. R y z ≡ Less) zs → AllByRecursion (λ z. R k z ≡ Less) zs
all_below R o k y below [] all = tt
all_below R o k y below (z ∷ zs) all = (o.trans k y z below all.0, all_below R o k y below zs all.1)

-- Entries in the order of their keys, after one is removed or inserted.
module _ {K X : Type 0} where
  -- what each entry has, it has after one is removed
  pub all_removed : (Q : K × X → Type 0) (test : K → Bool) (es : List (K × X)) → AllByRecursion Q es → AllByRecursion Q (remove_entry test es)
  all_removed Q test [] all = tt
  all_removed Q test (e ∷ es) all =
      elim (test e.0) as (λ b. AllByRecursion Q (cond b es (e ∷ remove_entry test es))) [ true ↦ all.1 | false ↦ (all.0, all_removed Q test es all.1) ]

  all_keys_removed : (P : K → Type 0) (test : K → Bool) (es : List (K × X)) → AllByRecursion P (keys_of es) → AllByRecursion P (keys_of (remove_entry test es))
  all_keys_removed P test [] all = tt
  all_keys_removed P test (e ∷ es) all =
      elim (test e.0) as (λ b. AllByRecursion P (keys_of (cond b es (e ∷ remove_entry test es)))) [ true ↦ all.1 | false ↦ (all.0, all_keys_removed P test es all.1) ]

  pub sorted_removed : (R : K → K → Ordering) (test : K → Bool) (es : List (K × X)) → IsStrictlySortedBy R (keys_of es) → IsStrictlySortedBy R (keys_of (remove_entry test es))
  unfolding IsStrictlySortedBy
  sorted_removed R test [] sorted = tt
  sorted_removed R test (e ∷ es) sorted =
      elim (test e.0) as (λ b. IsStrictlySortedBy R (keys_of (cond b es (e ∷ remove_entry test es)))) [ true ↦ sorted.1 | false ↦ (all_keys_removed (λ y. R e.0 y ≡ Less) test es sorted.0, sorted_removed R test es sorted.1) ]

  -- and after one is inserted that has it, be it under a key that stood there
  pub all_inserted : (Q : K × X → Type 0) (R : K → K → Ordering) (k : K) (v : X) → Q (k, v) → ((e : K × X) → Q e → Q (e.0, v)) → (es : List (K × X)) → AllByRecursion Q es → AllByRecursion Q (insert_entry R es k v)
  all_inserted Q R k v new same [] all = (new, tt)
  all_inserted Q R k v new same (e ∷ es) all =
      elim (R k e.0) as (λ o. AllByRecursion Q (match_ordering o ((k, v) ∷ e ∷ es) ((e.0, v) ∷ es) (e ∷ insert_entry R es k v))) [ Less ↦ (new, all) | Equal ↦ (same e all.0, all.1) | Greater ↦ (all.0, all_inserted Q R k v new same es all.1) ]

  all_keys_inserted : (P : K → Type 0) (R : K → K → Ordering) (k : K) (v : X) → P k → (es : List (K × X)) → AllByRecursion P (keys_of es) → AllByRecursion P (keys_of (insert_entry R es k v))
  all_keys_inserted P R k v new [] all = (new, tt)
  all_keys_inserted P R k v new (e ∷ es) all =
      elim (R k e.0) as (λ o. AllByRecursion P (keys_of (match_ordering o ((k, v) ∷ e ∷ es) ((e.0, v) ∷ es) (e ∷ insert_entry R es k v)))) [ Less ↦ (new, all) | Equal ↦ all | Greater ↦ (all.0, all_keys_inserted P R k v new es all.1) ]

  module _ (R : K → K → Ordering) (o : IsTotalOrder R) (k : K) (v : X) where
    at_place : (e : K × X) (es : List (K × X)) (place : Ordering) → R k e.0 ≡ place → IsStrictlySortedBy R (keys_of (e ∷ es)) → IsStrictlySortedBy R (keys_of (insert_entry R es k v)) → IsStrictlySortedBy R (keys_of (match_ordering place ((k, v) ∷ e ∷ es) ((e.0, v) ∷ es) (e ∷ insert_entry R es k v)))
    unfolding IsStrictlySortedBy
    at_place e es Less is sorted rest = ((is, all_below R o k e.0 is (keys_of es) sorted.0), sorted)
    at_place e es Equal is sorted rest = sorted
    at_place e es Greater is sorted rest =
        (all_keys_inserted (λ y. R e.0 y ≡ Less) R k v (o.antisymm e.0 k ∙ ap ordering_reverse is) es sorted.0, rest)

    pub sorted_inserted : (es : List (K × X)) → IsStrictlySortedBy R (keys_of es) → IsStrictlySortedBy R (keys_of (insert_entry R es k v))
    unfolding IsStrictlySortedBy
    sorted_inserted [] sorted = (tt, tt)
    sorted_inserted (e ∷ es) sorted = at_place e es (R k e.0) refl sorted (sorted_inserted es sorted.1)
