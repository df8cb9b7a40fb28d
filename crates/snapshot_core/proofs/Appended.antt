-- A map that is filled in the order of its keys.
use Rattle.std.proofs.Common.{◌≡◌, ◌++◌, List, [], ◌∷◌, refl, ap, sym, subst, ◌∙◌, append_assoc}
use Rattle.std.specs.BTreeMap.{insert_entry}
use Rattle.std.specs.Cmp.{IsTotalOrder}
use Rattle.std.specs.List.{AllByRecursion}
use Rattle.std.specs.List.Sorted.{IsStrictlySortedBy}
use Rattle.std.specs.Map.{keys_of}
use Rattle.std.specs.Ordering.{match_ordering, ordering_reverse}
use Rattle.std.specs.declared.cmp.Ordering.{Ordering}
use Rattle.std.specs.declared.cmp.Ordering.TheVariants.{Less}

module _ {K X : Type 0} where
  middle : (P : K → Type 0) (front : List (K × X)) (k : K) (v : X) (rest : List (K × X)) → AllByRecursion P (keys_of (front ++ (k, v) ∷ rest)) → P k
  middle P [] k v rest all = all.0
  middle P (e ∷ front) k v rest all = middle P front k v rest all.1

  -- an entry whose key is over those before it goes last
  pub appended : (cmp : K → K → Ordering) → IsTotalOrder cmp → (front : List (K × X)) (k : K) (v : X) (rest : List (K × X)) → IsStrictlySortedBy cmp (keys_of (front ++ (k, v) ∷ rest)) → insert_entry cmp front k v ≡ front ++ (k, v) ∷ []
  unfolding IsStrictlySortedBy
  appended cmp total [] k v rest sorted = refl
  appended cmp total (e ∷ front) k v rest sorted =
      ap (λ o. match_ordering o ((k, v) ∷ e ∷ front) ((e.0, v) ∷ front) (e ∷ insert_entry cmp front k v)) (total.antisymm k e.0 ∙ ap ordering_reverse (middle (λ y. cmp e.0 y ≡ Less) front k v rest sorted.0))
      ∙ ap (λ (es : List (K × X)). e ∷ es) (appended cmp total front k v rest sorted.1)

  -- the next of all entries was put in, and more are left
  pub one_more : (cmp : K → K → Ordering) → IsTotalOrder cmp → (front after : List (K × X)) (k : K) (v : X) (rest more all : List (K × X)) → IsStrictlySortedBy cmp (keys_of all) → front ++ rest ≡ all → rest ≡ (k, v) ∷ more → after ≡ insert_entry cmp front k v → after ++ more ≡ all
  one_more cmp total front after k v rest more all sorted so_far is put =
      let whole : front ++ (k, v) ∷ more ≡ all = ap (λ (es : List (K × X)). front ++ es) (sym is) ∙ so_far in
      let last : after ≡ front ++ (k, v) ∷ [] = put ∙ appended cmp total front k v more (subst (λ (es : List (K × X)). IsStrictlySortedBy cmp (keys_of es)) (sym whole) sorted) in
      ap (λ (es : List (K × X)). es ++ more) last ∙ append_assoc front ((k, v) ∷ []) more ∙ whole
