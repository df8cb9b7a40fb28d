use Rattle.std.proofs.Common.{◌≡◌, ◌≤◌, ◌+◌, List, [], ◌∷◌, Bool, true, false, true≢false, Option, Some, None, cond, is_some, length, refl, ap, sym, subst, arith, ◌∙◌}
use Rattle.std.specs.BTreeMap.{insert_entry, is_at}
use Rattle.std.specs.List.{AllByRecursion}
use Rattle.std.specs.Map.{lookup, remove_entry}
use Rattle.std.specs.Ordering.{is_eq, match_ordering}
use Rattle.frame_core.proofs.Lists.{all_weaker}
use Rattle.std.specs.declared.cmp.Ordering.{Ordering}
use Rattle.std.specs.declared.cmp.Ordering.TheVariants.{Less, Equal, Greater}
use Rattle.broker_state.specs.Names.{AreSame}

pub is_equal : (o : Ordering) → is_eq o ≡ true → o ≡ Equal
is_equal Less is = absurd cc
is_equal Equal is = refl
is_equal Greater is = absurd cc

not_at : {K : Type 0} (cmp : K → K → Ordering) → AreSame cmp → (q d : K) → is_eq (cmp q d) ≡ false → (k : K) → is_eq (cmp d k) ≡ true → is_eq (cmp q k) ≡ false
not_at {K} cmp same q d other k is = subst (λ (x : K). is_eq (cmp q x) ≡ false) (same d k (is_equal (cmp d k) is)) other

-- what is found where an entry is changed, and where those behind it are
module _ {X : Type 0} (x y : X) where
  here_or : (b : Bool) (o : Option X) → is_some o ≡ true → is_some (cond b (Some x) o) ≡ true
  here_or true o some = refl
  here_or false o some = some

  other_here : (b : Bool) (o : Option X) → is_some (cond b (Some x) o) ≡ true → is_some (cond b (Some y) o) ≡ true
  other_here true o some = refl
  other_here false o some = some

  others_behind : (b : Bool) (o p : Option X) → (is_some o ≡ true → is_some p ≡ true) → is_some (cond b (Some x) o) ≡ true → is_some (cond b (Some x) p) ≡ true
  others_behind true o p rest some = refl
  others_behind false o p rest some = rest some

module _ {K X : Type 0} (cmp : K → K → Ordering) where
  found_at : (key : K) (value : X) (e : K × X) (es : List (K × X)) (o : Ordering) → cmp key e.0 ≡ o → lookup (is_at (cmp key)) (insert_entry cmp es key value) ≡ Some value → is_eq (cmp key key) ≡ true → lookup (is_at (cmp key)) (match_ordering o ((key, value) ∷ e ∷ es) ((e.0, value) ∷ es) (e ∷ insert_entry cmp es key value)) ≡ Some value
  found_at key value e es Less is rest itself = ap (λ b. cond b (Some value) (lookup (is_at (cmp key)) (e ∷ es))) itself
  found_at key value e es Equal is rest itself = ap (λ o. cond (is_eq o) (Some value) (lookup (is_at (cmp key)) es)) is
  found_at key value e es Greater is rest itself =
      ap (λ o. cond (is_eq o) (Some e.1) (lookup (is_at (cmp key)) (insert_entry cmp es key value))) is ∙ rest

  -- what is inserted is found
  pub lookup_new : (key : K) (value : X) (es : List (K × X)) → is_eq (cmp key key) ≡ true → lookup (is_at (cmp key)) (insert_entry cmp es key value) ≡ Some value
  lookup_new key value [] itself = ap (λ b. cond b (Some value) None) itself
  lookup_new key value (e ∷ es) itself = found_at key value e es (cmp key e.0) refl (lookup_new key value es itself) itself

  -- What another key has stays where an entry is removed or inserted.
  module _ (same : AreSame cmp) (q d : K) (other : is_eq (cmp q d) ≡ false) where
    removed_at : (e : K × X) (es : List (K × X)) (b : Bool) → is_eq (cmp d e.0) ≡ b → lookup (is_at (cmp q)) (remove_entry (is_at (cmp d)) es) ≡ lookup (is_at (cmp q)) es → lookup (is_at (cmp q)) (cond b es (e ∷ remove_entry (is_at (cmp d)) es)) ≡ lookup (is_at (cmp q)) (e ∷ es)
    removed_at e es true is rest = sym (ap (λ b. cond b (Some e.1) (lookup (is_at (cmp q)) es)) (not_at cmp same q d other e.0 is))
    removed_at e es false is rest = ap (λ r. cond (is_eq (cmp q e.0)) (Some e.1) r) rest

    pub lookup_removed : (es : List (K × X)) → lookup (is_at (cmp q)) (remove_entry (is_at (cmp d)) es) ≡ lookup (is_at (cmp q)) es
    lookup_removed [] = refl
    lookup_removed (e ∷ es) = removed_at e es (is_eq (cmp d e.0)) refl (lookup_removed es)

    inserted_at : (value : X) (e : K × X) (es : List (K × X)) (o : Ordering) → cmp d e.0 ≡ o → lookup (is_at (cmp q)) (insert_entry cmp es d value) ≡ lookup (is_at (cmp q)) es → lookup (is_at (cmp q)) (match_ordering o ((d, value) ∷ e ∷ es) ((e.0, value) ∷ es) (e ∷ insert_entry cmp es d value)) ≡ lookup (is_at (cmp q)) (e ∷ es)
    inserted_at value e es Less is rest = ap (λ b. cond b (Some value) (lookup (is_at (cmp q)) (e ∷ es))) other
    inserted_at value e es Equal is rest =
        let not = not_at cmp same q d other e.0 (ap is_eq is) in
        ap (λ b. cond b (Some value) (lookup (is_at (cmp q)) es)) not ∙ sym (ap (λ b. cond b (Some e.1) (lookup (is_at (cmp q)) es)) not)
    inserted_at value e es Greater is rest = ap (λ r. cond (is_eq (cmp q e.0)) (Some e.1) r) rest

    pub lookup_inserted : (value : X) (es : List (K × X)) → lookup (is_at (cmp q)) (insert_entry cmp es d value) ≡ lookup (is_at (cmp q)) es
    lookup_inserted value [] = ap (λ b. cond b (Some value) None) other
    lookup_inserted value (e ∷ es) = inserted_at value e es (cmp d e.0) refl (lookup_inserted value es)

  -- a key that has something has it, or something else, once an entry is inserted
  pub some_inserted : (q d : K) (value : X) (es : List (K × X)) → is_some (lookup (is_at (cmp q)) es) ≡ true → is_some (lookup (is_at (cmp q)) (insert_entry cmp es d value)) ≡ true
  some_inserted q d value [] some = absurd cc
  some_inserted q d value (e ∷ es) some = by (cmp d e.0) (some_inserted q d value es)
    where
      by : (o : Ordering) → (is_some (lookup (is_at (cmp q)) es) ≡ true → is_some (lookup (is_at (cmp q)) (insert_entry cmp es d value)) ≡ true) → is_some (lookup (is_at (cmp q)) (match_ordering o ((d, value) ∷ e ∷ es) ((e.0, value) ∷ es) (e ∷ insert_entry cmp es d value))) ≡ true
      by Less rest = here_or value value (is_at (cmp q) d) (lookup (is_at (cmp q)) (e ∷ es)) some
      by Equal rest = other_here e.1 value (is_at (cmp q) e.0) (lookup (is_at (cmp q)) es) some
      by Greater rest =
          others_behind e.1 value (is_at (cmp q) e.0) (lookup (is_at (cmp q)) es) (lookup (is_at (cmp q)) (insert_entry cmp es d value)) rest some

-- keys that differ do so both ways
pub other_way : {K : Type 0} (cmp : K → K → Ordering) → AreSame cmp → (a b : K) → is_eq (cmp a b) ≡ false → is_eq (cmp b a) ≡ false
other_way {K} cmp same a b other = by (is_eq (cmp b a)) refl
  where
    by : (r : Bool) → is_eq (cmp b a) ≡ r → is_eq (cmp b a) ≡ false
    by true is =
        let it : b ≡ a = same b a (is_equal (cmp b a) is) in
        absurd (true≢false (sym (subst (λ (k : K). is_eq (cmp k a) ≡ true) it is) ∙ subst (λ (k : K). is_eq (cmp a k) ≡ false) it other))
    by false is = is

-- a key that has something is among the keys
pub among_keys : {K X : Type 0} (cmp : K → K → Ordering) → AreSame cmp → (P : K → Type 0) (q : K) (es : List (K × X)) → is_some (lookup (is_at (cmp q)) es) ≡ true → AllByRecursion (λ (e : K × X). P e.0) es → P q
among_keys cmp same P q [] some all = absurd cc
among_keys {K} {X} cmp same P q (e ∷ es) some all = by (is_eq (cmp q e.0)) refl some (λ rest. among_keys cmp same P q es rest all.1)
  where
    by : (b : Bool) → is_eq (cmp q e.0) ≡ b → is_some (cond b (Some e.1) (lookup (is_at (cmp q)) es)) ≡ true → (is_some (lookup (is_at (cmp q)) es) ≡ true → P q) → P q
    by true is some rest = subst P (sym (same q e.0 (is_equal (cmp q e.0) is))) all.0
    by false is some rest = rest some

module _ {K X : Type 0} (cmp : K → K → Ordering) (q : K) where
  -- where nothing is found, all have other keys
  pub none_found : (es : List (K × X)) → lookup (is_at (cmp q)) es ≡ None → AllByRecursion (λ (e : K × X). is_eq (cmp q e.0) ≡ false) es
  none_found [] none = tt
  none_found (e ∷ es) none = by (is_eq (cmp q e.0)) refl none (λ rest. none_found es rest)
    where
      by : (b : Bool) → is_eq (cmp q e.0) ≡ b → cond b (Some e.1) (lookup (is_at (cmp q)) es) ≡ None → (lookup (is_at (cmp q)) es ≡ None → AllByRecursion (λ (x : K × X). is_eq (cmp q x.0) ≡ false) es) → AllByRecursion (λ (x : K × X). is_eq (cmp q x.0) ≡ false) (e ∷ es)
      by true is none rest = absurd cc
      by false is none rest = (is, rest none)

-- each entry's key has something
pub each_has : {K X : Type 0} (cmp : K → K → Ordering) → ((k : K) → is_eq (cmp k k) ≡ true) → (es : List (K × X)) → AllByRecursion (λ (e : K × X). is_some (lookup (is_at (cmp e.0)) es) ≡ true) es
each_has cmp itself [] = tt
each_has {K} {X} cmp itself (e ∷ es) =
    (ap (λ b. is_some (cond b (Some e.1) (lookup (is_at (cmp e.0)) es))) (itself e.0), all_weaker (λ (x : K × X). is_some (lookup (is_at (cmp x.0)) es) ≡ true) (λ (x : K × X). is_some (lookup (is_at (cmp x.0)) (e ∷ es)) ≡ true) (λ x some. here_or e.1 e.1 (is_at (cmp x.0) e.0) (lookup (is_at (cmp x.0)) es) some) es (each_has cmp itself es))

-- how many entries there are, after one is inserted or removed
module _ {K X : Type 0} where
  pub length-inserted : (cmp : K → K → Ordering) (key : K) (value : X) (es : List (K × X)) → length (insert_entry cmp es key value) ≤ length es + 1
  length-inserted cmp key value [] = omega arith
  length-inserted cmp key value (e ∷ es) =
      let rest = length-inserted cmp key value es in
      elim (cmp key e.0) as (λ o. length (match_ordering o ((key, value) ∷ e ∷ es) ((e.0, value) ∷ es) (e ∷ insert_entry cmp es key value)) ≤ length (e ∷ es) + 1) [ Less ↦ omega arith | Equal ↦ omega arith | Greater ↦ omega (arith, rest) ]

  pub length-removed_entry : (test : K → Bool) (es : List (K × X)) → length (remove_entry test es) ≤ length es
  length-removed_entry test [] = omega arith
  length-removed_entry test (e ∷ es) =
      let rest = length-removed_entry test es in
      elim (test e.0) as (λ b. length (cond b es (e ∷ remove_entry test es)) ≤ length (e ∷ es)) [ true ↦ omega arith | false ↦ omega (arith, rest) ]
