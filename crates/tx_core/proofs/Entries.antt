-- The first entry whose key passes a test, by its place.
use Rattle.std.proofs.Common.{◌≡◌, ℕ, ◌<◌, ◌∙◌, Bool, true, false, cond, List, [], ◌∷◌, ◌++◌, Some, None, length, get_or, set, refl, ap, arith, zero, suc}
use Rattle.std.specs.List.{AllByRecursion, AllWithin, HoldsAt, IsDistinct, list_any, remove}
use Rattle.std.specs.Map.{keys_of, lookup, remove_entry, set_value}

module _ {K X : Type 0} (test : K → Bool) where
  abbrev pub Misses : K × X → Type 0
  Misses e = test e.0 ≡ false

  abbrev pub Hits : K × X → Type 0
  Hits e = test e.0 ≡ true

  later : (e : K × X) (es : List (K × X)) (n : ℕ) → AllWithin Misses (e ∷ es) 0 (suc n) → AllWithin Misses es 0 n
  later e es n w = λ k d a b. w (suc k) d (omega arith) (omega arith)

  pub none_found : (es : List (K × X)) → AllWithin Misses es 0 (length es) → lookup test es ≡ None
  none_found [] w = refl
  none_found (e ∷ es) w = rw (w 0 e (omega arith) (omega arith)) (none_found es (later e es (length es) w))

  pub no_key : (es : List (K × X)) → AllWithin Misses es 0 (length es) → list_any test (keys_of es) ≡ false
  no_key [] w = refl
  no_key (e ∷ es) w = rw (w 0 e (omega arith) (omega arith)) (no_key es (later e es (length es) w))

  pub found_at : (es : List (K × X)) (i : ℕ) (d : K × X) → i < length es → HoldsAt Hits es i → AllWithin Misses es 0 i → lookup test es ≡ Some (get_or es i d).1
  found_at [] i d l h w = absurd (omega arith)
  found_at (e ∷ es) zero d l h w = rw (h e) refl
  found_at (e ∷ es) (suc i) d l h w = rw (w 0 e (omega arith) (omega arith)) (found_at es i d (omega arith) h (later e es i w))

  pub set_at : (es : List (K × X)) (i : ℕ) (d : K × X) (v : X) → i < length es → HoldsAt Hits es i → AllWithin Misses es 0 i → set es i ((get_or es i d).0, v) ≡ set_value test es v
  set_at [] i d v l h w = absurd (omega arith)
  set_at (e ∷ es) zero d v l h w = rw (h e) refl
  set_at (e ∷ es) (suc i) d v l h w = rw (w 0 e (omega arith) (omega arith)) (ap (λ rest. e ∷ rest) (set_at es i d v (omega arith) h (later e es i w)))

  pub removed_at : (es : List (K × X)) (i : ℕ) → i < length es → HoldsAt Hits es i → AllWithin Misses es 0 i → remove es i ≡ remove_entry test es
  removed_at [] i l h w = absurd (omega arith)
  removed_at (e ∷ es) zero l h w = rw (h e) refl
  removed_at (e ∷ es) (suc i) l h w = rw (w 0 e (omega arith) (omega arith)) (ap (λ rest. e ∷ rest) (removed_at es i (omega arith) h (later e es i w)))

  all_keys_removed : (P : K → Type 0) (es : List (K × X)) → AllByRecursion P (keys_of es) → AllByRecursion P (keys_of (remove_entry test es))
  all_keys_removed P [] all = tt
  all_keys_removed P (e ∷ es) all =
      elim (test e.0) as (λ b. AllByRecursion P (keys_of (cond b es (e ∷ remove_entry test es)))) [ true ↦ all.1 | false ↦ (all.0, all_keys_removed P es all.1) ]

  pub distinct_removed : (eq : K → K → Bool) (es : List (K × X)) → IsDistinct eq (keys_of es) → IsDistinct eq (keys_of (remove_entry test es))
  unfolding IsDistinct
  distinct_removed eq [] distinct = tt
  distinct_removed eq (e ∷ es) distinct =
      elim (test e.0) as (λ b. IsDistinct eq (keys_of (cond b es (e ∷ remove_entry test es)))) [ true ↦ distinct.1 | false ↦ (all_keys_removed (λ y. eq e.0 y ≡ false) es distinct.0, distinct_removed eq es distinct.1) ]

pub keys_pushed : {K X : Type 0} (es : List (K × X)) (e : K × X) → keys_of (es ++ e ∷ []) ≡ keys_of es ++ e.0 ∷ []
keys_pushed [] e = refl
keys_pushed (x ∷ es) e = ap (λ rest. x.0 ∷ rest) (keys_pushed es e)

module _ {K X : Type 0} where
  pub keys_set : (es : List (K × X)) (i : ℕ) (old new : K × X) → old ≡ get_or es i old → new.0 ≡ old.0 → keys_of (set es i new) ≡ keys_of es
  keys_set [] i old new is same = refl
  keys_set (x ∷ es) zero old new is same = ap (λ k. k ∷ keys_of es) (same ∙ ap (λ (e : K × X). e.0) is)
  keys_set (x ∷ es) (suc i) old new is same = ap (λ rest. x.0 ∷ rest) (keys_set es i old new is same)
