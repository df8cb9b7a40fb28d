use Rattle.std.proofs.Common.{◌≡◌, ◌+◌, ◌++◌, List, [], ◌∷◌, Bool, true, false, not, Option, Some, None, cond, filter, length, refl, sym, ap, ◌∙◌, subst, arith, if◌then◌else◌}
use Rattle.std.specs.List.{AllByRecursion}
use Rattle.std.specs.Option.{option_map}
use Rattle.std.proofs.lemmas.List.{length-append}
use Rattle.frame_core.proofs.Lists.{all_append, all_left, all_right}
use Rattle.broker_state.specs.Lists.{picked, with_first}
use Rattle.broker_state.specs.Parts.{NonePass}
use Rattle.broker_state.proofs.Ending.{kept_behind, others_behind}
use Rattle.broker_state.proofs.Firsts.{same_some}

module _ {X : Type 0} (p : X → Bool) where
  -- what is picked stands behind those that do not pass, and the others stay as they stood
  pub record IsParted (xs : List X) (x : X) (ys : List X) : Type 0 where
    pub front : List X
    pub back : List X
    pub all : xs ≡ front ++ x ∷ back
    pub others : ys ≡ front ++ back
    pub passes : p x ≡ true
    pub before : NonePass p front

  pub parted : (xs : List X) (x : X) (ys : List X) → picked p xs ≡ Some (x, ys) → IsParted xs x ys
  parted [] x ys is = absurd cc
  parted (z ∷ zs) x ys is = by (p z) refl is (λ y qs rest. parted zs y qs rest)
    where
      behind_one : ((y : X) (qs : List X) → picked p zs ≡ Some (y, qs) → IsParted zs y qs) → p z ≡ false → (o : Option (X × List X)) → picked p zs ≡ o → option_map {U = X × List X} (λ (q : X × List X). (q.0, z ∷ q.1)) o ≡ Some (x, ys) → IsParted (z ∷ zs) x ys
      behind_one tails fails None rest made = absurd cc
      behind_one tails fails (Some q) rest made =
          let t = tails q.0 q.1 rest in
          subst (λ (r : X × List X). IsParted (z ∷ zs) r.0 r.1) (same_some _ _ made) (record { front = z ∷ t.front; back = t.back; all = ap (λ l. z ∷ l) t.all; others = ap (λ l. z ∷ l) t.others; passes = t.passes; before = (fails, t.before) })

      by : (b : Bool) → p z ≡ b → (if b then Some (z, zs) else option_map {U = X × List X} (λ (q : X × List X). (q.0, z ∷ q.1)) (picked p zs)) ≡ Some (x, ys) → ((y : X) (qs : List X) → picked p zs ≡ Some (y, qs) → IsParted zs y qs) → IsParted (z ∷ zs) x ys
      by true passes made tails = subst (λ (r : X × List X). IsParted (z ∷ zs) r.0 r.1) (same_some _ _ made) (record { front = []; back = zs; all = refl; others = refl; passes = passes; before = tt })
      by false fails made tails = behind_one tails fails (picked p zs) refl made

  -- where none is picked, none passes
  pub picked_nothing : (xs : List X) → picked p xs ≡ None → NonePass p xs
  picked_nothing [] is = tt
  picked_nothing (z ∷ zs) is = by (p z) refl is (λ rest. picked_nothing zs rest)
    where
      behind_one : (picked p zs ≡ None → NonePass p zs) → (o : Option (X × List X)) → picked p zs ≡ o → option_map {U = X × List X} (λ (q : X × List X). (q.0, z ∷ q.1)) o ≡ None → NonePass p zs
      behind_one tails None rest made = tails rest
      behind_one tails (Some q) rest made = absurd cc

      by : (b : Bool) → p z ≡ b → (if b then Some (z, zs) else option_map {U = X × List X} (λ (q : X × List X). (q.0, z ∷ q.1)) (picked p zs)) ≡ None → (picked p zs ≡ None → NonePass p zs) → NonePass p (z ∷ zs)
      by true passes made tails = absurd cc
      by false fails made tails = (fails, behind_one tails (picked p zs) refl made)

  module _ (xs : List X) (x : X) (ys : List X) (is : picked p xs ≡ Some (x, ys)) where
    -- what is picked passes
    pub picked_passes : p x ≡ true
    picked_passes = (parted xs x ys is).passes

    -- what holds of all holds of it and of the others
    pub all_picked : (Q : X → Type 0) → AllByRecursion Q xs → Q x × AllByRecursion Q ys
    all_picked Q all =
        let t = parted xs x ys is in
        let whole : AllByRecursion Q (t.front ++ x ∷ t.back) = subst (AllByRecursion Q) t.all all in
        let behind = all_right Q t.front (x ∷ t.back) whole in
        (behind.0, subst (AllByRecursion Q) (sym t.others) (all_append Q t.front t.back (all_left Q t.front (x ∷ t.back) whole) behind.1))

    -- it is the first of those that pass, and the others that do not stay
    pub filter-picked : filter p xs ≡ x ∷ filter p ys
    filter-picked =
        let t = parted xs x ys is in
        ap (filter p) t.all ∙ kept_behind p t.front (x ∷ t.back) t.before
        ∙ ap (λ b. cond b (x ∷ filter p t.back) (filter p t.back)) t.passes
        ∙ ap (λ zs. x ∷ zs) (sym (kept_behind p t.front t.back t.before) ∙ sym (ap (filter p) t.others))

    pub filter-unpicked : filter (λ y. not (p y)) ys ≡ filter (λ y. not (p y)) xs
    filter-unpicked =
        let t = parted xs x ys is in
        ap (filter (λ y. not (p y))) t.others ∙ sym (others_behind p t.front t.back x t.passes) ∙ sym (ap (filter (λ y. not (p y))) t.all)

    pub length-picked : length ys + 1 ≡ length xs
    length-picked =
        let t = parted xs x ys is in
        omega (arith, length-append t.front t.back, length-append t.front (x ∷ t.back), ap length t.all, ap length t.others)

  -- what holds of all holds once the first that passes is changed, where the change keeps it
  pub all_with_first : (Q : X → Type 0) (f : X → X) → ((x : X) → p x ≡ true → Q x → Q (f x)) → (xs : List X) → AllByRecursion Q xs → AllByRecursion Q (with_first p f xs)
  all_with_first Q f keeps [] all = tt
  all_with_first Q f keeps (x ∷ xs) all = by (p x) refl (all_with_first Q f keeps xs all.1)
    where
      by : (b : Bool) → p x ≡ b → AllByRecursion Q (with_first p f xs) → AllByRecursion Q (if b then f x ∷ xs else x ∷ with_first p f xs)
      by true passes rest = (keeps x passes all.0, all.1)
      by false fails rest = (all.0, rest)
