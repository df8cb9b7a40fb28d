use Rattle.std.proofs.Common.{◌≡◌, ◌<◌, ◌+◌, ◌++◌, List, [], ◌∷◌, ℕ, suc, zero, Bool, true, cond, not, Some, drop, filter, length, refl, sym, ap, ◌∙◌, arith, remove, slice_get, take}
use Rattle.std.proofs.lemmas.List.{length-append}
use Rattle.std.proofs.lemmas.Option.{same_Some, slice_get_within}
use Rattle.broker_state.specs.Parts.{NonePass}
use Rattle.broker_state.specs.States.{State}

module _ {X : Type 0} where
  -- a list is what stands before a place, the item in it, and what stands behind it
  parted : (xs : List X) (at : ℕ) (x : X) → slice_get xs at ≡ Some x → xs ≡ take at xs ++ x ∷ drop (suc at) xs
  parted [] at x is = absurd (omega (arith, slice_get_within [] at x is))
  parted (y ∷ ys) zero x is = ap (λ z. z ∷ ys) (same_Some y x is)
  parted (y ∷ ys) (suc at) x is = ap (λ zs. y ∷ zs) (parted ys at x is)

  pub length-removed : (xs : List X) (at : ℕ) (x : X) → slice_get xs at ≡ Some x → length (remove xs at) + 1 ≡ length xs
  length-removed xs at x is =
      omega (arith, length-append (take at xs) (drop (suc at) xs), length-append (take at xs) (x ∷ drop (suc at) xs), ap length (parted xs at x is))

  pub take-removed : (xs : List X) (at : ℕ) → at < length xs → take at (remove xs at) ≡ take at xs
  take-removed xs zero within = refl
  take-removed [] (suc at) within = absurd (omega arith)
  take-removed (x ∷ xs) (suc at) within =
      ap (λ zs. x ∷ zs) (take-removed xs at (omega arith))

  module _ (p : X → Bool) where
    pub kept_behind : (ys zs : List X) → NonePass p ys → filter p (ys ++ zs) ≡ filter p zs
    kept_behind [] zs none = refl
    kept_behind (y ∷ ys) zs none =
        ap (λ b. cond b (y ∷ filter p (ys ++ zs)) (filter p (ys ++ zs))) none.0 ∙ kept_behind ys zs none.1

    -- the first that passes is the first of those that pass
    pub filter-first : (xs : List X) (at : ℕ) (x : X) → slice_get xs at ≡ Some x → p x ≡ true → NonePass p (take at xs) → filter p xs ≡ x ∷ filter p (remove xs at)
    filter-first xs at x is passes none =
        ap (filter p) (parted xs at x is)
        ∙ kept_behind (take at xs) (x ∷ drop (suc at) xs) none
        ∙ ap (λ b. cond b (x ∷ filter p (drop (suc at) xs)) (filter p (drop (suc at) xs))) passes
        ∙ ap (λ zs. x ∷ zs) (sym (kept_behind (take at xs) (drop (suc at) xs) none))

    pub others_behind : (ys zs : List X) (x : X) → p x ≡ true → filter (λ y. not (p y)) (ys ++ x ∷ zs) ≡ filter (λ y. not (p y)) (ys ++ zs)
    others_behind [] zs x passes =
        ap (λ b. cond (not b) (x ∷ filter (λ y. not (p y)) zs) (filter (λ y. not (p y)) zs)) passes
    others_behind (y ∷ ys) zs x passes =
        ap (λ l. cond (not (p y)) (y ∷ l) l) (others_behind ys zs x passes)

    -- without it the others stay
    pub filter-others : (xs : List X) (at : ℕ) (x : X) → slice_get xs at ≡ Some x → p x ≡ true → filter (λ y. not (p y)) (remove xs at) ≡ filter (λ y. not (p y)) xs
    filter-others xs at x is passes =
        sym (ap (filter (λ y. not (p y))) (parted xs at x is) ∙ others_behind (take at xs) (drop (suc at) xs) x passes)

    -- where none passes, all are others
    pub filter-none : (xs : List X) → NonePass p xs → filter p xs ≡ []
    filter-none [] none = refl
    filter-none (x ∷ xs) none =
        ap (λ b. cond b (x ∷ filter p xs) (filter p xs)) none.0 ∙ filter-none xs none.1

    pub filter-all_others : (xs : List X) → NonePass p xs → filter (λ y. not (p y)) xs ≡ xs
    filter-all_others [] none = refl
    filter-all_others (x ∷ xs) none =
        ap (λ b. cond (not b) (x ∷ filter (λ y. not (p y)) xs) (filter (λ y. not (p y)) xs)) none.0 ∙ ap (λ zs. x ∷ zs) (filter-all_others xs none.1)

-- states are the same where their fields are
pub same_state : (s t : State) → s.count ≡ t.count → s.next_delivery ≡ t.next_delivery → s.sessions ≡ t.sessions → s.durables ≡ t.durables → s.shared ≡ t.shared → s.subscriptions ≡ t.subscriptions → s ≡ t
same_state s t count next sessions durables shared subs =
    ap (λ v. record s { count = v }) count
    ∙ ap (λ v. record s { count = t.count; next_delivery = v }) next
    ∙ ap (λ v. record s { count = t.count; next_delivery = t.next_delivery; sessions = v }) sessions
    ∙ ap (λ v. record s { count = t.count; next_delivery = t.next_delivery; sessions = t.sessions; durables = v }) durables
    ∙ ap (λ v. record t { shared = v; subscriptions = s.subscriptions }) shared
    ∙ ap (λ v. record t { subscriptions = v }) subs
