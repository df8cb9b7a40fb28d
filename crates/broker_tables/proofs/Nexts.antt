use Rattle.std.proofs.Common.{◌≡◌, ◌<◌, cond, ◌&&◌, ◌||◌, List, [], ◌∷◌, ℕ, suc, zero, Bool, true, false, Some, count_by, is_some, not, refl, sym, ap, ◌∙◌, arith, slice_get, take}
use Rattle.std.specs.Str.{bytes_eq}
use Rattle.std.proofs.lemmas.List.Sums.{sum_by-cons}
use Rattle.std.proofs.lemmas.Slice.Eq.{bytes_eq-Decides}
use Rattle.command_core.specs.Destinations.{is_queue}
use Rattle.broker_state.specs.declared.subscription.Subscription.{Subscription}
use Rattle.broker_state.specs.Parts.{NonePass}
use Rattle.broker_state.specs.Waiting.{is_own}
use Rattle.waiting_order.specs.Directories.{is_plain_at}

module _ {X : Type 0} (q : X → Bool) where
  -- none in a place before one passes
  pub none_taken : (xs : List X) (at : ℕ) → ((i : ℕ) (x : X) → slice_get xs i ≡ Some x → i < at → q x ≡ false) → NonePass q (take at xs)
  none_taken [] zero each = tt
  none_taken [] (suc at) each = tt
  none_taken (x ∷ xs) zero each = tt
  none_taken (x ∷ xs) (suc at) each =
      (each 0 x refl (omega arith), none_taken xs at (λ i y is less. each (suc i) y is (omega (arith, less))))

-- a subscription without a durable name listens to its topic
pub plain_listens : (to : List ℕ) → is_queue to ≡ false → (sub : Subscription) → is_plain_at to sub ≡ (is_own sub && bytes_eq sub.destination to)
plain_listens to topic sub = by (bytes_eq sub.destination to) refl
  where
    parts : (a c : Bool) → c ≡ false → (not a && true) ≡ (not (a || c) && true)
    parts true c is = refl
    parts false true is = absurd cc
    parts false false is = refl

    none : (a : Bool) → (a && false) ≡ false
    none true = refl
    none false = refl

    by : (b : Bool) → bytes_eq sub.destination to ≡ b → is_plain_at to sub ≡ (is_own sub && bytes_eq sub.destination to)
    by true same =
        let queue : is_queue sub.destination ≡ false = ap is_queue ((bytes_eq-Decides sub.destination to).0 same) ∙ topic in
        rw same (parts (is_some sub.durable) (is_queue sub.destination) queue)
    by false other = rw other (none (not (is_some sub.durable)) ∙ sym (none (is_own sub)))

abbrev one : Bool → ℕ
one b = cond b 1 0

-- tests that answer alike count alike
pub count_alike : {X : Type 0} (p q : X → Bool) → ((x : X) → p x ≡ q x) → (xs : List X) → count_by p xs ≡ count_by q xs
count_alike p q alike [] = refl
count_alike {X} p q alike (x ∷ xs) =
    omega (arith, sum_by-cons (λ (y : X). one (p y)) x xs, sum_by-cons (λ (y : X). one (q y)) x xs, ap one (alike x), count_alike p q alike xs)
