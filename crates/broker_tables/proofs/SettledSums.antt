use Rattle.std.proofs.Common.{◌≡◌, ◌≤◌, ◌+◌, ◌++◌, List, [], ◌∷◌, ℕ, Bool, true, false, Some, cond, length, refl, ap, ◌∙◌, arith, slice_get, take}
use Rattle.std.specs.List.{sum_by}
use Rattle.std.proofs.lemmas.List.Elements.{filter_more}
use Rattle.std.proofs.lemmas.List.Sums.{sum_by-append, sum_by-cons}
use Rattle.std.proofs.lemmas.Option.{get_or_from_slice_get, slice_get_within}
use Rattle.line_core.specs.declared.message.Message.{Message}
use Rattle.command_core.specs.declared.command.AckMode.{AckMode}
use Rattle.line_core.specs.Flights.{settled, settles}
use Rattle.broker_state.specs.Dead.{dead_queue, is_dropped, refused, refused_from, with_refused}
use Rattle.broker_state.specs.Names.{text_cmp}
use Rattle.broker_state.specs.Waiting.{Lines, with_message}
use Rattle.broker_tables.specs.Refusals.{all_kept, all_kept_bytes, kept_bytes, kept_one}

-- What is summed over settled deliveries, with one delivery more.
module _ {X : Type 0} (f : ℕ × X → ℕ) (mode : AckMode) (d : ℕ) (xs : List (ℕ × X)) (at : ℕ) (item : ℕ × X) (is : slice_get xs at ≡ Some item) where
  abbrev before : List (ℕ × X)
  before = settled mode d (take at xs)

  abbrev one : Bool → List (ℕ × X)
  one b = cond b (item ∷ []) []

  settled_more : settled mode d (take (at + 1) xs) ≡ before ++ one (settles mode d item.0)
  settled_more =
      filter_more (λ (x : ℕ × X). settles mode d x.0) xs at item (slice_get_within xs at item is)
      ∙ ap (λ (x : ℕ × X). before ++ cond (settles mode d x.0) (x ∷ []) []) (get_or_from_slice_get xs at item item is)

  one_sum : (b : Bool) → sum_by f (one b) ≡ cond b (f item) 0
  one_sum true = omega (arith, sum_by-cons f item [])
  one_sum false = refl

  pub sum_more : (b : Bool) → settles mode d item.0 ≡ b → sum_by f (settled mode d (take (at + 1) xs)) ≡ sum_by f before + cond b (f item) 0
  sum_more b settling =
      omega (arith, ap (sum_by f) settled_more, sum_by-append f before (one (settles mode d item.0)), ap (λ c. sum_by f (one c)) settling, one_sum b)

-- what is kept is no more than what was settled
pub few_kept : (own : Bool) (deliveries : List (ℕ × Message)) → all_kept own deliveries ≤ length deliveries
few_kept own [] = omega arith
few_kept own (d ∷ deliveries) =
    omega (arith, few_kept own deliveries, by (is_dropped own d.1), sum_by-cons (λ (x : ℕ × Message). kept_one own x.1) d deliveries)
  where
    by : (b : Bool) → cond b 0 1 ≤ 1
    by true = omega arith
    by false = omega arith

-- the first of settled messages is kept before the others, or dropped
module _ (own : Bool) (command place : ℕ) (d : ℕ × Message) (deliveries : List (ℕ × Message)) where
  pub first_kept : (lines : Lines (List ℕ)) → with_refused (refused_from (is_dropped own) command place (d ∷ deliveries)) lines ≡ with_refused (refused_from (is_dropped own) command (place + 1) deliveries) (cond (is_dropped own d.1) lines (with_message text_cmp dead_queue (refused command place d.1) lines))
  first_kept lines = by (is_dropped own d.1)
    where
      by : (b : Bool) → with_refused (cond b (refused_from (is_dropped own) command (place + 1) deliveries) (refused command place d.1 ∷ refused_from (is_dropped own) command (place + 1) deliveries)) lines ≡ with_refused (refused_from (is_dropped own) command (place + 1) deliveries) (cond b lines (with_message text_cmp dead_queue (refused command place d.1) lines))
      by true = refl
      by false = refl

  pub first_one : all_kept own (d ∷ deliveries) ≡ kept_one own d.1 + all_kept own deliveries
  first_one = sum_by-cons (λ (x : ℕ × Message). kept_one own x.1) d deliveries

  pub first_bytes : all_kept_bytes own (d ∷ deliveries) ≡ kept_bytes own d.1 + all_kept_bytes own deliveries
  first_bytes = sum_by-cons (λ (x : ℕ × Message). kept_bytes own x.1) d deliveries
