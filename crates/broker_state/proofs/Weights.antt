use Rattle.std.proofs.Common.{◌≡◌, ◌<◌, ◌≤◌, ◌+◌, ◌*◌, ◌&&◌, List, [], ◌∷◌, ℕ, suc, zero, Bool, true, false, cond, Some, length, map, refl, sym, ap, subst, ◌∙◌, arith, slice_get, remove, not, take, drop}
use Rattle.std.specs.List.{AllByRecursion, count_by, filter, sum_by}
use Rattle.std.specs.Str.{bytes_eq}
use Rattle.std.proofs.lemmas.List.Sums.{sum_by-cons, sum_by-remove}
use Rattle.std.proofs.lemmas.Option.{get_or_from_slice_get, same_Some, slice_get_within}
use Rattle.frame_core.proofs.Lists.{all_append}
use Rattle.line_core.proofs.Flights.{sum_by-settled}
use Rattle.line_core.proofs.Inserted.{sum_by-inserted}
use Rattle.line_core.specs.declared.message.Message.{Message}
use Rattle.line_core.specs.Flights.{IsOver, settled, settles}
use Rattle.line_core.specs.Lines.{inserted}
use Rattle.broker_state.specs.declared.subscription.Subscription.{Subscription}
use Rattle.broker_state.specs.Lists.{changed}
use Rattle.broker_state.specs.Names.{Name, name_cmp}
use Rattle.broker_state.specs.Operations.{copied, copied_to_names, settled_by}
use Rattle.broker_state.specs.Waiting.{Lines, is_own, weight_of_lines, with_message}
use Rattle.broker_state.proofs.KeyedLines.{IsRising, rising-with_message, weight-with_message}
use Rattle.broker_state.proofs.Keys.{names_total, same_names}
use Rattle.broker_state.specs.States.{weight_of_subscription}

-- a sum without the item in a place, with another there, and no less than that item's part
module _ {X : Type 0} (f : X → ℕ) where
  pub sum_by-removed : (xs : List X) (at : ℕ) (x : X) → slice_get xs at ≡ Some x → sum_by f (remove xs at) + f x ≡ sum_by f xs
  sum_by-removed xs at x is =
      ap (λ y. sum_by f (remove xs at) + f y) (sym (get_or_from_slice_get xs at x x is)) ∙ sum_by-remove f xs at x (slice_get_within xs at x is)

  pub sum_by-changed : (g : X → X) (xs : List X) (at : ℕ) (x : X) → slice_get xs at ≡ Some x → sum_by f (changed at g xs) + f x ≡ sum_by f xs + f (g x)
  sum_by-changed g [] at x is = absurd (omega (arith, slice_get_within [] at x is))
  sum_by-changed g (y ∷ ys) zero x is =
      let same = same_Some y x is in
      omega (arith, sum_by-cons f y ys, sum_by-cons f (g y) ys, ap f same, ap (λ z. f (g z)) same)
  sum_by-changed g (y ∷ ys) (suc at) x is =
      omega (arith, sum_by-cons f y ys, sum_by-cons f y (changed at g ys), sum_by-changed g ys at x is)

  pub sum_by-part : (xs : List X) (at : ℕ) (x : X) → slice_get xs at ≡ Some x → f x ≤ sum_by f xs
  sum_by-part xs at x is = omega (arith, sum_by-removed xs at x is)

-- what holds of all holds without the item in a place, of that item, and with another there of which it holds
module _ {X : Type 0} (P : X → Type 0) where
  all_taken : (n : ℕ) (xs : List X) → AllByRecursion P xs → AllByRecursion P (take n xs)
  all_taken zero xs all = tt
  all_taken (suc n) [] all = tt
  all_taken (suc n) (x ∷ xs) all = (all.0, all_taken n xs all.1)

  all_dropped : (n : ℕ) (xs : List X) → AllByRecursion P xs → AllByRecursion P (drop n xs)
  all_dropped zero xs all = all
  all_dropped (suc n) [] all = tt
  all_dropped (suc n) (x ∷ xs) all = all_dropped n xs all.1

  pub all_removed : (xs : List X) (at : ℕ) → AllByRecursion P xs → AllByRecursion P (remove xs at)
  all_removed xs at all =
      all_append P (take at xs) (drop (suc at) xs) (all_taken at xs all) (all_dropped (suc at) xs all)

  pub all_at : (xs : List X) (at : ℕ) (x : X) → slice_get xs at ≡ Some x → AllByRecursion P xs → P x
  all_at [] at x is all = absurd (omega (arith, slice_get_within [] at x is))
  all_at (y ∷ ys) zero x is all = rw (← same_Some y x is) all.0
  all_at (y ∷ ys) (suc at) x is all = all_at ys at x is all.1

  pub all_changed : (g : X → X) → ((x : X) → P x → P (g x)) → (xs : List X) (at : ℕ) → AllByRecursion P xs → AllByRecursion P (changed at g xs)
  all_changed g keeps [] at all = tt
  all_changed g keeps (x ∷ xs) zero all = (keeps x all.0, all.1)
  all_changed g keeps (x ∷ xs) (suc at) all = (all.0, all_changed g keeps xs at all.1)

  pub all_mapped : (g : X → X) → ((x : X) → P x → P (g x)) → (xs : List X) → AllByRecursion P xs → AllByRecursion P (map g xs)
  all_mapped g keeps [] all = tt
  all_mapped g keeps (x ∷ xs) all = (keeps x all.0, all_mapped g keeps xs all.1)

-- each counts for one
module _ {X : Type 0} where
  pub ones : (xs : List X) → sum_by (λ x. 1) xs ≡ length xs
  ones [] = refl
  ones (x ∷ xs) = omega (arith, sum_by-cons (λ (y : X). 1) x xs, ones xs)

module _ (weight : Message → ℕ) where
  copied_one : (m : Message) (sub : Subscription) (b : Bool) → (is_own sub && bytes_eq sub.destination m.sending.destination) ≡ b → weight_of_subscription weight (copied m sub) ≡ weight_of_subscription weight sub + cond b 1 0 * weight m
  copied_one m sub true is =
      ap (λ b. weight_of_subscription weight (cond b (record sub { line = inserted m sub.line }) sub)) is ∙ omega (arith, sum_by-inserted m weight sub.line)
  copied_one m sub false is =
      ap (λ b. weight_of_subscription weight (cond b (record sub { line = inserted m sub.line }) sub)) is ∙ omega arith

  -- a message weighs as often as there are subscriptions of its topic with a line of their own
  pub weight-copied : (m : Message) (subs : List Subscription) → sum_by (weight_of_subscription weight) (map (copied m) subs) ≡ sum_by (weight_of_subscription weight) subs + count_by (λ sub. is_own sub && bytes_eq sub.destination m.sending.destination) subs * weight m
  weight-copied m [] = omega arith
  weight-copied m (sub ∷ subs) =
      let same = λ (s : Subscription). is_own s && bytes_eq s.destination m.sending.destination in
      let w = weight_of_subscription weight in
      let here : w (copied m sub) ≡ w sub + cond (same sub) 1 0 * weight m = copied_one m sub (same sub) refl in
      let new : sum_by w (map (copied m) (sub ∷ subs)) ≡ w (copied m sub) + sum_by w (map (copied m) subs) = sum_by-cons w (copied m sub) (map (copied m) subs) in
      let counted : count_by same (sub ∷ subs) * weight m ≡ (cond (same sub) 1 0 + count_by same subs) * weight m = ap (λ n. n * weight m) (sum_by-cons (λ (s : Subscription). cond (same s) 1 0) sub subs) in
      omega (arith, here, new, counted, weight-copied m subs, sum_by-cons w sub subs)

  names_by : (m : Message) (durable : Name × List ℕ) (names : Lines Name) (b : Bool) → bytes_eq durable.1 m.sending.destination ≡ b → IsRising name_cmp names_total names → IsRising name_cmp names_total (cond (bytes_eq durable.1 m.sending.destination) (with_message name_cmp durable.0 m names) names) × (weight_of_lines weight (cond (bytes_eq durable.1 m.sending.destination) (with_message name_cmp durable.0 m names) names) ≡ weight_of_lines weight names + cond b 1 0 * weight m)
  names_by m durable names true is rising =
      subst (λ b. IsRising name_cmp names_total (cond b (with_message name_cmp durable.0 m names) names) × (weight_of_lines weight (cond b (with_message name_cmp durable.0 m names) names) ≡ weight_of_lines weight names + 1 * weight m)) (sym is) (rising-with_message name_cmp names_total durable.0 m names rising, omega (arith, weight-with_message name_cmp names_total same_names weight durable.0 m names rising))
  names_by m durable names false is rising =
      subst (λ b. IsRising name_cmp names_total (cond b (with_message name_cmp durable.0 m names) names) × (weight_of_lines weight (cond b (with_message name_cmp durable.0 m names) names) ≡ weight_of_lines weight names + 0 * weight m)) (sym is) (rising, omega arith)

  -- and as often as there are durable names of its topic
  pub weight-copied_to_names : (m : Message) (durables : List (Name × List ℕ)) (names : Lines Name) → IsRising name_cmp names_total names → IsRising name_cmp names_total (copied_to_names m durables names) × (weight_of_lines weight (copied_to_names m durables names) ≡ weight_of_lines weight names + count_by (λ durable. bytes_eq durable.1 m.sending.destination) durables * weight m)
  weight-copied_to_names m [] names rising = (rising, omega arith)
  weight-copied_to_names m (durable ∷ durables) names rising =
      let same = λ (d : Name × List ℕ). bytes_eq d.1 m.sending.destination in
      let here = names_by m durable names (same durable) refl rising in
      let rest = weight-copied_to_names m durables (cond (same durable) (with_message name_cmp durable.0 m names) names) here.0 in
      let counted : count_by same (durable ∷ durables) * weight m ≡ (cond (same durable) 1 0 + count_by same durables) * weight m = ap (λ n. n * weight m) (sum_by-cons (λ (d : Name × List ℕ). cond (same d) 1 0) durable durables) in
      (rest.0, omega (arith, rest.1, here.1, counted))

  -- what an acknowledgement settles weighs no more
  pub weight-settled_by : (delivery : ℕ) (sub : Subscription) → weight_of_subscription weight (settled_by delivery sub) + sum_by (λ item. weight item.1) (settled sub.mode delivery sub.unacknowledged) ≡ weight_of_subscription weight sub
  weight-settled_by delivery sub =
      omega (arith, sum_by-settled (λ (item : ℕ × Message). weight item.1) sub.mode delivery sub.unacknowledged)

-- fewer deliveries are under the same number
all_filtered : {X : Type 0} (P : X → Type 0) (test : X → Bool) (xs : List X) → AllByRecursion P xs → AllByRecursion P (filter test xs)
all_filtered P test [] all = tt
all_filtered P test (x ∷ xs) all =
    elim (test x) as (λ b. AllByRecursion P (cond b (x ∷ filter test xs) (filter test xs))) [ true ↦ (all.0, all_filtered P test xs all.1) | false ↦ all_filtered P test xs all.1 ]

pub over_settled_by : (number delivery : ℕ) (sub : Subscription) → IsOver number sub.unacknowledged → IsOver number (settled_by delivery sub).unacknowledged
over_settled_by number delivery sub over =
    all_filtered (λ (item : ℕ × Message). item.0 < number) (λ item. not (settles sub.mode delivery item.0)) sub.unacknowledged over

-- what holds of a subscription and of it with the message in its line holds of it whether it gets a copy or not
pub copied_keeps : (P : Subscription → Type 0) (m : Message) (sub : Subscription) → P sub → P (record sub { line = inserted m sub.line }) → P (copied m sub)
copied_keeps P m sub without with_it =
    elim (is_own sub && bytes_eq sub.destination m.sending.destination) as (λ b. P (cond b (record sub { line = inserted m sub.line }) sub)) [ true ↦ with_it | false ↦ without ]

pub over_copied : (number : ℕ) (m : Message) (sub : Subscription) → IsOver number sub.unacknowledged → IsOver number (copied m sub).unacknowledged
over_copied number m sub over =
    copied_keeps (λ x. IsOver number x.unacknowledged) m sub over over
