use Rattle.std.proofs.Common.{◌≡◌, ◌<◌, ◌≤◌, ◌+◌, ◌^◌, ◌∙◌, List, [], ◌∷◌, ℕ, Some, false, length, slice_get, ap, arith}
use Rattle.std.specs.List.{AllByRecursion, sum_by}
use Rattle.std.specs.Map.{values_of}
use Rattle.std.specs.declared.cmp.Ordering.{Ordering}
use Rattle.std.proofs.lemmas.List.Sums.{sum_by-cons}
use Rattle.line_core.specs.declared.message.Message.{Message}
use Rattle.broker_state.specs.declared.subscription.Subscription.{Subscription}
use Rattle.broker_core.specs.Lists.{is_none}
use Rattle.broker_core.specs.Names.{Name, name_cmp}
use Rattle.broker_core.specs.Sound.{IsSound}
use Rattle.broker_core.specs.States.{State, one, weight_of_subscription}
use Rattle.broker_core.specs.Waiting.{Lines, is_own, line_at, weight_of_lines}
use Rattle.broker_state.proofs.KeyedLines.{weight-removed}
use Rattle.broker_state.proofs.Weights.{all_at, ones}

-- What stands in a state that a broker can have, four bytes can count: no more than 4,096 messages are held.

some_counted : {X : Type 0} (xs : List X) → is_none xs ≡ false → 0 < length xs
some_counted [] some = absurd cc
some_counted (x ∷ xs) some = omega arith

module _ {K : Type 0} where
  weight_first : (e : K × List Message) (lines : Lines K) → weight_of_lines one (e ∷ lines) ≡ length e.1 + weight_of_lines one lines
  weight_first e lines =
      sum_by-cons (λ (line : List Message). sum_by one line) e.1 (values_of lines) ∙ ap (λ n. n + weight_of_lines one lines) (ones e.1)

  -- each line has no more messages than all lines
  each_counted : (lines : Lines K) (n : ℕ) → weight_of_lines one lines < n → AllByRecursion (λ (e : K × List Message). length e.1 < n) lines
  each_counted [] n most = tt
  each_counted (e ∷ lines) n most =
      (omega (arith, weight_first e lines, most), each_counted lines n (omega (arith, weight_first e lines, most)))

  line_counted : (cmp : K → K → Ordering) (key : K) (lines : Lines K) (n : ℕ) → weight_of_lines one lines < n → length (line_at cmp key lines) < n
  line_counted cmp key lines n most = omega (arith, weight-removed one cmp key lines, ones (line_at cmp key lines), most)

  -- and there are no more lines than messages, where none is empty
  lines_counted : (P : K × List Message → Type 0) → ((e : K × List Message) → P e → is_none e.1 ≡ false) → (lines : Lines K) → AllByRecursion P lines → length lines ≤ weight_of_lines one lines
  lines_counted P some [] all = omega arith
  lines_counted P some (e ∷ lines) all =
      omega (arith, weight_first e lines, some_counted e.1 (some e all.0), lines_counted P some lines all.1)

-- a subscription of which four bytes can count what waits, and what is not acknowledged
abbrev pub HoldsFew : Subscription → Type 0
HoldsFew sub = (length sub.line < 2 ^ 32) × (length sub.unacknowledged < 2 ^ 32)

each_few : (subs : List Subscription) → sum_by (weight_of_subscription one) subs < 2 ^ 32 → AllByRecursion HoldsFew subs
each_few [] most = tt
each_few (sub ∷ subs) most =
    let whole = sum_by-cons (weight_of_subscription one) sub subs in
    ((omega (arith, whole, ones sub.line, most), omega (arith, whole, ones sub.unacknowledged, most)), each_few subs (omega (arith, whole, most)))

module _ (s : State) (sound : IsSound s) where
  held_in_names : weight_of_lines one s.shared.names < 2 ^ 32
  held_in_names = omega (arith, sound.limits.messages)

  held_in_queues : weight_of_lines one s.shared.queues < 2 ^ 32
  held_in_queues = omega (arith, sound.limits.messages)

  pub few_under_names : (name : Name) → length (line_at name_cmp name s.shared.names) < 2 ^ 32
  few_under_names name = line_counted name_cmp name s.shared.names (2 ^ 32) held_in_names

  pub few_in_queues : AllByRecursion (λ (e : List ℕ × List Message). length e.1 < 2 ^ 32) s.shared.queues
  few_in_queues = each_counted s.shared.queues (2 ^ 32) held_in_queues

  pub few_queues : length s.shared.queues < 2 ^ 32
  few_queues = omega (arith, lines_counted _ (λ e keeps. keeps.1) s.shared.queues sound.lines.queues, held_in_queues)

  pub few_held : AllByRecursion HoldsFew s.subscriptions
  few_held = each_few s.subscriptions (omega (arith, sound.limits.messages))

  module _ (at : ℕ) (sub : Subscription) (is : slice_get s.subscriptions at ≡ Some sub) where
    pub holds_few : HoldsFew sub
    holds_few = all_at HoldsFew s.subscriptions at sub is few_held

    pub waits_in_own : is_own sub ≡ false → sub.line ≡ []
    waits_in_own = all_at (λ (x : Subscription). is_own x ≡ false → x.line ≡ []) s.subscriptions at sub is sound.lines.own
