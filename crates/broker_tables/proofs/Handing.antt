use Rattle.std.proofs.Common.{◌≡◌, ◌≤◌, ◌+◌, ◌∷◌, [], Bool, List, ℕ, Option, Some, None, IsSome, true, false, ap, arith, cond, drop, is_some, not, refl, ◌||◌}
use Rattle.std.specs.List.{sum_by}
use Rattle.std.proofs.lemmas.List.Sums.{sum_by-cons}
use Rattle.line_core.specs.declared.message.Message.{Message}
use Rattle.line_core.specs.Lines.{first_of}
use Rattle.command_core.specs.Destinations.{is_queue}
use Rattle.broker_state.specs.declared.subscription.Subscription.{Subscription}
use Rattle.broker_state.specs.Lists.{is_none}
use Rattle.broker_state.specs.Names.{Name, text_cmp}
use Rattle.broker_state.specs.Waiting.{Shared, is_own, left_from, left_line, left_shared, line_at, line_for, line_from, with_line}
use Rattle.broker_tables.specs.Returns.{HandFirst}

-- A subscription with a line of its own is served from that.
module _ (shared : Shared) (sub : Subscription) where
  own_from : (o : Option Name) → not (is_some o || is_queue sub.destination) ≡ true → line_from shared sub o ≡ sub.line
  own_from (Some name) own = absurd cc
  own_from None own = by (is_queue sub.destination) refl own
    where
      by : (b : Bool) → is_queue sub.destination ≡ b → not b ≡ true → line_from shared sub None ≡ sub.line
      by true is so = absurd cc
      by false is so = ap (λ b. cond b (line_at text_cmp sub.destination shared.queues) sub.line) is

  pub own_line : is_own sub ≡ true → line_for shared sub ≡ sub.line
  own_line own = own_from sub.durable own

  left_own : (rest : List Message) (o : Option Name) → not (is_some o || is_queue sub.destination) ≡ true → left_from shared sub rest o ≡ shared
  left_own rest (Some name) own = absurd cc
  left_own rest None own = by (is_queue sub.destination) refl own
    where
      by : (b : Bool) → is_queue sub.destination ≡ b → not b ≡ true → left_from shared sub rest None ≡ shared
      by true is so = absurd cc
      by false is so = ap (λ b. cond b (record shared { queues = with_line text_cmp sub.destination rest shared.queues }) shared) is

  pub own_shared : is_own sub ≡ true → (rest : List Message) → left_shared shared sub rest ≡ shared
  own_shared own rest = left_own rest sub.durable own

  pub own_weight : is_own sub ≡ true → HandFirst shared sub shared (left_line sub (drop 1 (line_for shared sub))) (line_for shared sub)
  own_weight own weight =
      let rest = drop 1 (line_for shared sub) in
      let left : sum_by weight (left_line sub rest).line ≡ sum_by weight rest = ap (λ b. sum_by weight (cond b rest sub.line)) own in
      omega (arith, left, ap (sum_by weight) (own_line own))

-- one with no line of its own keeps its line
pub other_left : (sub : Subscription) → is_own sub ≡ false → (rest : List Message) → left_line sub rest ≡ sub
other_left sub other rest = ap (λ b. record sub { line = cond b rest sub.line }) other

-- a line that isn't empty has a first message
pub some_first : (r : Option Message) (line : List Message) → r ≡ first_of line → is_none line ≡ false → IsSome r
some_first r [] is some = absurd cc
some_first None (m ∷ rest) is some = absurd cc
some_first (Some m) (x ∷ rest) is some = refl

-- what leaves a line was among what waits
pub was_waiting : (weight : Message → ℕ) (line : List Message) (m : Message) (after before held : ℕ) → first_of line ≡ Some m → after + sum_by weight line ≡ before + sum_by weight (drop 1 line) → before ≤ held → weight m ≤ held
was_waiting weight [] m after before held taken same within = absurd cc
was_waiting weight (x ∷ rest) m after before held taken same within =
    let is : x ≡ m = cc in
    omega (arith, same, within, sum_by-cons weight x rest, ap weight is)
