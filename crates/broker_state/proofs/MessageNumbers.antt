use Rattle.std.proofs.Common.{◌≡◌, ◌≢◌, ◌<◌, ◌≤◌, ◌+◌, ◌-◌, ◌&&◌, ◌⊎◌, inl, inr, List, [], ◌∷◌, ℕ, Bool, true, false, cond, count_by, refl, ap, ◌∙◌, arith}
use Rattle.std.specs.Cmp.{Equal-is}
use Rattle.std.specs.List.{AllByRecursion}
use Rattle.std.specs.Ordering.{nat_cmp}
use Rattle.std.proofs.lemmas.Bool.{and_parts, cases_lt}
use Rattle.std.proofs.lemmas.Map.Lookups.{exact_pairs, exact_unsigned}
use Rattle.frame_core.proofs.Lists.{all_weaker}
use Rattle.command_core.specs.Commands.{CommandValue}
use Rattle.command_core.specs.Destinations.{is_queue}
use Rattle.line_core.specs.declared.message.Message.{Message}
use Rattle.line_core.specs.declared.message.MessageNumber.{MessageNumber}
use Rattle.line_core.specs.Lines.{by_number, is_same}
use Rattle.broker_state.specs.declared.nack_rule.NackRule.{NackRule}
use Rattle.broker_state.specs.Executing.{HasFewMembers}
use Rattle.broker_state.specs.Operations.{message_of, restarted}
use Rattle.broker_state.specs.Sound.{HasSubscriptions}
use Rattle.broker_state.specs.States.{IsInOrder, State, empty_state, standing, weight_of}
use Rattle.broker_state.specs.Steps.{Event, MayBefall, a_command, a_restart, state_after_all, state_after_one, step_by}
use Rattle.broker_state.proofs.CommandLists.{after_each}
use Rattle.broker_state.proofs.Conserved.{IsAllotted, restarted_weight, step_light, step_weight}
use Rattle.broker_state.proofs.Meters.{Meter, each_nothing, meter, sum_nothing}
use Rattle.broker_state.proofs.Ordered.{empty_in_order, restarted_in_order, step_in_order}
use Rattle.broker_state.proofs.Standing.{all_stand}
use Rattle.broker_state.proofs.SubscriptionLimits.{empty_limits, restarted_limits, step_limits}

-- a message of an earlier command weighs nothing
abbrev pub late : ℕ → Message → ℕ
late number m = m.number.command + 1 - number

-- each message that stands has the number of a command that is counted, after one more too
pub step_numbers : (rule : NackRule) (s : State) (c : CommandValue) → IsInOrder s → AllByRecursion (λ m. m.number.command < s.count) (standing s) → AllByRecursion (λ m. m.number.command < (step_by rule s c).count) (standing (step_by rule s c))
step_numbers rule s c order before =
    let w = late (s.count + 1) in
    let none = sum_nothing w (standing s) (all_weaker (λ m. m.number.command < s.count) (λ m. w m ≡ 0) (λ m under. omega (arith, under)) (standing s) before) in
    let less = step_light w rule s c order (λ place sending. omega arith) in
    let after = each_nothing w (standing (step_by rule s c)) (omega (arith, none, less, all_stand w s, all_stand w (step_by rule s c))) in
    all_weaker (λ m. w m ≡ 0) (λ m. m.number.command < s.count + 1) (λ m is. omega (arith, is)) (standing (step_by rule s c)) after

-- and after a restart
pub restarted_messages : (s : State) → IsInOrder s → AllByRecursion (λ m. m.number.command < s.count) (standing s) → AllByRecursion (λ m. m.number.command < s.count) (standing (restarted s))
restarted_messages s order before =
    let w = late s.count in
    let none = sum_nothing w (standing s) (all_weaker (λ m. m.number.command < s.count) (λ m. w m ≡ 0) (λ m under. omega (arith, under)) (standing s) before) in
    let after = each_nothing w (standing (restarted s)) (omega (arith, none, restarted_weight w s order, all_stand w s, all_stand w (restarted s))) in
    all_weaker (λ m. w m ≡ 0) (λ m. m.number.command < s.count) (λ m is. omega (arith, is)) (standing (restarted s)) after

-- the state is in order, and each message that stands in it has the number of a command that is counted
record IsNumbered (s : State) : Type 0 where
  pub order : IsInOrder s
  pub numbers : AllByRecursion (λ m. m.number.command < s.count) (standing s)

step_numbered : (rule : NackRule) (s : State) (c : CommandValue) → IsNumbered s → IsNumbered (step_by rule s c)
step_numbered rule s c now =
    record { order = step_in_order rule s c now.order; numbers = step_numbers rule s c now.order now.numbers }

restarted_numbered : (s : State) → IsNumbered s → IsNumbered (restarted s)
restarted_numbered s now =
    record { order = restarted_in_order s now.order; numbers = restarted_messages s now.order now.numbers }

one_numbered : (s : State) (e : Event) → IsNumbered s → IsNumbered (state_after_one s e)
one_numbered s (a_command rule c) now = step_numbered rule s c now
one_numbered s a_restart now = restarted_numbered s now

all_numbered : (s : State) → IsNumbered s → (events : List Event) → IsNumbered (state_after_all s events)
all_numbered s now [] = now
all_numbered s now (e ∷ events) = all_numbered (state_after_one s e) (one_numbered s e now) events

pub after_numbers : (events : List Event) → AllByRecursion (λ m. m.number.command < (state_after_all empty_state events).count) (standing (state_after_all empty_state events))
after_numbers events = (all_numbered empty_state (record { order = empty_in_order; numbers = tt }) events).numbers

pub same_parts : (a b : MessageNumber) → is_same a b ≡ true → (a.command ≡ b.command) × (a.place ≡ b.place)
same_parts a b same =
    let parts = exact_pairs nat_cmp nat_cmp exact_unsigned exact_unsigned (a.command, a.place) (b.command, b.place) ((Equal-is (by_number a b)).0 same) in
    (ap (λ p. p.0) parts, ap (λ p. p.1) parts)

module _ (number : MessageNumber) where
  -- a message of that number counts for one where it went to a queue
  abbrev is_it : Message → Bool
  is_it m = is_queue m.sending.destination && is_same number m.number

  abbrev counted : Bool → ℕ
  counted b = cond b 1 0

  abbrev copies : Message → ℕ
  copies m = counted (is_it m)

  one_at_most : (m : Message) → copies m ≤ 1
  one_at_most m = by (is_it m)
    where
      by : (b : Bool) → counted b ≤ 1
      by true = omega arith
      by false = omega arith

  -- one of another number does not
  another : (m : Message) → (is_same number m.number ≡ true → ⊥) → copies m ≡ 0
  another m other = by (is_it m) refl
    where
      by : (b : Bool) → is_it m ≡ b → counted b ≡ 0
      by true is = absurd (other (and_parts _ _ is).1)
      by false is = refl

  of_another : (m : Message) → number.command ≢ m.number.command → copies m ≡ 0
  of_another m other = another m (λ is. other (same_parts number m.number is).0)

  meter_of : (command : ℕ) → Meter copies command number.place one_at_most (λ place sending other. another (message_of command place sending) (λ is. other (same_parts number (message_of command place sending).number is).1))
  meter_of command = meter copies command number.place one_at_most (λ place sending other. another (message_of command place sending) (λ is. other (same_parts number (message_of command place sending).number is).1))

  allotted : (command : ℕ) → IsAllotted copies command (meter_of command).left
  allotted command = record {
    metered = (meter_of command).metered;
    topics = λ place sending topic. ap (λ b. counted (b && is_same number (message_of command place sending).number)) topic;
  }

  -- none stands before its command
  none_yet : (s : State) → IsNumbered s → s.count ≤ number.command → weight_of copies s ≡ 0
  none_yet s now later =
      all_stand copies s ∙ sum_nothing copies (standing s) (all_weaker (λ m. m.number.command < s.count) (λ m. copies m ≡ 0) (λ m under. of_another m (λ same. omega (arith, same, under, later))) (standing s) now.numbers)

  record IsOnce (s : State) : Type 0 where
    pub now : IsNumbered s
    pub limited : HasSubscriptions s
    pub once : weight_of copies s ≤ 1

  step_once : (rule : NackRule) (s : State) (c : CommandValue) → HasFewMembers c.op → IsOnce s → IsOnce (step_by rule s c)
  step_once rule s c few before = record {
    now = step_numbered rule s c before.now;
    limited = step_limits rule s c before.now.order before.limited;
    once = by (cases_lt number.command s.count);
  }
    where
      by : (number.command < s.count) ⊎ (s.count ≤ number.command) → weight_of copies (step_by rule s c) ≤ 1
      by (inl earlier) =
          omega (arith, before.once, step_light copies rule s c before.now.order (λ place sending. of_another (message_of s.count place sending) (λ same. omega (arith, same, earlier))))
      by (inr later) =
          omega (arith, none_yet s before.now later, (meter_of s.count).first, step_weight copies (meter_of s.count).left rule s c few before.now.order before.limited (allotted s.count))

  one_once : (s : State) (e : Event) → MayBefall e → IsOnce s → IsOnce (state_after_one s e)
  one_once s (a_command rule c) few before = step_once rule s c few before
  one_once s a_restart few before = record {
    now = restarted_numbered s before.now;
    limited = restarted_limits s before.now.order before.limited;
    once = omega (arith, before.once, restarted_weight copies s before.now.order);
  }

  at_most_once : (events : List Event) → AllByRecursion MayBefall events → count_by is_it (standing (state_after_all empty_state events)) ≤ 1
  at_most_once events may =
      let first : IsOnce empty_state = record { now = record { order = empty_in_order; numbers = tt }; limited = empty_limits; once = omega arith } in
      let last = after_each IsOnce one_once empty_state first events may in
      omega (arith, last.once, all_stand copies (state_after_all empty_state events))

-- at most one message of a number stands that went to a queue
pub after_once : (events : List Event) (number : MessageNumber) → AllByRecursion MayBefall events → count_by (λ m. is_queue m.sending.destination && is_same number m.number) (standing (state_after_all empty_state events)) ≤ 1
after_once events number may = at_most_once number events may
