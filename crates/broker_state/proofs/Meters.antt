use Rattle.std.proofs.Common.{◌≡◌, ◌≢◌, ◌<◌, ◌≤◌, ◌+◌, ◌-◌, ◌⊎◌, inl, inr, List, [], ◌∷◌, ℕ, Bool, true, false, Some, length, refl, arith, if◌then◌else◌}
use Rattle.std.specs.List.{AllByRecursion, sum_by}
use Rattle.std.proofs.lemmas.Bool.{cases_lt}
use Rattle.std.proofs.lemmas.List.Sums.{sum_by-cons}
use Rattle.command_core.specs.Sendings.{SendingValue}
use Rattle.command_core.specs.declared.command.AckMode.{AckMode}
use Rattle.command_core.specs.declared.command.AckMode.TheVariants.{Auto, Client, ClientIndividual}
use Rattle.line_core.specs.declared.message.Message.{Message}
use Rattle.line_core.specs.Flights.{settled}
use Rattle.line_core.proofs.Flights.{length-settled}
use Rattle.broker_state.specs.declared.subscription.Subscription.{Subscription}
use Rattle.broker_state.specs.Dead.{dead_queue, first_place, refused, refused_from}
use Rattle.broker_state.specs.Lists.{picked}
use Rattle.broker_state.specs.Operations.{message_of}
use Rattle.broker_state.specs.Sound.{HasSubscriptions, window_of}
use Rattle.broker_state.specs.States.{State}
use Rattle.broker_state.proofs.Picked.{all_picked}

-- What the messages of one command weigh, from place to place.

-- where the sum is nothing each weighs nothing, and the other way
module _ {X : Type 0} (f : X → ℕ) where
  pub each_nothing : (xs : List X) → sum_by f xs ≡ 0 → AllByRecursion (λ x. f x ≡ 0) xs
  each_nothing [] none = tt
  each_nothing (x ∷ xs) none =
      let all = sum_by-cons f x xs in
      (omega (arith, all, none), each_nothing xs (omega (arith, all, none)))

  pub sum_nothing : (xs : List X) → AllByRecursion (λ x. f x ≡ 0) xs → sum_by f xs ≡ 0
  sum_nothing [] all = refl
  sum_nothing (x ∷ xs) all = omega (arith, sum_by-cons f x xs, all.0, sum_nothing xs all.1)

-- What a command sends, and what a refusal of up to 16 messages keeps, weigh no more, from place to place, than what is
-- left falls by.
pub record IsMetered (weight : Message → ℕ) (number : ℕ) (left : ℕ → ℕ) : Type 0 where
  pub falls : (place : ℕ) → left (place + 1) ≤ left place
  pub new : (place : ℕ) (sending : SendingValue) → place < 64 → weight (message_of number place sending) + left (place + 1) ≤ left place
  pub refused : (place : ℕ) (drops : Message → Bool) (deliveries : List (ℕ × Message)) → length deliveries ≤ 16 → sum_by weight (refused_from drops number (first_place place) deliveries) + left (place + 1) ≤ left place

-- What weighs nothing when it is sent, and weighs one at most in one place: a command sends it there once.
module _ (weight : Message → ℕ) (command at : ℕ) (few : (m : Message) → weight m ≤ 1) (other : (place : ℕ) (sending : SendingValue) → at ≢ place → weight (message_of command place sending) ≡ 0) where
  other_kept : (place : ℕ) (m : Message) → at ≢ place → weight (refused command place m) ≡ 0
  other_kept place m differs = other place (record m.sending { destination = dead_queue }) differs

  module _ (drops : Message → Bool) where
    abbrev kept : ℕ → List (ℕ × Message) → ℕ
    kept place deliveries = sum_by weight (refused_from drops command place deliveries)

    abbrev kept_by : Bool → ℕ → ℕ × Message → List (ℕ × Message) → ℕ
    kept_by b place d deliveries =
        sum_by weight (if b then refused_from drops command (place + 1) deliveries else refused command place d.1 ∷ refused_from drops command (place + 1) deliveries)

    -- one message more is kept, or none
    one_kept : (b : Bool) (place : ℕ) (d : ℕ × Message) (deliveries : List (ℕ × Message)) → kept_by b place d deliveries ≤ weight (refused command place d.1) + kept (place + 1) deliveries
    one_kept true place d deliveries = omega arith
    one_kept false place d deliveries =
        omega (arith, sum_by-cons weight (refused command place d.1) (refused_from drops command (place + 1) deliveries))

    none_behind : (place : ℕ) → at < place → (deliveries : List (ℕ × Message)) → kept place deliveries ≡ 0
    none_behind place past [] = refl
    none_behind place past (d ∷ deliveries) =
        omega (arith, one_kept (drops d.1) place d deliveries, other_kept place d.1 (λ same. omega (arith, same, past)), none_behind (place + 1) (omega (arith, past)) deliveries)

    none_before : (place : ℕ) (deliveries : List (ℕ × Message)) → place + length deliveries ≤ at → kept place deliveries ≡ 0
    none_before place [] before = refl
    none_before place (d ∷ deliveries) before =
        omega (arith, one_kept (drops d.1) place d deliveries, other_kept place d.1 (λ same. omega (arith, same, before)), none_before (place + 1) deliveries (omega (arith, before)))

    one_at_most : (place : ℕ) (deliveries : List (ℕ × Message)) → kept place deliveries ≤ 1
    one_at_most place [] = omega arith
    one_at_most place (d ∷ deliveries) =
        by (cases_lt place at) (one_at_most (place + 1) deliveries)
      where
        by : (place < at) ⊎ (at ≤ place) → kept (place + 1) deliveries ≤ 1 → kept place (d ∷ deliveries) ≤ 1
        by (inl later) rest =
            omega (arith, rest, one_kept (drops d.1) place d deliveries, other_kept place d.1 (λ same. omega (arith, same, later)))
        by (inr past) rest =
            omega (arith, one_kept (drops d.1) place d deliveries, few (refused command place d.1), none_behind (place + 1) (omega (arith, past)) deliveries)

  -- one is left up to the member that may send it, and none behind it
  abbrev left_of_sends : ℕ → ℕ
  left_of_sends place = 1 - (place - at)

  abbrev left_of_refusals : ℕ → ℕ
  left_of_refusals place = 1 - (first_place place - at)

  sends : at < 64 → IsMetered weight command left_of_sends
  sends early = record {
    falls = λ place. omega arith;
    new = λ place sending before. by place sending (cases_lt at place) (cases_lt place at);
    refused = λ place drops deliveries short. omega (arith, none_behind drops (first_place place) (omega (arith, early)) deliveries);
  }
    where
      by : (place : ℕ) (sending : SendingValue) → (at < place) ⊎ (place ≤ at) → (place < at) ⊎ (at ≤ place) → weight (message_of command place sending) + left_of_sends (place + 1) ≤ left_of_sends place
      by place sending (inl past) later = omega (arith, past, other place sending (λ same. omega (arith, same, past)))
      by place sending (inr here) (inl later) = omega (arith, later, other place sending (λ same. omega (arith, same, later)))
      by place sending (inr here) (inr same) = omega (arith, here, same, few (message_of command place sending))

  refusals : 64 ≤ at → IsMetered weight command left_of_refusals
  refusals late = record {
    falls = λ place. omega arith;
    new = λ place sending early. omega (arith, other place sending (λ same. omega (arith, same, early, late)));
    refused = λ place drops deliveries short. by place drops deliveries short (cases_lt at (first_place place)) (cases_lt at (first_place (place + 1)));
  }
    where
      by : (place : ℕ) (drops : Message → Bool) (deliveries : List (ℕ × Message)) → length deliveries ≤ 16 → (at < first_place place) ⊎ (first_place place ≤ at) → (at < first_place (place + 1)) ⊎ (first_place (place + 1) ≤ at) → kept drops (first_place place) deliveries + left_of_refusals (place + 1) ≤ left_of_refusals place
      by place drops deliveries short (inl past) later = omega (arith, past, none_behind drops (first_place place) past deliveries)
      by place drops deliveries short (inr here) (inl now) = omega (arith, here, now, one_at_most drops (first_place place) deliveries)
      by place drops deliveries short (inr here) (inr later) =
          omega (arith, here, later, none_before drops (first_place place) deliveries (omega (arith, short, later)))

  -- A meter of it, of which one is left at first.
  pub record Meter : Type 0 where
    pub left : ℕ → ℕ
    pub first : left 0 ≡ 1
    pub metered : IsMetered weight command left

  pub meter : Meter
  meter = by (cases_lt at 64)
    where
      by : (at < 64) ⊎ (64 ≤ at) → Meter
      by (inl early) = record { left = left_of_sends; first = omega arith; metered = sends early }
      by (inr late) = record { left = left_of_refusals; first = omega (arith, late); metered = refusals late }

nothing_kept : (weight : Message → ℕ) (command : ℕ) → ((place : ℕ) (sending : SendingValue) → weight (message_of command place sending) ≡ 0) → (drops : Message → Bool) (place : ℕ) (deliveries : List (ℕ × Message)) → sum_by weight (refused_from drops command place deliveries) ≡ 0
nothing_kept weight command none drops place [] = refl
nothing_kept weight command none drops place (d ∷ deliveries) =
    by (drops d.1) (nothing_kept weight command none drops (place + 1) deliveries)
  where
    by : (b : Bool) → sum_by weight (refused_from drops command (place + 1) deliveries) ≡ 0 → sum_by weight (if b then refused_from drops command (place + 1) deliveries else refused command place d.1 ∷ refused_from drops command (place + 1) deliveries) ≡ 0
    by true rest = rest
    by false rest =
        omega (arith, rest, none place (record d.1.sending { destination = dead_queue }), sum_by-cons weight (refused command place d.1) (refused_from drops command (place + 1) deliveries))

-- what none of a command's messages weighs
pub none_metered : (weight : Message → ℕ) (command : ℕ) → ((place : ℕ) (sending : SendingValue) → weight (message_of command place sending) ≡ 0) → IsMetered weight command (λ place. 0)
none_metered weight command none = record {
  falls = λ place. omega arith;
  new = λ place sending early. omega (arith, none place sending);
  refused = λ place drops deliveries short. omega (arith, nothing_kept weight command none drops (first_place place) deliveries);
}

-- a subscription has at most 16 unacknowledged messages, and so a NACK settles no more
few_settled : (sub : Subscription) (delivery most : ℕ) → most ≤ 16 → length sub.unacknowledged ≤ most → length (settled sub.mode delivery sub.unacknowledged) ≤ 16
few_settled sub delivery most less within = omega (arith, less, within, length-settled sub.mode delivery sub.unacknowledged)

window : (mode : AckMode) → window_of mode ≤ 16
window Auto = omega arith
window Client = omega arith
window ClientIndividual = omega arith

pub settles_few : (s : State) (p : Subscription → Bool) (delivery : ℕ) (sub : Subscription) (others : List Subscription) → picked p s.subscriptions ≡ Some (sub, others) → HasSubscriptions s → length (settled sub.mode delivery sub.unacknowledged) ≤ 16
settles_few s p delivery sub others is now =
    few_settled sub delivery (window_of sub.mode) (window sub.mode) (all_picked p s.subscriptions sub others is (λ x. length x.unacknowledged ≤ window_of x.mode) now.window).0
