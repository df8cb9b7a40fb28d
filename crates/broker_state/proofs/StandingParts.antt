use Rattle.std.proofs.Common.{◌++◌, List, ℕ}
use Rattle.std.specs.List.{AllByRecursion, flat_map}
use Rattle.frame_core.proofs.Lists.{all_append, all_left, all_right}
use Rattle.line_core.specs.declared.message.Message.{Message}
use Rattle.broker_state.specs.Names.{Name}
use Rattle.broker_state.specs.Sound.{had_by}
use Rattle.broker_state.specs.States.{State, standing}
use Rattle.broker_state.proofs.Alls.{all_flat, each_flat}

-- All messages that stand somewhere are such where those are in each line of a durable name, in each of a queue, and of each
-- subscription; and the other way round.
module _ (P : Message → Type 0) (s : State) where
  abbrev in_names : List Message
  in_names = flat_map (λ (e : Name × List Message). e.1) s.shared.names

  abbrev in_queues : List Message
  in_queues = flat_map (λ (e : List ℕ × List Message). e.1) s.shared.queues

  abbrev of_subs : List Message
  of_subs = flat_map had_by s.subscriptions

  pub all_standing : AllByRecursion (λ e. AllByRecursion P e.1) s.shared.names → AllByRecursion (λ e. AllByRecursion P e.1) s.shared.queues → AllByRecursion (λ sub. AllByRecursion P (had_by sub)) s.subscriptions → AllByRecursion P (standing s)
  all_standing names queues subs =
      all_append P (in_names ++ in_queues) of_subs (all_append P in_names in_queues (all_flat P (λ e. e.1) s.shared.names names) (all_flat P (λ e. e.1) s.shared.queues queues)) (all_flat P had_by s.subscriptions subs)

  module _ (all : AllByRecursion P (standing s)) where
    in_lines : AllByRecursion P (in_names ++ in_queues)
    in_lines = all_left P (in_names ++ in_queues) of_subs all

    pub standing_in_names : AllByRecursion (λ e. AllByRecursion P e.1) s.shared.names
    standing_in_names = each_flat P (λ e. e.1) s.shared.names (all_left P in_names in_queues in_lines)

    pub standing_in_queues : AllByRecursion (λ e. AllByRecursion P e.1) s.shared.queues
    standing_in_queues = each_flat P (λ e. e.1) s.shared.queues (all_right P in_names in_queues in_lines)

    pub standing_in_subs : AllByRecursion (λ sub. AllByRecursion P (had_by sub)) s.subscriptions
    standing_in_subs = each_flat P had_by s.subscriptions (all_right P (in_names ++ in_queues) of_subs all)
