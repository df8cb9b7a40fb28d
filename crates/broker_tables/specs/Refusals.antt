use Rattle.std.specs.Prelude.{◌≡◌, ◌≤◌, ◌+◌, List, ℕ, Bool, if◌then◌else◌}
use Rattle.std.specs.List.{sum_by}
use Rattle.line_core.specs.declared.message.Message.{Message}
use Rattle.line_core.specs.declared.message.MessageNumber.{MessageNumber}
use Rattle.line_core.specs.Messages.{size_of}
use Rattle.broker_state.specs.declared.limits.Held.{Held}
use Rattle.broker_state.specs.Dead.{dead_queue, is_dropped, refused_from, with_refused}
use Rattle.broker_state.specs.States.{bytes, one}
use Rattle.broker_state.specs.Waiting.{Shared}

-- the bytes of a message in the queue of refused ones
abbrev pub refused_bytes : Message → ℕ
refused_bytes m = size_of (record m.sending { destination = dead_queue })

-- what a refused message counts for there: nothing if it is dropped
abbrev pub kept_bytes : Bool → Message → ℕ
kept_bytes own m = if is_dropped own m then 0 else refused_bytes m

abbrev pub kept_one : Bool → Message → ℕ
kept_one own m = if is_dropped own m then 0 else 1

-- how many messages deliveries are, and how many bytes those have
abbrev pub messages_of : List (ℕ × Message) → ℕ
messages_of deliveries = sum_by (λ delivery. one delivery.1) deliveries

abbrev pub bytes_of : List (ℕ × Message) → ℕ
bytes_of deliveries = sum_by (λ delivery. bytes delivery.1) deliveries

-- the lines that stay once deliveries that are refused have gone to the queue of refused messages, under numbers from that one on
abbrev pub with_all_refused : Bool → MessageNumber → List (ℕ × Message) → Shared → Shared
with_all_refused own first deliveries shared = record shared { queues = with_refused (refused_from (is_dropped own) first.command first.place deliveries) shared.queues }

-- what deliveries count for there
abbrev pub all_kept_bytes : Bool → List (ℕ × Message) → ℕ
all_kept_bytes own deliveries = sum_by (λ delivery. kept_bytes own delivery.1) deliveries

abbrev pub all_kept : Bool → List (ℕ × Message) → ℕ
all_kept own deliveries = sum_by (λ delivery. kept_one own delivery.1) deliveries

-- Deliveries are a part of what is held.
pub record ArePart (deliveries : List (ℕ × Message)) (held : Held) : Type 0 where
  pub messages : messages_of deliveries ≤ held.messages
  pub bytes : bytes_of deliveries ≤ held.bytes

-- Refused deliveries are held no more where they were, and those that are kept are held in the queue of refused messages.
pub record MovesHeld (own : Bool) (deliveries : List (ℕ × Message)) (held held_after : Held) : Type 0 where
  pub messages : held_after.messages + messages_of deliveries ≡ held.messages + all_kept own deliveries
  pub bytes : held_after.bytes + bytes_of deliveries ≡ held.bytes + all_kept_bytes own deliveries
