use Rattle.std.specs.Prelude.{◌≡◌, ◌+◌, ◌-◌, ◌++◌, ◌∷◌, [], List, ℕ, Some, drop, if◌then◌else◌, remove, slice_get}
use Rattle.command_core.specs.Outs.{OutValue}
use Rattle.line_core.specs.declared.message.Message.{Message}
use Rattle.line_core.specs.Flights.{IsOver}
use Rattle.line_core.specs.Lines.{first_of}
use Rattle.broker_state.specs.declared.limits.Held.{Held}
use Rattle.broker_state.specs.declared.subscription.Subscription.{Subscription}
use Rattle.broker_state.specs.HandOut.{can_take, delivered, is_auto, message_out}
use Rattle.broker_state.specs.States.{bytes}
use Rattle.broker_state.specs.Waiting.{Shared, left_line, left_shared, line_for}
use Rattle.broker_tables.specs.declared.stock.Stock.{Stock}
use Rattle.broker_tables.specs.Answers.{Answered, with_outs}
use Rattle.broker_tables.specs.Places.{HoldsAtKey, StandsSo}
use Rattle.broker_tables.specs.Returns.{HandFirst}
use Rattle.broker_tables.specs.Stocks.{stocked}
use Rattle.broker_state.specs.Parts.{IsFirst}
use Rattle.waiting_order.specs.Waiting.{subs_of}
use Rattle.waiting_order.specs.declared.waiters.Key.{Key}
use Rattle.waiting_order.specs.declared.waiters.Waiter.{Waiter}

-- A subscription's least message has left the lines that stay, or its own.
pub record LeavesLine (shared : Shared) (sub : Subscription) (shared_after : Shared) : Type 0 where
  pub rest : shared_after ≡ left_shared shared sub (drop 1 (line_for shared sub))
  pub weight : HandFirst shared sub shared_after (left_line sub (drop 1 (line_for shared sub))) (line_for shared sub)

-- somebody stands at that key who has no unacknowledged delivery of that number or a greater one
abbrev pub MayGet : List (Key × Waiter) → Key → ℕ → Type 0
MayGet ws key delivery = StandsSo ws key (λ sub. IsOver delivery sub.unacknowledged)

-- the MESSAGE is kept by which who stands at that key gets a message from the command of that number, if the outputs are
abbrev pub IsTold : ℕ → List (Key × Waiter) → Key → ℕ → Message → Answered → Answered → Type 0
IsTold number ws key delivery message earlier all =
    HoldsAtKey ws key (λ at s. all ≡ with_outs (message_out number s.sub delivery message ∷ []) earlier)

-- With `auto` a message that was handed out is held no more.
pub record LetsGoIfAuto (sub : Subscription) (message : Message) (held held_after : Held) : Type 0 where
  pub messages : held_after.messages ≡ (if is_auto sub.mode then held.messages - 1 else held.messages)
  pub lighter : held_after.bytes ≡ (if is_auto sub.mode then held.bytes - bytes message else held.bytes)

-- A subscription got the least message of its line, which left the line first; what is counted as held follows its mode.
pub record IsHanded (number delivery : ℕ) (shared : Shared) (sub : Subscription) (held : Held) (shared_after : Shared) (sub_after : Subscription) (held_after : Held) (reply : OutValue) : Type 0 where
  pub message : Message
  pub left : Subscription
  pub taken : first_of (line_for shared sub) ≡ Some message
  pub rest : shared_after ≡ left_shared shared sub (drop 1 (line_for shared sub))
  pub line : left ≡ left_line sub (drop 1 (line_for shared sub))
  pub weight : HandFirst shared sub shared_after left (line_for shared sub)
  pub handed : sub_after ≡ delivered left delivery message
  pub out : reply ≡ message_out number left delivery message
  pub messages : held_after.messages ≡ (if is_auto left.mode then held.messages - 1 else held.messages)
  pub lighter : held_after.bytes ≡ (if is_auto left.mode then held.bytes - bytes message else held.bytes)

-- Who stands at that key was handed the least message of its line by the command of that number, and waits last then.
pub record IsServed (number : ℕ) (old : Stock) (key : Key) (new : Stock) (out : OutValue) : Type 0 where
  pub at : ℕ
  pub waiter : Waiter
  pub sub : Subscription
  pub there : slice_get old.order.all at ≡ Some (key, waiter)
  pub first : IsFirst (can_take (stocked old)) (subs_of old.order.all) at
  pub handed : IsHanded number old.next_delivery old.shared waiter.sub old.held new.shared sub new.held out
  pub order : new.order ≡ record { all = remove old.order.all at ++ (key, record waiter { ticket = old.order.next; sub = sub }) ∷ []; next = old.order.next + 1 }
  pub delivery : new.next_delivery ≡ old.next_delivery + 1

-- the same, and its MESSAGE is kept, if the outputs are
pub record Serves (number : ℕ) (old : Stock) (key : Key) (new : Stock) (earlier all : Answered) : Type 0 where
  pub out : OutValue
  pub served : IsServed number old key new out
  pub answers : all ≡ with_outs (out ∷ []) earlier
