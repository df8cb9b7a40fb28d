-- What sessions take in a snapshot of the broker, beside the messages that are held.
use Rattle.std.specs.Prelude.{◌==◌, ◌+◌, ℕ, List, Option, cond, option_map}
use Rattle.std.specs.List.{sum_by}
use Rattle.command_core.specs.declared.command.Op.{Op}
use Rattle.command_core.specs.declared.command.Op.TheVariants as ops
use Rattle.clients.specs.Footprints.{parts_of, total}
use Rattle.broker_state.specs.declared.subscription.Subscription.{Subscription}
use Rattle.broker_state.specs.Names.{Name}
use Rattle.broker_state.specs.Operations.{is_of}
use Rattle.broker_state.specs.States.{State}

-- the Open of a session
abbrev pub opening_of : ℕ × Option (List ℕ) → Op
opening_of e = ops.Open e.1

-- the SUBSCRIBE of a subscription
abbrev pub subscribing_of : Subscription → Op
subscribing_of sub = ops.Subscribe sub.id sub.destination sub.mode (option_map (λ (name : Name). name.1) sub.durable)

-- an open session takes what its Open adds
abbrev pub bytes_of_opening : ℕ × Option (List ℕ) → ℕ
bytes_of_opening e = total (parts_of (opening_of e))

-- a subscription takes what its SUBSCRIBE adds
abbrev pub bytes_of_subscription : Subscription → ℕ
bytes_of_subscription sub = total (parts_of (subscribing_of sub))

-- what all sessions take
abbrev pub bytes_of_sessions : State → ℕ
bytes_of_sessions s = sum_by bytes_of_opening s.sessions + sum_by bytes_of_subscription s.subscriptions

-- what the session of that number takes
abbrev pub bytes_of_session : ℕ → State → ℕ
bytes_of_session n s =
    sum_by (λ (e : ℕ × Option (List ℕ)). cond (n == e.0) (bytes_of_opening e) 0) s.sessions
    + sum_by (λ sub. cond (is_of n sub) (bytes_of_subscription sub) 0) s.subscriptions
