use Rattle.std.specs.Prelude.{◌++◌, ◌∷◌, [], ℕ, Bool, drop, if◌then◌else◌}
use Rattle.line_core.specs.Lines.{inserted}
use Rattle.line_core.specs.declared.message.Message.{Message}
use Rattle.broker_state.specs.declared.subscription.Subscription.{Subscription}
use Rattle.broker_state.specs.Operations.{settled_by}
use Rattle.waiting_order.specs.declared.waiters.Key.{Key}
use Rattle.waiting_order.specs.declared.waiters.Waiter.{Waiter}
use Rattle.waiting_order.specs.Directories.{is_in}

-- a waiter whose subscription is changed
abbrev pub with_sub : (Subscription → Subscription) → Key × Waiter → Key × Waiter
with_sub change w = (w.0, record w.1 { sub = change w.1.sub })

-- a waiter whose own line gets a message
abbrev pub put_into : Message → Key × Waiter → Key × Waiter
put_into message w = with_sub (λ sub. record sub { line = inserted message sub.line }) w

-- and whose own line loses the least one
abbrev pub taken_from : Key × Waiter → Key × Waiter
taken_from w = with_sub (λ sub. record sub { line = drop 1 sub.line }) w

-- and who has not acknowledged one more
abbrev pub kept_by : ℕ → Message → Key × Waiter → Key × Waiter
kept_by delivery message w = with_sub (λ sub. record sub { unacknowledged = sub.unacknowledged ++ (delivery, message) ∷ [] }) w

-- and who has acknowledged a delivery
abbrev pub settled_at : ℕ → Key × Waiter → Key × Waiter
settled_at delivery w = with_sub (settled_by delivery) w

-- a waiter whose own line gets a message if it is of that group
abbrev pub put_in : ℕ → Message → Key × Waiter → Key × Waiter
put_in group message w = if is_in group w.1 then put_into message w else w

-- a waiter whose own line gets a message if its subscription passes
abbrev pub put_where : (Subscription → Bool) → Message → Key × Waiter → Key × Waiter
put_where passes message w = if passes w.1.sub then put_into message w else w
