use Rattle.std.specs.Prelude.{◌≡◌, ◌&&◌, ◌≤◌, List, ℕ, Bool, true, false, MatchOption, Option, None, Some, nat_le, slice_get, if◌then◌else◌}
use Rattle.std.specs.Str.{bytes_eq}
use Rattle.line_core.specs.Flights.{has_delivery}
use Rattle.broker_state.specs.declared.subscription.Subscription.{Subscription}
use Rattle.broker_state.specs.Operations.{is_of}
use Rattle.waiting_order.specs.declared.waiters.Key.{Key}
use Rattle.waiting_order.specs.declared.groups.Place.{Place}
use Rattle.waiting_order.specs.declared.waiters.Waiter.{Waiter}
use Rattle.waiting_order.specs.declared.finding.Sought.{Sought}
use Rattle.waiting_order.specs.declared.finding.Sought.TheVariants.{Any, Id, Delivery}

-- whether a subscription is sought
abbrev pub is_sought : Sought → Subscription → Bool
is_sought Any sub = true
is_sought (Id id) sub = bytes_eq id.now sub.id
is_sought (Delivery delivery) sub = has_delivery delivery sub.unacknowledged

-- and is one of that session
abbrev pub is_sought_of : ℕ → Sought → Subscription → Bool
is_sought_of session sought sub = is_of session sub && is_sought sought sub

-- the place with the lesser ticket
abbrev pub sooner : Option Place → Option Place → Option Place
sooner None b = b
sooner (Some p) None = Some p
sooner (Some p) (Some q) = if nat_le p.ticket q.ticket then Some p else Some q

-- A place is that of who stands at a key, with a ticket from that one on, and is sought.
pub record IsSeenAt (sought : Sought) (ws : List (Key × Waiter)) (key : Key) (from : ℕ) (place : Place) : Type 0 where
  pub at : ℕ
  pub waiter : Waiter
  pub there : slice_get ws at ≡ Some (key, waiter)
  pub is : place ≡ record { ticket = waiter.ticket; key = key }
  pub after : from ≤ waiter.ticket
  pub passing : is_sought sought waiter.sub ≡ true

-- the place of who stands at a key, with a ticket from that one on, and is sought; none if there is no such one
abbrev pub IsSeen : Sought → List (Key × Waiter) → Key → ℕ → Option Place → Type 0
IsSeen sought ws key from seen = MatchOption seen
    ((at : ℕ) (s : Waiter) → slice_get ws at ≡ Some (key, s) → from ≤ s.ticket → is_sought sought s.sub ≡ false)
    (IsSeenAt sought ws key from)
