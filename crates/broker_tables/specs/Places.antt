use Rattle.std.specs.Prelude.{◌≡◌, List, ℕ, Bool, true, false, Result, Ok, Err, Some, if◌then◌else◌, count_by, nat_le, remove, slice_get}
use Rattle.std.specs.List.{list_any}
use Rattle.command_core.specs.declared.fault.Fault.{Fault}
use Rattle.command_core.specs.declared.fault.Fault.TheVariants.{SubscriptionIdInUse, TooManyEntries}
use Rattle.broker_state.specs.declared.subscription.Subscription.{Subscription}
use Rattle.broker_state.specs.Lists.{changed}
use Rattle.broker_state.specs.Operations.{is_named, is_of, without}
use Rattle.broker_state.specs.Parts.{IsFirst, NonePass}
use Rattle.broker_state.specs.States.{State}
use Rattle.waiting_order.specs.declared.waiters.Key.{Key}
use Rattle.waiting_order.specs.declared.waiters.Waiter.{Waiter}
use Rattle.waiting_order.specs.declared.groups.Place.{Place}
use Rattle.waiting_order.specs.Keeping.{with_sub}
use Rattle.waiting_order.specs.Waiting.{Waiting, subs_of}

-- the subscription in that place has P
abbrev pub HoldsAt : List Subscription → ℕ → (Subscription → Type 0) → Type 0
HoldsAt subs at P = (sub : Subscription) → slice_get subs at ≡ Some sub → P sub

-- somebody stands at that key, and the subscription has P
abbrev pub StandsSo : List (Key × Waiter) → Key → (Subscription → Type 0) → Type 0
StandsSo ws key P = (at : ℕ) × (s : Waiter) × (slice_get ws at ≡ Some (key, s)) × P s.sub

-- what holds of who stands at that key, in each place
abbrev pub HoldsAtKey : List (Key × Waiter) → Key → (ℕ → Waiter → Type 0) → Type 0
HoldsAtKey ws key P = (at : ℕ) (s : Waiter) → slice_get ws at ≡ Some (key, s) → P at s

-- the order with another subscription in that place
abbrev pub with_changed : ℕ → (Subscription → Subscription) → Waiting → Waiting
with_changed at f o = record o { all = changed at (with_sub f) o.all }

-- the first subscription that passes stands at that key
pub record IsFirstAt (passes : Subscription → Bool) (ws : List (Key × Waiter)) (key : Key) : Type 0 where
  pub at : ℕ
  pub waiter : Waiter
  pub there : slice_get ws at ≡ Some (key, waiter)
  pub first : IsFirst passes (subs_of ws) at

-- the first subscription that passes has ended, or none passes and nothing has changed
abbrev pub EndsFirst : (Subscription → Bool) → State → State → Bool → Type 0
EndsFirst passes s t true =
    (at : ℕ) × IsFirst passes s.subscriptions at × HoldsAt s.subscriptions at (λ sub. t ≡ without s sub (remove s.subscriptions at))
EndsFirst passes s t false = NonePass passes s.subscriptions × (t ≡ s)

-- whether a session may have one more subscription, of that id: not if it has one of that id, or 16
abbrev pub place_for : List Subscription → ℕ → List ℕ → Result (Unit {0}) Fault
place_for subs session id =
    if list_any (is_named session id) subs then Err SubscriptionIdInUse
    else (if nat_le 16 (count_by (is_of session) subs) then Err TooManyEntries
    else Ok tt)
