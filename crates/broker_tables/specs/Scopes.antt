use Rattle.std.specs.Prelude.{◌≡◌, ◌<◌, ◌≤◌, List, ℕ, Bool, true, false, Option, Some, None, slice_get}
use Rattle.std.specs.List.{AllByRecursion}
use Rattle.broker_state.specs.Lists.{is_none}
use Rattle.broker_state.specs.Operations.{is_of}
use Rattle.broker_state.specs.Waiting.{Shared, line_for}
use Rattle.broker_tables.specs.declared.due.Due.{Due}
use Rattle.broker_tables.specs.declared.due.Scope.{Scope}
use Rattle.broker_tables.specs.declared.due.Scope.TheVariants.{Session, Group}
use Rattle.broker_tables.specs.Dues.{is_under}
use Rattle.waiting_order.specs.declared.waiters.Key.{Key}
use Rattle.waiting_order.specs.declared.groups.Place.{Place}
use Rattle.waiting_order.specs.declared.waiters.Waiter.{Waiter}
use Rattle.waiting_order.specs.Directories.{is_in}

-- whether who stands there is one of a scope
abbrev pub is_within : Scope → Waiter → Bool
is_within (Session session) waiter = is_of session waiter.sub
is_within (Group group) waiter = is_in group waiter

-- the scope is that of those that are due; none if nobody is
abbrev pub IsScope : Due → List (Key × Waiter) → Option Scope → Type 0
IsScope due ws None = AllByRecursion (λ (w : Key × Waiter). is_under due w.1.sub ≡ false) ws
IsScope due ws (Some scope) = AllByRecursion (λ (w : Key × Waiter). is_under due w.1.sub ≡ is_within scope w.1) ws

-- nothing waits for those of a scope that have a ticket from the one on and under the other
abbrev pub IdleUntil : Scope → Shared → List (Key × Waiter) → ℕ → ℕ → Type 0
IdleUntil scope shared ws from until = (i : ℕ) (w : Key × Waiter) → slice_get ws i ≡ Some w → from ≤ w.1.ticket → w.1.ticket < until
    → is_within scope w.1 ≡ true → is_none (line_for shared w.1.sub) ≡ true

-- Somebody of a scope stands at that key.
abbrev pub StandsWithin : Scope → List (Key × Waiter) → Key → Type 0
StandsWithin scope ws key = (at : ℕ) × (s : Waiter) × (slice_get ws at ≡ Some (key, s)) × (is_within scope s ≡ true)

-- Somebody of a scope has that place.
pub record IsPlaceWithin (scope : Scope) (ws : List (Key × Waiter)) (place : Place) : Type 0 where
  pub at : ℕ
  pub waiter : Waiter
  pub there : slice_get ws at ≡ Some (place.key, waiter)
  pub ticket : waiter.ticket ≡ place.ticket
  pub within : is_within scope waiter ≡ true
