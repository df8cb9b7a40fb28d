use Rattle.std.specs.Prelude.{◌≡◌, ◌==◌, ◌<◌, ◌++◌, List, [], ◌∷◌, ℕ, zero, suc, false, true, Option, None, Some, map, slice_get, if◌then◌else◌}
use Rattle.std.specs.List.{AllByRecursion, IsDistinct}
use Rattle.std.specs.Map.{keys_of, lookup}
use Rattle.std.specs.Option.{option_to_list}
use Rattle.broker_state.specs.declared.subscription.Subscription.{Subscription}
use Rattle.waiting_order.specs.declared.waiters.Key.{Key}
use Rattle.waiting_order.specs.declared.waiters.Waiter.{Waiter}
use Rattle.waiting_order.specs.Keys.{key_eq}
use Rattle.waiting_order.specs.Tickets.{IsRising}

-- the first waiter of that ticket, with its key
abbrev pub waiter_at : ℕ → List (Key × Waiter) → Option (Key × Waiter)
waiter_at ticket [] = None
waiter_at ticket (w ∷ ws) = if w.1.ticket == ticket then Some w else waiter_at ticket ws

-- the waiters with tickets under that one, by rising ticket
abbrev pub by_ticket : ℕ → List (Key × Waiter) → List (Key × Waiter)
by_ticket zero ws = []
by_ticket (suc n) ws = by_ticket n ws ++ option_to_list (waiter_at n ws)

-- all that wait, in waiting order, and the next ticket
pub record Waiting : Type 0 where
  pub all : List (Key × Waiter)
  pub next : ℕ

-- the subscriptions of waiters
abbrev pub subs_of : List (Key × Waiter) → List Subscription
subs_of ws = map (λ (w : Key × Waiter). w.1.sub) ws

-- somebody stands at that key
abbrev pub Stands : List (Key × Waiter) → Key → Type 0
Stands ws key = (at : ℕ) × (s : Waiter) × (slice_get ws at ≡ Some (key, s))

-- nobody stands at that key
abbrev pub IsFree : List (Key × Waiter) → Key → Type 0
IsFree ws key = (i : ℕ) (w : Key × Waiter) → slice_get ws i ≡ Some w → key_eq key w.0 ≡ false

-- Keys differ, and so do tickets, which are under the next one.
pub record AreTimed (next : ℕ) (ws : List (Key × Waiter)) : Type 0 where
  pub unique : IsDistinct key_eq (keys_of ws)
  pub under : (k : Key) (s : Waiter) → lookup (key_eq k) ws ≡ Some s → s.ticket < next
  pub apart : (k l : Key) (s t : Waiter) → lookup (key_eq k) ws ≡ Some s → lookup (key_eq l) ws ≡ Some t → s.ticket ≡ t.ticket → k ≡ l

-- In the waiting order tickets rise, and are under the next one, and nobody stands in two places.
pub record IsOrdered (o : Waiting) : Type 0 where
  pub rising : IsRising (λ (w : Key × Waiter). w.1.ticket) o.all
  pub under : AllByRecursion (λ (w : Key × Waiter). w.1.ticket < o.next) o.all
  pub apart : (i j : ℕ) (w v : Key × Waiter) → slice_get o.all i ≡ Some w → slice_get o.all j ≡ Some v → key_eq w.0 v.0 ≡ true → i ≡ j
