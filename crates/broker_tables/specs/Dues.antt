use Rattle.std.specs.Prelude.{◌≡◌, ◌&&◌, List, ℕ, Bool, true, false, Option, Some, None}
use Rattle.std.specs.List.{AllByRecursion, list_any}
use Rattle.std.specs.Str.{bytes_eq}
use Rattle.broker_state.specs.declared.subscription.Subscription.{Subscription}
use Rattle.broker_state.specs.HandOut.{can_take}
use Rattle.broker_state.specs.Names.{Name}
use Rattle.broker_state.specs.Operations.{is_of, uses}
use Rattle.broker_state.specs.States.{State}
use Rattle.broker_state.specs.Waiting.{Shared, line_for, returned}
use Rattle.waiting_order.specs.Directories.{is_plain_at}
use Rattle.broker_tables.specs.declared.due.Due.{Due}
use Rattle.broker_tables.specs.declared.due.Due.TheVariants.{Session, Destination, Durable}

-- whether a subscription is one of those that are due
abbrev pub is_under : Due → Subscription → Bool
is_under (Session session) sub = is_of session sub
is_under (Destination to) sub = is_plain_at to sub
is_under (Durable name) sub = uses name sub

-- those that are served from the line that a subscription is served from
abbrev pub due_from : Subscription → Option Name → Due
due_from sub None = Destination sub.destination
due_from sub (Some name) = Durable name

abbrev pub line_due : Subscription → Due
line_due sub = due_from sub sub.durable

-- whether a subscription is due by one of those marks
abbrev pub is_due : List Due → Subscription → Bool
is_due marks sub = list_any (λ due. is_under due sub) marks

-- each subscription that passes is due
abbrev pub AllDue : (Subscription → Bool) → List Due → Type 0
AllDue who due = (sub : Subscription) → who sub ≡ true → is_due due sub ≡ true

-- whether a subscription has one of the durable names that are bound to a topic
abbrev pub has_name_of : List ℕ → List (Name × List ℕ) → Subscription → Bool
has_name_of to durables sub = list_any (λ durable. bytes_eq durable.1 to && uses durable.0 sub) durables

-- the lines from which others are served stand as they were when that subscription's deliveries have returned to its line
abbrev pub OthersStand : List Due → Subscription → Type 0
OthersStand due sub = (lines : Shared) (other : Subscription) → is_due due other ≡ false → line_for (returned lines sub) other ≡ line_for lines other

-- a subscription that can be served is due
abbrev pub AreDue : List Due → State → Type 0
AreDue due s = AllByRecursion (λ sub. can_take s sub ≡ true → is_due due sub ≡ true) s.subscriptions
