use Rattle.std.specs.Prelude.{◌≡◌, ◌+◌, ◌*◌, ◌<◌, ◌&&◌, List, ℕ, Bool, true, false, Option, MatchOption, None, Result, Ok, Err, count_by, length, nat_le, remove, slice_get, Some, take, if◌then◌else◌}
use Rattle.std.specs.List.{AllByRecursion}
use Rattle.std.specs.Str.{bytes_eq}
use Rattle.command_core.specs.declared.fault.Fault.{Fault}
use Rattle.command_core.specs.declared.command.Op.{Op}
use Rattle.command_core.specs.declared.command.Op.TheVariants.{End}
use Rattle.command_core.specs.Destinations.{is_queue}
use Rattle.broker_state.specs.declared.subscription.Subscription.{Subscription}
use Rattle.broker_state.specs.States.{State}
use Rattle.broker_state.specs.Operations.{is_named, without}
use Rattle.broker_state.specs.Names.{Name}
use Rattle.broker_state.specs.Waiting.{is_own}

-- the item in that place is the first that passes
pub record IsFirst {X : Type 0} (passes : X → Bool) (xs : List X) (at : ℕ) : Type 0 where
  pub within : at < length xs
  pub passing : (x : X) → slice_get xs at ≡ Some x → passes x ≡ true
  pub before : AllByRecursion (λ x. passes x ≡ false) (take at xs)

-- none passes
abbrev pub NonePass : {X : Type 0} → (X → Bool) → List X → Type 0
NonePass passes xs = AllByRecursion (λ x. passes x ≡ false) xs

-- what an operation gives, with the state that it leaves
abbrev pub leaving : Result (Unit {0}) Fault → State → Result State Fault
leaving (Ok _) s = Ok s
leaving (Err fault) s = Err fault

-- How many copies of a message to that destination the broker keeps. A queue's line gets one. Else each durable name of the
-- topic gets one, and so does each of the topic's subscriptions with a line of its own.
abbrev pub copies_to : List ℕ → List (Name × List ℕ) → List Subscription → ℕ
copies_to to durables subs =
    if is_queue to then 1 else count_by (λ durable. bytes_eq durable.1 to) durables + count_by (λ sub. is_own sub && bytes_eq sub.destination to) subs

-- so many more copies of so many bytes find room
abbrev pub find_room : ℕ → ℕ → ℕ → ℕ → Bool
find_room messages bytes copies size = nat_le (messages + copies) 4096 && nat_le (bytes + copies * size) 16777216

-- whether it was refused, and with what
abbrev pub without_state : Result State Fault → Result (Unit {0}) Fault
without_state (Ok s) = Ok tt
without_state (Err fault) = Err fault

-- whether an operation ends its session
abbrev pub is_end : Op → Bool
is_end (End _) = true
is_end _ = false

-- the state once the subscription in that place has ended, if a place is given
abbrev pub without_at : State → Option ℕ → State
without_at s None = s
without_at s (Some at) = elim (slice_get s.subscriptions at) as (λ o. State) [ None ↦ s | Some sub ↦ without s sub (remove s.subscriptions at) ]

-- the list without the item in that place, if a place is given
abbrev pub but_at : {X : Type 0} → List X → Option ℕ → List X
but_at xs None = xs
but_at xs (Some at) = remove xs at

-- the place is that of the session's subscription of that id; there is none if there is no such subscription, or no id
abbrev pub IsGivenAt : ℕ → Option (List ℕ) → List Subscription → Option ℕ → Type 0
IsGivenAt session None subs place = place ≡ None
IsGivenAt session (Some id) subs place = MatchOption place (NonePass (is_named session id) subs) (λ at. IsFirst (is_named session id) subs at)
