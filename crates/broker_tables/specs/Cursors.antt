use Rattle.std.specs.Prelude.{◌≡◌, ◌-◌, ◌<◌, ◌≤◌, ◌&&◌, ◌^◌, List, ◌∷◌, ℕ, Bool, false, true, nat_le, None, Option}
use Rattle.std.specs.List.{AllByRecursion, list_any, sum_by}
use Rattle.std.specs.BinaryHeap.{heap_items}
use Rattle.broker_state.specs.HandOut.{can_take}
use Rattle.broker_state.specs.Parts.{NonePass}
use Rattle.broker_tables.specs.declared.cursors.Cursor.{Cursor}
use Rattle.broker_tables.specs.declared.cursors.Cursors.{Cursors}
use Rattle.broker_tables.specs.declared.due.Due.{Due}
use Rattle.broker_tables.specs.declared.stock.Stock.{Stock}
use Rattle.broker_tables.specs.Dues.{is_due}
use Rattle.broker_tables.specs.declared.due.Scope.{Scope}
use Rattle.broker_tables.specs.declared.stock.Readiness.{Readiness}
use Rattle.broker_tables.specs.declared.stock.Readiness.TheVariants.{Ready, Held, Idle}
use Rattle.broker_tables.specs.Places.{HoldsAtKey, IsFirstAt}
use Rattle.broker_tables.specs.Scopes.{IdleUntil, is_within}
use Rattle.broker_tables.specs.Stocks.{stocked}
use Rattle.waiting_order.specs.declared.waiters.Key.{Key}
use Rattle.waiting_order.specs.declared.waiters.Waiter.{Waiter}
use Rattle.waiting_order.specs.Waiting.{subs_of}

-- cursors, in no particular order
abbrev pub cursors_in : Cursors → List Cursor
cursors_in cursors = heap_items cursors.heap

-- whether somebody of a cursor's scope is still ahead of it
abbrev pub is_ahead : Waiter → Cursor → Bool
is_ahead waiter cursor = nat_le cursor.from waiter.ticket && is_within cursor.scope waiter

-- whether somebody is ahead of one of those cursors
abbrev pub is_awaited : List Cursor → Waiter → Bool
is_awaited cursors waiter = list_any (is_ahead waiter) cursors

-- each waiter who can be served is awaited
abbrev pub AreAwaited : List Cursor → Stock → Type 0
AreAwaited cursors stock =
    AllByRecursion (λ (w : Key × Waiter). can_take (stocked stock) w.1.sub ≡ true → is_awaited cursors w.1 ≡ true) stock.order.all

-- each waiter who is due is awaited
abbrev pub AwaitAllDue : List Cursor → List Due → List (Key × Waiter) → Type 0
AwaitAllDue cursors marks ws = AllByRecursion (λ (w : Key × Waiter). is_due marks w.1.sub ≡ true → is_awaited cursors w.1 ≡ true) ws

-- how many tickets cursors have before them
abbrev pub tickets_left : List Cursor → ℕ
tickets_left cursors = sum_by (λ (cursor : Cursor). 2 ^ 64 - cursor.from) cursors

-- the first in waiting order that can be served stands at that key
abbrev pub IsReady : Stock → Key → Type 0
IsReady stock key = IsFirstAt (can_take (stocked stock)) stock.order.all key

-- none can be served
abbrev pub NoneReady : Stock → Type 0
NoneReady stock = NonePass (can_take (stocked stock)) (subs_of stock.order.all)

-- none of the others has a lesser ticket
abbrev pub IsLeast : Cursor → Cursors → Type 0
IsLeast cursor others = AllByRecursion (λ (d : Cursor). cursor.from ≤ d.from) (cursors_in others)

-- Unless a key was found, fewer tickets are left than with that cursor.
abbrev pub IsNearer : Option Key → Cursor → Cursors → Cursors → Type 0
IsNearer found cursor old new = found ≡ None → tickets_left (cursors_in new) < tickets_left (cursor ∷ cursors_in old)

-- What may be handed to those of a scope, as far as the one at that key shows.
abbrev pub IsReadiness : Stock → Scope → Key → Readiness → Type 0
IsReadiness stock scope key Ready = HoldsAtKey stock.order.all key (λ at s. can_take (stocked stock) s.sub ≡ true)
IsReadiness stock scope key Held = HoldsAtKey stock.order.all key (λ at s. can_take (stocked stock) s.sub ≡ false)
IsReadiness stock scope key Idle = (from until : ℕ) → IdleUntil scope stock.shared stock.order.all from until
