use Rattle.std.specs.Prelude.{◌≡◌, ◌==◌, ◌<◌, ◌≤◌, ◌&&◌, ⊤, List, [], ◌∷◌, ℕ, Bool, true, false, Option, MatchOption, None, Some, count_by, is_some, not, slice_get, unwrap_or, if◌then◌else◌}
use Rattle.std.specs.BTreeMap.{is_at}
use Rattle.std.specs.List.{AllByRecursion}
use Rattle.std.specs.Map.{lookup}
use Rattle.std.specs.Str.{bytes_eq}
use Rattle.std.specs.declared.cmp.Ordering.{Ordering}
use Rattle.slab.specs.Slab.{Slab, get}
use Rattle.broker_state.specs.declared.subscription.Subscription.{Subscription}
use Rattle.broker_state.specs.Lists.{is_none}
use Rattle.broker_state.specs.Names.{name_cmp, text_cmp}
use Rattle.broker_state.specs.Operations.{uses}
use Rattle.waiting_order.specs.declared.groups.Directory.{Directory}
use Rattle.waiting_order.specs.declared.groups.Group.{Group}
use Rattle.waiting_order.specs.declared.waiters.Key.{Key}
use Rattle.waiting_order.specs.declared.groups.Place.{Place}
use Rattle.waiting_order.specs.declared.waiters.Waiter.{Waiter}

-- the subscription is one of that destination, and has no durable name
abbrev pub is_plain_at : List ℕ → Subscription → Bool
is_plain_at to sub = not (is_some sub.durable) && bytes_eq sub.destination to

-- where a waiter waits
abbrev pub place_of : Key × Waiter → Place
place_of w = record { ticket = w.1.ticket; key = w.0 }

-- whether somebody who stands is of that group
abbrev pub is_in : ℕ → Waiter → Bool
is_in group s = s.group == group

-- the places of those waiters who pass, in their order
abbrev pub members : (Waiter → Bool) → List (Key × Waiter) → List Place
members passes [] = []
members passes (w ∷ ws) = if passes w.1 then place_of w ∷ members passes ws else members passes ws

-- whether something waits in a subscription's own line
abbrev pub is_behind : Subscription → Bool
is_behind sub = not (is_none sub.line)

-- how many of a group have something in their own line
abbrev pub behind_in : ℕ → List (Key × Waiter) → ℕ
behind_in group ws = count_by (λ (w : Key × Waiter). is_in group w.1 && is_behind w.1.sub) ws

-- those who pass are the waiters of that group, and there are some
pub record AreOfGroup (passes : Subscription → Bool) (ws : List (Key × Waiter)) (group : ℕ) : Type 0 where
  pub alike : AllByRecursion (λ (w : Key × Waiter). passes w.1.sub ≡ is_in group w.1) ws
  pub some : is_none (members (is_in group) ws) ≡ false

-- those who pass are the waiters of a group, or there is none and nobody passes
abbrev pub IsGroup : (Subscription → Bool) → List (Key × Waiter) → Option ℕ → Type 0
IsGroup passes ws group = MatchOption group
    (AllByRecursion (λ (w : Key × Waiter). passes w.1.sub ≡ false) ws)
    (AreOfGroup passes ws)

-- Two subscriptions have the same durable name, or none and the same destination.
pub record AreAlike (a b : Subscription) : Type 0 where
  pub durable : a.durable ≡ b.durable
  pub destination : a.durable ≡ None → a.destination ≡ b.destination

-- those of one group are alike
abbrev pub GroupsAreAlike : List (Key × Waiter) → Type 0
GroupsAreAlike ws = (i j : ℕ) (w v : Key × Waiter) → slice_get ws i ≡ Some w → slice_get ws j ≡ Some v → w.1.group ≡ v.1.group → AreAlike w.1.sub v.1.sub

-- the group under a handle, an empty one if there is none
abbrev pub group_at : Slab Group → ℕ → Group
group_at groups group = unwrap_or (get groups group) (record { places = []; behind = 0 })

-- the waiters of a group as it has them
abbrev pub grouped : ℕ → List (Key × Waiter) → Group
grouped group ws = record { places = members (is_in group) ws; behind = behind_in group ws }

-- no group is empty
abbrev pub AreFilled : Slab Group → Type 0
AreFilled groups = (group : ℕ) (g : Group) → get groups group ≡ Some g → is_none g.places ≡ false

-- under each key stands the group of those that have it
abbrev pub IsIndex : {K : Type 0} → (K → K → Ordering) → (K → Subscription → Bool) → List (K × ℕ) → List (Key × Waiter) → Type 0
IsIndex {K} cmp has handles ws = (key : K) → IsGroup (has key) ws (lookup (is_at (cmp key)) handles)

-- A directory of waiters. No group of it is empty.
pub record IsDirectory (d : Directory) (ws : List (Key × Waiter)) : Type 0 where
  pub groups : (group : ℕ) → group_at d.groups group ≡ grouped group ws
  pub destinations : IsIndex text_cmp is_plain_at d.destinations.entries ws
  pub names : IsIndex name_cmp uses d.names.entries ws
  pub filled : AreFilled d.groups

-- a waiter's key is of its session, and has one of the 16 slots
abbrev pub IsSlotted : Key × Waiter → Type 0
IsSlotted w = (w.0.session ≡ w.1.sub.session) × (w.0.slot < 16)

-- Each waiter has a slot, and a directory has its place.
pub record AreFound (d : Directory) (ws : List (Key × Waiter)) : Type 0 where
  pub slots : AllByRecursion IsSlotted ws
  pub directory : IsDirectory d ws

-- The place is that of the first waiter, from a ticket on, who passes.
pub record IsFirstFrom (passes : Waiter → Bool) (ws : List (Key × Waiter)) (from : ℕ) (place : Place) : Type 0 where
  pub at : ℕ
  pub waiter : Waiter
  pub there : slice_get ws at ≡ Some (place.key, waiter)
  pub ticket : waiter.ticket ≡ place.ticket
  pub after : from ≤ place.ticket
  pub passing : passes waiter ≡ true
  pub before : (i : ℕ) (w : Key × Waiter) → slice_get ws i ≡ Some w → from ≤ w.1.ticket → i < at → passes w.1 ≡ false

-- from a ticket on nobody passes
abbrev pub NoneFrom : (Waiter → Bool) → List (Key × Waiter) → ℕ → Type 0
NoneFrom passes ws from = (i : ℕ) (w : Key × Waiter) → slice_get ws i ≡ Some w → from ≤ w.1.ticket → passes w.1 ≡ false

-- the place of the first waiter, from a ticket on, who passes; none if there is no such one
abbrev pub IsNext : (Waiter → Bool) → List (Key × Waiter) → ℕ → Option Place → Type 0
IsNext passes ws from next = MatchOption next (NoneFrom passes ws from) (IsFirstFrom passes ws from)

-- A waiter's place stays, with what its subscription is looked for by.
pub record KeepsPlace (old new : Key × Waiter) : Type 0 where
  pub key : new.0 ≡ old.0
  pub ticket : new.1.ticket ≡ old.1.ticket
  pub group : new.1.group ≡ old.1.group
  pub session : new.1.sub.session ≡ old.1.sub.session
  pub destination : new.1.sub.destination ≡ old.1.sub.destination
  pub durable : new.1.sub.durable ≡ old.1.sub.durable

-- each waiter's place stays
abbrev pub KeepsPlaces : List (Key × Waiter) → List (Key × Waiter) → Type 0
KeepsPlaces [] [] = ⊤
KeepsPlaces [] (v ∷ vs) = ⊥
KeepsPlaces (w ∷ ws) [] = ⊥
KeepsPlaces (w ∷ ws) (v ∷ vs) = KeepsPlace w v × KeepsPlaces ws vs
