use Rattle.std.specs.Prelude.{◌≡◌, ◌≢◌, ◌<◌, ◌+◌, ◌-◌, ◌++◌, ◌∷◌, ◌⊎◌, [], List, ℕ, Bool, Option, None, Some, if◌then◌else◌}
use Rattle.std.specs.BTreeMap.{is_at}
use Rattle.std.specs.List.{AllByRecursion}
use Rattle.std.specs.Map.{lookup}
use Rattle.std.specs.declared.cmp.Ordering.{Ordering}
use Rattle.slab.specs.Slab.{Slab, get}
use Rattle.waiting_order.specs.Directories.{group_at}
use Rattle.waiting_order.specs.Tickets.{without}
use Rattle.waiting_order.specs.declared.groups.Group.{Group}
use Rattle.waiting_order.specs.declared.groups.Place.{Place}

-- one or none
abbrev pub one : Bool → ℕ
one is = if is then 1 else 0

-- all that wait at these places do before that one
abbrev pub AreBefore : Place → List Place → Type 0
AreBefore place places = AllByRecursion (λ (p : Place). p.ticket < place.ticket) places

-- a group with one more, which may be behind
abbrev pub grown : Place → Bool → Group → Group
grown place behind g = record { places = g.places ++ place ∷ []; behind = g.behind + one behind }

-- a group without the one of that ticket, which may be behind
abbrev pub shrunk : ℕ → Bool → Group → Group
shrunk ticket behind g = record { places = without ticket g.places; behind = g.behind - one behind }

-- the other groups are as they were
abbrev pub OthersStay : Slab Group → Slab Group → ℕ → Type 0
OthersStay old new group = (other : ℕ) → other ≢ group → get new other ≡ get old other

-- the handle is under that key, and other keys have what they had
abbrev pub HasHandle : {K : Type 0} → (K → K → Ordering) → K → ℕ → List (K × ℕ) → List (K × ℕ) → Type 0
HasHandle {K} cmp key group old new = (q : K) → lookup (is_at (cmp q)) new ≡ (if is_at (cmp q) key then Some group else lookup (is_at (cmp q)) old)

-- that key has no handle, and other keys have what they had
abbrev pub HasNone : {K : Type 0} → (K → K → Ordering) → K → List (K × ℕ) → List (K × ℕ) → Type 0
HasNone {K} cmp key old new = (q : K) → lookup (is_at (cmp q)) new ≡ (if is_at (cmp q) key then None else lookup (is_at (cmp q)) old)

-- The group under a key has one more: the one whose handle was there, or a new one.
pub record Joins {K : Type 0} (cmp : K → K → Ordering) (key : K) (place : Place) (behind : Bool) (groups : Slab Group) (handles : List (K × ℕ)) (groups_after : Slab Group) (handles_after : List (K × ℕ)) (group : ℕ) : Type 0 where
  pub handle : HasHandle cmp key group handles handles_after
  pub joined : group_at groups_after group ≡ grown place behind (group_at groups group)
  pub others : OthersStay groups groups_after group
  pub was : (lookup (is_at (cmp key)) handles ≡ Some group) ⊎ ((lookup (is_at (cmp key)) handles ≡ None) × (get groups group ≡ None))
