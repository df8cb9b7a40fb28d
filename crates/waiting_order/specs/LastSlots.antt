use Rattle.std.specs.Prelude.{◌≡◌, ◌==◌, ◌<◌, ◌⊎◌, List, ℕ, suc, Bool, true, false, Option, MatchOption, None, Some, is_some, slice_get, if◌then◌else◌}
use Rattle.std.specs.BTreeMap.{is_at}
use Rattle.std.specs.Map.{lookup}
use Rattle.std.specs.Ordering.{nat_cmp}
use Rattle.waiting_order.specs.Keys.{key_eq, key_of}
use Rattle.waiting_order.specs.declared.waiters.Key.{Key}
use Rattle.waiting_order.specs.declared.waiters.Waiter.{Waiter}
use Rattle.waiting_order.specs.Waiting.{AreTimed, Stands}

-- whether somebody stands at that key
abbrev pub is_taken : List (Key × Waiter) → Key → Bool
is_taken ws key = is_some (lookup (key_eq key) ws)

-- a number over that slot; 0 if there is none
abbrev pub over : Option ℕ → ℕ
over None = 0
over (Some slot) = suc slot

-- the last slot that is taken of a session
abbrev pub last_of : ℕ → List (ℕ × ℕ) → Option ℕ
last_of session lasts = lookup (is_at (nat_cmp session)) lasts

-- a session has that last slot, and others have what they had
abbrev pub HasLast : ℕ → Option ℕ → List (ℕ × ℕ) → List (ℕ × ℕ) → Type 0
HasLast session last old new = (s : ℕ) → last_of s new ≡ (if session == s then last else last_of s old)

-- Taken slots of a session are up to its last one, and nobody stands at that key. Last ones are taken, or are that key's.
pub record AreLastsBut (key : Key) (lasts : List (ℕ × ℕ)) (ws : List (Key × Waiter)) : Type 0 where
  pub covered : (k : Key) → is_taken ws k ≡ true → k.slot < over (last_of k.session lasts)
  pub taken : (session slot : ℕ) → last_of session lasts ≡ Some slot → (is_taken ws (key_of session slot) ≡ true) ⊎ (key_of session slot ≡ key)
  pub free : is_taken ws key ≡ false

-- The last slot of each session that has one: no greater one is taken, and it is.
pub record AreLasts (lasts : List (ℕ × ℕ)) (ws : List (Key × Waiter)) : Type 0 where
  pub covered : (k : Key) → is_taken ws k ≡ true → k.slot < over (last_of k.session lasts)
  pub taken : (session slot : ℕ) → last_of session lasts ≡ Some slot → is_taken ws (key_of session slot) ≡ true

-- that slot is the greatest one under a key's that is taken; none if none is
abbrev pub IsLastUnder : List (Key × Waiter) → Key → Option ℕ → Type 0
IsLastUnder ws key last = MatchOption last
    ((slot : ℕ) → slot < key.slot → is_taken ws (key_of key.session slot) ≡ false)
    (λ n. (n < key.slot) × (is_taken ws (key_of key.session n) ≡ true) × ((slot : ℕ) → n < slot → slot < key.slot → is_taken ws (key_of key.session slot) ≡ false))

-- Tickets are in order, and each session that has slots has its last one.
pub record AreSeated (next : ℕ) (slots : List (ℕ × ℕ)) (ws : List (Key × Waiter)) : Type 0 where
  pub timed : AreTimed next ws
  pub lasts : AreLasts slots ws

-- The number is the least one over all slots of a session.
pub record IsReach (ws : List (Key × Waiter)) (session reach : ℕ) : Type 0 where
  pub under : (i : ℕ) (w : Key × Waiter) → slice_get ws i ≡ Some w → w.0.session ≡ session → w.0.slot < reach
  pub least : (slot : ℕ) → reach ≡ suc slot → Stands ws (key_of session slot)
