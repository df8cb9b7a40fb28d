-- When a worker has parted with its clients.
use Rattle.std.specs.Prelude.{◌≡◌, ◌≤◌, ◌+◌, ◌⊎◌, ℕ, Bool, false, Option, Some, None}
use Rattle.server_core.specs.declared.serving.TheConstants.{LONGEST_FAREWELL}

-- it parts with them, and has none left, or has waited for them long enough
abbrev pub HasParted : Option ℕ → (now : ℕ) → (has_clients : Bool) → Type 0
HasParted None now has_clients = ⊥
HasParted (Some since) now has_clients = (has_clients ≡ false) ⊎ (since + LONGEST_FAREWELL ≤ now)
