-- How many clients a server takes.
use Rattle.std.specs.Prelude.{◌-◌, ℕ, Option, Some, None, max, min}
use Rattle.server_core.specs.declared.descriptors.TheConstants.{OWN}

-- As many as it is to take, or as it may have descriptors for besides its own, if these are fewer; but one at least. The system need not say how
-- many descriptors it may have.
abbrev pub clients_within : (limit : Option ℕ) → ℕ → ℕ
clients_within None most = most
clients_within (Some limit) most = min most (max (limit - OWN) 1)
