-- The limits of all desks together.
use Rattle.std.proofs.Common.{◌≡◌, ◌≤◌, ◌+◌, ◌*◌, ◌-◌, ◌/◌, ℕ, inl, inr, max, min, subst, arith}
use Rattle.std.proofs.lemmas.Bool.{cases_lt}
use Rattle.std.proofs.Math.Nat.{mul-div-le}
use Rattle.clients.specs.declared.footprint.TheConstants.{SESSION_BYTES}
use Rattle.engine_core.specs.Desks.{limit_of}
use Rattle.engine_core.specs.declared.hub.TheConstants.{HELD_BYTES}

shares_fit : (desks held least area shared : ℕ) → shared ≤ area - held → held + desks * least ≤ area → held + desks * max (shared / desks) least ≤ area
shares_fit desks held least area shared few large = elim (cases_lt (shared / desks) least) [
  | inl less ↦
      let is : least ≡ max (shared / desks) least = omega (arith, less) in
      subst (λ (m : ℕ). held + desks * m ≤ area) is large
  | inr more ↦
      let is : shared / desks ≡ max (shared / desks) least = omega (arith, more) in
      subst (λ (m : ℕ). held + desks * m ≤ area) is (omega (arith, mul-div-le shared desks, few, large))
]

pub limits_fit : (desks most_clients area : ℕ) → HELD_BYTES + desks * SESSION_BYTES ≤ area → HELD_BYTES + desks * limit_of desks most_clients area ≤ area
limits_fit desks most_clients area large =
    shares_fit desks HELD_BYTES SESSION_BYTES area (min (most_clients * SESSION_BYTES) (area - HELD_BYTES)) (omega arith) large
