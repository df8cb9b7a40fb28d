use Rattle.std.specs.Prelude.{◌≡◌, ◌<◌, List, ℕ, length, true, false}
use Rattle.std.specs.List.{AllWithin, HoldsAt}
use Rattle.std.specs.Str.{bytes_eq}
use Rattle.command_core.specs.declared.command.Member.{Member}

-- no transaction has that name
abbrev pub HasNone : List ℕ → List (List ℕ × List Member) → Type 0
HasNone name transactions = AllWithin (λ (t : List ℕ × List Member). bytes_eq name t.0 ≡ false) transactions 0 (length transactions)

-- the first transaction of that name stands at that place
abbrev pub IsPlace : List ℕ → List (List ℕ × List Member) → ℕ → Type 0
IsPlace name transactions place = (place < length transactions)
    × HoldsAt (λ (t : List ℕ × List Member). bytes_eq name t.0 ≡ true) transactions place
    × AllWithin (λ (t : List ℕ × List Member). bytes_eq name t.0 ≡ false) transactions 0 place
