use Rattle.std.specs.Prelude.{◌≤◌, List, [], ◌∷◌, ◌++◌, ℕ, Option, length, unwrap_or}
use Rattle.std.specs.List.{IsDistinct, sum_by}
use Rattle.std.specs.Map.{keys_of, lookup, remove_entry, set_value}
use Rattle.std.specs.Str.{bytes_eq}
use Rattle.command_core.specs.declared.command.Member.{Member}
use Rattle.command_core.specs.Sizes.{member_size}

-- the bytes of the members' operations
abbrev pub bytes_of : List Member → ℕ
bytes_of members = sum_by member_size members

-- those of the members of all transactions
abbrev pub bytes_of_all : List (List ℕ × List Member) → ℕ
bytes_of_all transactions = sum_by (λ (t : List ℕ × List Member). bytes_of t.1) transactions

-- at most 64 members, of at most 262,144 bytes
pub record IsTransaction (members : List Member) : Type 0 where
  pub few : length members ≤ 64
  pub small : bytes_of members ≤ 262144

-- at most four transactions of different names
pub record AreOpen (transactions : List (List ℕ × List Member)) : Type 0 where
  pub distinct : IsDistinct bytes_eq (keys_of transactions)
  pub few : length transactions ≤ 4

-- the members of the transaction of that name (STOMP 1.2, "BEGIN")
abbrev pub members_of : List ℕ → List (List ℕ × List Member) → Option (List Member)
members_of name transactions = lookup (bytes_eq name) transactions

-- with one more, which has no members yet (STOMP 1.2, "BEGIN")
abbrev pub begun : List ℕ → List (List ℕ × List Member) → List (List ℕ × List Member)
begun name transactions = transactions ++ (name, []) ∷ []

-- with the member at the end of the transaction of that name
abbrev pub added : List ℕ → Member → List (List ℕ × List Member) → List (List ℕ × List Member)
added name member transactions = set_value (bytes_eq name) transactions (unwrap_or (members_of name transactions) [] ++ member ∷ [])

-- without the transaction of that name (STOMP 1.2, "COMMIT" and "ABORT")
abbrev pub without : List ℕ → List (List ℕ × List Member) → List (List ℕ × List Member)
without name transactions = remove_entry (bytes_eq name) transactions
