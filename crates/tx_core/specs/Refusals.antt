use Rattle.std.specs.Prelude.{◌+◌, ◌||◌, List, ℕ, Bool, Option, Some, None, cond, is_some, length, nat_le, nat_lt}
use Rattle.command_core.specs.declared.fault.Fault.{Fault}
use Rattle.command_core.specs.declared.fault.Fault.TheVariants.{TransactionBegun, TransactionNotBegun, TransactionTooLarge, TooManyEntries}
use Rattle.command_core.specs.declared.command.Member.{Member}
use Rattle.command_core.specs.Sizes.{member_size}
use Rattle.tx_core.specs.Transactions.{bytes_of, members_of}

-- why a BEGIN of that name is refused: it is open, or four are
abbrev pub refusal_of_begin : List ℕ → List (List ℕ × List Member) → Option Fault
refusal_of_begin name transactions = cond (is_some (members_of name transactions)) (Some TransactionBegun) (cond (nat_le 4 (length transactions)) (Some TooManyEntries) None)

-- whether they are too large with that member: it is the 65th, or they pass 262,144 bytes
abbrev pub is_too_large : List Member → Member → Bool
is_too_large members member = nat_le 64 (length members) || nat_lt 262144 (bytes_of members + member_size member)

-- why a member may not join the members of a transaction
abbrev pub refusal_to_join : Member → Option (List Member) → Option Fault
refusal_to_join member None = Some TransactionNotBegun
refusal_to_join member (Some members) = cond (is_too_large members member) (Some TransactionTooLarge) None

-- why a member of the transaction of that name is refused: there is none, or it would be too large
abbrev pub refusal_of_add : List ℕ → Member → List (List ℕ × List Member) → Option Fault
refusal_of_add name member transactions = refusal_to_join member (members_of name transactions)

-- why a COMMIT or ABORT of that name is refused: there is none
abbrev pub refusal_of_end : List ℕ → List (List ℕ × List Member) → Option Fault
refusal_of_end name transactions = cond (is_some (members_of name transactions)) None (Some TransactionNotBegun)
