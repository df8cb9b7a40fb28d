use Rattle.std.specs.Prelude.{◌≡◌, ◌≤◌, ◌^◌, List, ℕ, Bool}
use Rattle.broker_state.specs.declared.limits.Held.{Held}
use Rattle.broker_state.specs.States.{IsNext, State, held_bytes, held_messages}
use Rattle.broker_tables.specs.declared.due.Due.{Due}
use Rattle.broker_tables.specs.declared.stock.Stock.{Stock}
use Rattle.broker_tables.specs.Dues.{AreDue}
use Rattle.broker_tables.specs.Stocks.{IsStocked, stocked}

-- What tables show: the state, whether they are broken, and how many marks there are of what is due.
pub record TablesValue : Type 0 where
  pub state : State
  pub broken : Bool
  pub due : ℕ

-- What tables keep: what a stock keeps, and a subscription that can be served is due to be.
pub record IsKept (stock : Stock) (due : List Due) : Type 0 where
  pub whole : IsStocked stock
  pub ready : AreDue due (stocked stock)

-- What is counted is what the state holds, which is within the limits. The next delivery has a number that no
-- unacknowledged one has, and that is at most 2^63.
pub record IsTallied (s : State) (held : Held) : Type 0 where
  pub messages : held.messages ≡ held_messages s
  pub bytes : held.bytes ≡ held_bytes s
  pub few : held.messages ≤ 4096
  pub small : held.bytes ≤ 16777216
  pub next : IsNext s
  pub deliveries : s.next_delivery ≤ 2 ^ 63
