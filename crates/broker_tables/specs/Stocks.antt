use Rattle.std.specs.Prelude.{◌≡◌, ◌+◌, ◌<◌, ◌≤◌, ◌^◌, List, [], ℕ, Option}
use Rattle.broker_state.specs.HandOut.{settled}
use Rattle.broker_state.specs.Names.{Name}
use Rattle.broker_state.specs.States.{IsNext, State, held_bytes, held_messages}
use Rattle.broker_tables.specs.declared.stock.Stock.{Stock}
use Rattle.broker_tables.specs.Answers.{Answered, with_outs}
use Rattle.waiting_order.specs.Waiting.{subs_of}

-- the state that tables show
abbrev pub shown : ℕ → List (ℕ × Option (List ℕ)) → List (Name × List ℕ) → Stock → State
shown count sessions durables stock = record {
  count = count;
  next_delivery = stock.next_delivery;
  sessions = sessions;
  durables = durables;
  shared = stock.shared;
  subscriptions = subs_of stock.order.all;
}

-- the state that nobody has opened a session of
abbrev pub stocked : Stock → State
stocked stock = shown 0 [] [] stock

-- What a stock keeps: what is counted is what it holds, within the limits. The next delivery has a number that no
-- unacknowledged one has, and there are tickets for all that may come.
pub record IsStocked (stock : Stock) : Type 0 where
  pub messages : stock.held.messages ≡ held_messages (stocked stock)
  pub bytes : stock.held.bytes ≡ held_bytes (stocked stock)
  pub few : stock.held.messages ≤ 4096
  pub small : stock.held.bytes ≤ 16777216
  pub next : IsNext (stocked stock)
  pub deliveries : stock.next_delivery ≤ 2 ^ 63
  pub tickets : stock.order.next < 2 ^ 63 + stock.next_delivery

-- all that waited was handed out by the command of that number, and the MESSAGEs came, if they are kept
abbrev pub HandsAll : ℕ → Stock → Answered → Stock → Answered → Type 0
HandsAll number old earlier new all = (sessions : List (ℕ × Option (List ℕ))) (durables : List (Name × List ℕ))
    → (shown number sessions durables new ≡ (settled (shown number sessions durables old)).state)
    × (all ≡ with_outs (settled (shown number sessions durables old)).outs earlier)
