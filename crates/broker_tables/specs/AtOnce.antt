-- What is sent to a topic goes to each who listens at once.
use Rattle.std.specs.Prelude.{◌≡◌, ◌+◌, ◌<◌, ◌^◌, ◌++◌, ◌∷◌, [], List, ℕ, Option, false, true, count_by, remove}
use Rattle.std.specs.List.{AllByRecursion}
use Rattle.std.specs.Str.{bytes_eq}
use Rattle.command_core.specs.Destinations.{is_queue}
use Rattle.line_core.specs.declared.message.Message.{Message}
use Rattle.broker_state.specs.HandOut.{is_auto, message_out, settled}
use Rattle.broker_state.specs.Names.{Name}
use Rattle.broker_state.specs.Operations.{fanned_out}
use Rattle.broker_tables.specs.declared.stock.Stock.{Stock}
use Rattle.broker_tables.specs.Answers.{Answered, with_outs}
use Rattle.broker_tables.specs.Stocks.{shown}
use Rattle.waiting_order.specs.declared.waiters.Key.{Key}
use Rattle.waiting_order.specs.declared.groups.Place.{Place}
use Rattle.waiting_order.specs.declared.waiters.Waiter.{Waiter}
use Rattle.waiting_order.specs.Directories.{AreOfGroup, IsFirstFrom, behind_in, is_in, is_plain_at}
use Rattle.waiting_order.specs.Waiting.{subs_of}

-- each one of a group is in `auto`
abbrev pub AreAuto : ℕ → List (Key × Waiter) → Type 0
AreAuto group ws = AllByRecursion (λ (w : Key × Waiter). is_in group w.1 ≡ true → is_auto w.1.sub.mode ≡ true) ws

-- how many durable names are bound to a topic
abbrev pub names_bound : List ℕ → List (Name × List ℕ) → ℕ
names_bound to durables = count_by (λ durable. bytes_eq durable.1 to) durables

-- Those who listen to a topic without a durable name are a group, so many. All are in `auto`, nothing waits for them, and
-- there are numbers for as many deliveries.
pub record AreSwift (stock : Stock) (to : List ℕ) (group count : ℕ) : Type 0 where
  pub topic : is_queue to ≡ false
  pub listeners : AreOfGroup (is_plain_at to) stock.order.all group
  pub counted : count ≡ count_by (is_plain_at to) (subs_of stock.order.all)
  pub caught_up : behind_in group stock.order.all ≡ 0
  pub auto : AreAuto group stock.order.all
  pub numbers : stock.next_delivery + count < 2 ^ 63

-- The first of a group got a message from the command of that number, and waits last. Its MESSAGE is kept, if the outputs
-- are.
pub record Turns (number group : ℕ) (m : Message) (old : Stock) (earlier : Answered) (new : Stock) (all : Answered) : Type 0 where
  pub place : Place
  pub first : IsFirstFrom (is_in group) old.order.all 0 place
  pub order : new.order ≡ record { all = remove old.order.all first.at ++ (place.key, record first.waiter { ticket = old.order.next }) ∷ []; next = old.order.next + 1 }
  pub delivery : new.next_delivery ≡ old.next_delivery + 1
  pub shared : new.shared ≡ old.shared
  pub held : new.held ≡ old.held
  pub answers : all ≡ with_outs (message_out number first.waiter.sub old.next_delivery m ∷ []) earlier

-- A message of a topic without durable names went into its lines, and then all was handed out by the command of that number.
abbrev pub GoesToEach : ℕ → Message → Stock → Answered → Stock → Answered → Type 0
GoesToEach number m old earlier new all = (sessions : List (ℕ × Option (List ℕ))) (durables : List (Name × List ℕ)) → names_bound m.sending.destination durables ≡ 0
    → (shown number sessions durables new ≡ (settled (fanned_out (shown number sessions durables old) m)).state)
    × (all ≡ with_outs (settled (fanned_out (shown number sessions durables old) m)).outs earlier)
