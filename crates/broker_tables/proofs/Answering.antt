use Rattle.std.proofs.Common.{◌≡◌, ◌++◌, [], List, None, Option, Some, ap, refl, ℕ}
use Rattle.std.proofs.lemmas.List.{append_assoc, append-nil}
use Rattle.command_core.specs.Outs.{OutValue}
use Rattle.broker_state.specs.Names.{Name}
use Rattle.broker_state.specs.Settles.{SettlesSo}
use Rattle.broker_tables.specs.Answers.{Answered, with_outs}
use Rattle.broker_tables.specs.declared.stock.Stock.{Stock}
use Rattle.broker_tables.specs.Stocks.{shown}

pub with_none : (earlier : Answered) → with_outs [] earlier ≡ earlier
with_none None = refl
with_none (Some all) = ap Some (append-nil all)

pub with_more : (first then : List OutValue) (earlier : Answered) → with_outs then (with_outs first earlier) ≡ with_outs (first ++ then) earlier
with_more first then None = refl
with_more first then (Some all) = ap Some (append_assoc all first then)

-- Some of what waited is handed out, and came as these.
pub record IsUnderWay (number : ℕ) (first : Stock) (earlier : Answered) (now : Stock) (all : Answered) : Type 0 where
  pub outs : List OutValue
  pub answers : all ≡ with_outs outs earlier
  pub settles : (sessions : List (ℕ × Option (List ℕ))) (durables : List (Name × List ℕ)) → SettlesSo (shown number sessions durables first) [] (shown number sessions durables now) outs 0
