-- A worker of which a client waits for the mark, and the flusher that raises it. Each step is one atomic step of the code. The steps of both
-- come in any order.
use Rattle.std.specs.Prelude.{◌≡◌, ◌+◌, ◌-◌, ◌<◌, ◌⊎◌, ℕ, Bool, true, false, List, [], ◌∷◌, if◌then◌else◌}
use Rattle.wakeups.specs.declared.wakeups.MarkStep.{MarkStep}
use Rattle.wakeups.specs.declared.wakeups.MarkStep.TheVariants.{Raise, LookWhoWaits, SetWaiting, ReadMark, LetIn}
use Rattle.wakeups.specs.declared.wakeups.Waiter.{Waiter}
use Rattle.wakeups.specs.declared.wakeups.Waiter.TheVariants.{Serves, HasSet, Waits, Hurries}

-- Whether the mark lets the client in, the worker has set that it waits for it, and its bell was rung. How far the worker has come, and how
-- often the flusher has raised the mark and not looked yet who waits.
pub record MarkMachine : Type 0 where
  pub risen : Bool
  pub flagged : Bool
  pub rung : Bool
  pub worker : Waiter
  pub looking : ℕ

-- before the first step
abbrev pub begin_marked : MarkMachine
begin_marked = record { risen = false; flagged = false; rung = false; worker = Serves; looking = 0 }

-- when a step is possible
abbrev pub MayMark : MarkMachine → MarkStep → Type 0
MayMark m Raise = Unit {0}
MayMark m LookWhoWaits = 0 < m.looking
MayMark m SetWaiting = m.worker ≡ Serves
MayMark m ReadMark = m.worker ≡ HasSet
MayMark m LetIn = (m.worker ≡ Waits) ⊎ (m.worker ≡ Hurries)

-- what a step changes
abbrev pub after_mark : MarkMachine → MarkStep → MarkMachine
after_mark m Raise = record m { risen = true; looking = m.looking + 1 }
after_mark m LookWhoWaits = record m { rung = if m.flagged then true else m.rung; looking = m.looking - 1 }
after_mark m SetWaiting = record m { flagged = true; worker = HasSet }
after_mark m ReadMark = record m { worker = if m.risen then Hurries else Waits }
after_mark m LetIn = record m { risen = false; flagged = false; rung = false; worker = Serves }

-- these steps, each of which is possible, lead from one machine to the other
abbrev pub RunsMarked : MarkMachine → List MarkStep → MarkMachine → Type 0
RunsMarked m [] n = n ≡ m
RunsMarked m (step ∷ steps) n = MayMark m step × RunsMarked (after_mark m step) steps n

-- a worker waits, its client would be let in, and the flusher has looked who waits
pub record IsLeft (m : MarkMachine) : Type 0 where
  pub waits : m.worker ≡ Waits
  pub risen : m.risen ≡ true
  pub done : m.looking ≡ 0
