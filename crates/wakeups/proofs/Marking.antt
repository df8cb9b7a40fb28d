-- What each step of a worker that waits for the mark keeps.
use Rattle.std.proofs.Common.{◌≡◌, ◌<◌, ◌⊎◌, Bool, true, false, List, [], ◌∷◌, inl, inr, refl, sym, subst, arith, if◌then◌else◌}
use Rattle.wakeups.specs.declared.wakeups.MarkStep.{MarkStep}
use Rattle.wakeups.specs.declared.wakeups.MarkStep.TheVariants.{Raise, LookWhoWaits, SetWaiting, ReadMark, LetIn}
use Rattle.wakeups.specs.declared.wakeups.Waiter.{Waiter}
use Rattle.wakeups.specs.declared.wakeups.Waiter.TheVariants.{Serves, HasSet, Waits, Hurries}
use Rattle.wakeups.specs.MarkMachines.{IsLeft, MarkMachine, MayMark, RunsMarked, after_mark, begin_marked}

-- it has set that it waits, and has not taken that back
abbrev pub IsWaiting : Waiter → Type 0
IsWaiting Serves = ⊥
IsWaiting HasSet = Unit {0}
IsWaiting Waits = Unit {0}
IsWaiting Hurries = ⊥

-- a worker that waits has it set still; and its bell was rung once the mark has risen, or the flusher is about to look
pub record IsMarked (m : MarkMachine) : Type 0 where
  pub flagged : IsWaiting m.worker → m.flagged ≡ true
  pub rung_for : m.worker ≡ Waits → m.risen ≡ true → (m.rung ≡ true) ⊎ (0 < m.looking)

read_waiting : (b : Bool) → IsWaiting (if b then Hurries else Waits) → b ≡ false
read_waiting true waiting = absurd waiting
read_waiting false waiting = refl

read_waits : (b : Bool) → (if b then Hurries else Waits) ≡ Waits → b ≡ true → ⊥
read_waits true is risen = absurd cc
read_waits false is risen = absurd cc

rung_by : (flagged rung : Bool) → flagged ≡ true → (if flagged then true else rung) ≡ true
rung_by true rung is = refl
rung_by false rung is = absurd cc

module _ (m : MarkMachine) (kept : IsMarked m) where
  pub keeps_marked : (step : MarkStep) → MayMark m step → IsMarked (after_mark m step)
  keeps_marked Raise may = record { flagged = kept.flagged; rung_for = λ _ _. inr (omega arith) }
  keeps_marked LookWhoWaits may = record {
    flagged = kept.flagged;
    rung_for = λ waits _. inl (rung_by m.flagged m.rung (kept.flagged (subst IsWaiting (sym waits) tt)));
  }
  keeps_marked SetWaiting may = record { flagged = λ _. refl; rung_for = λ waits _. absurd cc }
  keeps_marked ReadMark may = record {
    flagged = λ _. kept.flagged (subst IsWaiting (sym may) tt);
    rung_for = λ waits risen. absurd (read_waits m.risen waits risen);
  }
  keeps_marked LetIn may = record { flagged = λ waiting. absurd waiting; rung_for = λ waits _. absurd cc }

runs_marked : (m : MarkMachine) (steps : List MarkStep) (n : MarkMachine) → IsMarked m → RunsMarked m steps n → IsMarked n
runs_marked m [] n kept is = subst IsMarked (sym is) kept
runs_marked m (step ∷ steps) n kept runs = runs_marked (after_mark m step) steps n (keeps_marked m kept step runs.0) runs.1

first_marked : IsMarked begin_marked
first_marked = record { flagged = λ waiting. absurd waiting; rung_for = λ waits risen. absurd cc }

pub marked : (steps : List MarkStep) (m : MarkMachine) → RunsMarked begin_marked steps m → IsLeft m → m.rung ≡ true
marked steps m runs left =
    let kept = runs_marked begin_marked steps m first_marked runs in
    elim (kept.rung_for left.waits left.risen) [ inl rung ↦ rung | inr looking ↦ absurd (omega (arith, looking, left.done)) ]
