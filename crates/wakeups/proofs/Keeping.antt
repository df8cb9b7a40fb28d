-- What each step keeps.
use Rattle.std.proofs.Common.{◌≡◌, ◌+◌, ◌<◌, ◌⊎◌, ℕ, Bool, true, false, List, [], ◌∷◌, inl, inr, refl, sym, ap, subst, ◌∙◌, arith}
use Rattle.wakeups.specs.declared.doorbell.BellStep.{BellStep}
use Rattle.wakeups.specs.declared.doorbell.BellStep.TheVariants.{Note, Ring, RingForOthers, Look, Wake, SetAsleep, Check, Return, SetAwake, TakeRing, TakeCalls}
use Rattle.wakeups.specs.declared.doorbell.Sleeper.{Sleeper}
use Rattle.wakeups.specs.declared.doorbell.Sleeper.TheVariants.{Serves, FallsAsleep, Waits, Hurries, Returned, Awake, TakesCalls}
use Rattle.wakeups.specs.Machines.{Machine, May, Polls, Runs, after, begin, checked, looked, took_ring, with_waking}
use Rattle.wakeups.specs.Promises.{IsNoticed}

-- it has set that it sleeps, and has not taken that back
abbrev pub IsDown : Sleeper → Type 0
IsDown FallsAsleep = Unit {0}
IsDown Waits = Unit {0}
IsDown Serves = ⊥
IsDown Hurries = ⊥
IsDown Returned = ⊥
IsDown Awake = ⊥
IsDown TakesCalls = ⊥

-- A bit that is set was rung for, or is being taken, or its caller is about to ring. A worker that is down has it set still, or somebody
-- wakes it. And one that waits though there was a ring is woken, or one that rang is about to wake it.
pub record IsKept (m : Machine) : Type 0 where
  pub heard : m.called ≡ true → (m.rung ≡ true) ⊎ ((m.worker ≡ TakesCalls) ⊎ (0 < m.noting))
  pub down : IsDown m.worker → (m.asleep ≡ true) ⊎ ((0 < m.waking) ⊎ (m.woken ≡ true))
  pub wakes : m.worker ≡ Waits → m.rung ≡ true → (m.woken ≡ true) ⊎ ((0 < m.waking) ⊎ ((m.asleep ≡ true) × (0 < m.looking)))

more : (b : Bool) (n : ℕ) → 0 < n → 0 < with_waking (looked b) n
more true n some = omega (arith, some)
more false n some = some

found_asleep : (b : Bool) (n : ℕ) → b ≡ true → 0 < with_waking (looked b) n
found_asleep true n is = omega arith
found_asleep false n is = absurd cc

checked_down : (b : Bool) → IsDown (checked b) → b ≡ false
checked_down true down = absurd down
checked_down false down = refl

checked_waits : (b : Bool) → checked b ≡ Waits → b ≡ true → ⊥
checked_waits true is rung = absurd cc
checked_waits false is rung = absurd cc

taken_down : (b : Bool) → IsDown (took_ring b) → ⊥
taken_down true down = down
taken_down false down = down

taken_waits : (b : Bool) → took_ring b ≡ Waits → ⊥
taken_waits true is = absurd cc
taken_waits false is = absurd cc

taken : (b : Bool) → b ≡ true → took_ring b ≡ TakesCalls
taken true is = refl
taken false is = absurd cc

polls_no_calls : (w : Sleeper) → Polls w → w ≡ TakesCalls → ⊥
polls_no_calls Serves polls is = absurd cc
polls_no_calls FallsAsleep polls is = polls
polls_no_calls Waits polls is = absurd cc
polls_no_calls Hurries polls is = absurd cc
polls_no_calls Returned polls is = polls
polls_no_calls Awake polls is = polls
polls_no_calls TakesCalls polls is = polls

-- a bit that is set stays heard of, if the worker was not taking the calls
module _ (m : Machine) (kept : IsKept m) (other : m.worker ≡ TakesCalls → ⊥) where
  not_taking : (w : Sleeper) → m.called ≡ true → (m.rung ≡ true) ⊎ ((w ≡ TakesCalls) ⊎ (0 < m.noting))
  not_taking w called =
      elim (kept.heard called) [ inl rung ↦ inl rung | inr rest ↦ elim rest [ inl takes ↦ absurd (other takes) | inr noting ↦ inr (inr noting) ] ]

module _ (m : Machine) (kept : IsKept m) where
  -- somebody has rung who looks next
  rings : m.worker ≡ Waits → (m.woken ≡ true) ⊎ ((0 < m.waking) ⊎ ((m.asleep ≡ true) × (0 < m.looking + 1)))
  rings waits =
      elim (kept.down (subst IsDown (sym waits) tt)) [ inl asleep ↦ inr (inr (asleep, omega arith)) | inr rest ↦ elim rest [ inl waking ↦ inr (inl waking) | inr woken ↦ inl woken ] ]

  pub keeps : (step : BellStep) → May m step → IsKept (after m step)
  keeps Note may = record { heard = λ _. inr (inr (omega arith)); down = kept.down; wakes = kept.wakes }
  keeps Ring may = record { heard = λ _. inl refl; down = kept.down; wakes = λ waits _. rings waits }
  keeps RingForOthers may = record { heard = λ _. inl refl; down = kept.down; wakes = λ waits _. rings waits }
  keeps Look may = record {
    heard = kept.heard;
    down = λ down. elim (kept.down down) [ inl asleep ↦ inr (inl (found_asleep m.asleep m.waking asleep)) | inr rest ↦ elim rest [ inl waking ↦ inr (inl (more m.asleep m.waking waking)) | inr woken ↦ inr (inr woken) ] ];
    wakes = λ waits rung. elim (kept.wakes waits rung) [ inl woken ↦ inl woken | inr rest ↦ elim rest [ inl waking ↦ inr (inl (more m.asleep m.waking waking)) | inr looks ↦ inr (inl (found_asleep m.asleep m.waking looks.0)) ] ];
  }
  keeps Wake may = record { heard = kept.heard; down = λ _. inr (inr refl); wakes = λ _ _. inl refl }
  keeps SetAsleep may = record {
    heard = not_taking m kept (λ takes. absurd (serves (sym may ∙ takes))) FallsAsleep;
    down = λ _. inl refl;
    wakes = λ waits _. absurd cc;
  }
    where
      serves : Serves ≡ TakesCalls → ⊥
      serves is = absurd cc
  keeps Check may = record {
    heard = not_taking m kept (λ takes. absurd (falls (sym may ∙ takes))) (checked m.rung);
    down = λ _. kept.down (subst IsDown (sym may) tt);
    wakes = λ waits rung. absurd (checked_waits m.rung waits rung);
  }
    where
      falls : FallsAsleep ≡ TakesCalls → ⊥
      falls is = absurd cc
  keeps (Return reported) may = record {
    heard = not_taking m kept (polls_no_calls m.worker may) Returned;
    down = λ down. absurd down;
    wakes = λ waits _. absurd cc;
  }
  keeps SetAwake may = record {
    heard = not_taking m kept (λ takes. absurd (returned (sym may ∙ takes))) Awake;
    down = λ down. absurd down;
    wakes = λ waits _. absurd cc;
  }
    where
      returned : Returned ≡ TakesCalls → ⊥
      returned is = absurd cc
  keeps TakeRing may = record {
    heard = λ called. elim (kept.heard called) [ inl rung ↦ inr (inl (taken m.rung rung)) | inr rest ↦ elim rest [ inl takes ↦ absurd (awake (sym may ∙ takes)) | inr noting ↦ inr (inr noting) ] ];
    down = λ down. absurd (taken_down m.rung down);
    wakes = λ waits _. absurd (taken_waits m.rung waits);
  }
    where
      awake : Awake ≡ TakesCalls → ⊥
      awake is = absurd cc
  keeps TakeCalls may = record {
    heard = λ called. absurd cc;
    down = λ down. absurd down;
    wakes = λ waits _. absurd cc;
  }

-- what is kept is kept by all steps
pub runs_keep : (m : Machine) (steps : List BellStep) (n : Machine) → IsKept m → Runs m steps n → IsKept n
runs_keep m [] n kept is = subst IsKept (sym is) kept
runs_keep m (step ∷ steps) n kept runs = runs_keep (after m step) steps n (keeps m kept step runs.0) runs.1

at_first : IsKept begin
at_first = record { heard = λ called. absurd cc; down = λ down. absurd down; wakes = λ waits rung. absurd cc }

none : (n : ℕ) → n ≡ 0 → 0 < n → ⊥
none n is some = absurd (omega (arith, is, some))

pub heard : (steps : List BellStep) (m : Machine) → Runs begin steps m → IsNoticed m
heard steps m runs =
    let kept = runs_keep begin steps m at_first runs in
    record {
      found = λ called no_one. elim (kept.heard called) [ inl rung ↦ inl rung | inr rest ↦ elim rest [ inl takes ↦ inr takes | inr noting ↦ absurd (none m.noting no_one noting) ] ];
      wakes = λ waits rung none_looks none_wakes. elim (kept.wakes waits rung) [ inl woken ↦ woken | inr rest ↦ elim rest [ inl waking ↦ absurd (none m.waking none_wakes waking) | inr looks ↦ absurd (none m.looking none_looks looks.1) ] ];
    }

-- a worker that waits, and wakes, takes the calls
module _ (steps : List BellStep) (m : Machine) (reported : Bool) (runs : Runs begin steps m) (waits : m.worker ≡ Waits) (called : m.called ≡ true) (no_one : m.noting ≡ 0) where
  rung_for : m.rung ≡ true
  rung_for = elim ((heard steps m runs).found called no_one) [ inl rung ↦ rung | inr takes ↦ absurd (waiting (sym waits ∙ takes)) ]
    where
      waiting : Waits ≡ TakesCalls → ⊥
      waiting is = absurd cc

  abbrev pub four : List BellStep
  four = Return reported ∷ SetAwake ∷ TakeRing ∷ TakeCalls ∷ []

  abbrev woken_up : Machine
  woken_up = after (after (after (after m (Return reported)) SetAwake) TakeRing) TakeCalls

  pub four_run : (n : Machine) × Runs m four n
  four_run = (woken_up, (subst Polls (sym waits) tt, (refl, (refl, (taken m.rung rung_for, refl)))))

  pub four_take : (n : Machine) → Runs m four n → n.called ≡ false
  four_take n ran = ap (λ (k : Machine). k.called) ran.1.1.1.1
