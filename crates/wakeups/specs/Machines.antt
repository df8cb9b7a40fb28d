-- A worker that waits for its sockets and its bell, and any number of callers that ring for one of its clients. Each step is one atomic
-- step of the code. The steps of all of them come in any order.
use Rattle.std.specs.Prelude.{◌≡◌, ◌+◌, ◌-◌, ◌<◌, ℕ, Bool, true, false, List, [], ◌∷◌, if◌then◌else◌}
use Rattle.wakeups.specs.declared.doorbell.BellStep.{BellStep}
use Rattle.wakeups.specs.declared.doorbell.BellStep.TheVariants.{Note, Ring, RingForOthers, Look, Wake, SetAsleep, Check, Return, SetAwake, TakeRing, TakeCalls}
use Rattle.wakeups.specs.declared.doorbell.Caller.{Caller}
use Rattle.wakeups.specs.declared.doorbell.Caller.TheVariants.{Calls, HasRung, FoundAsleep, Done}
use Rattle.wakeups.specs.declared.doorbell.Sleeper.{Sleeper}
use Rattle.wakeups.specs.declared.doorbell.Sleeper.TheVariants.{Serves, FallsAsleep, Waits, Hurries, Returned, Awake, TakesCalls}

-- Whether the client's bit is set, there was a ring, the worker has set that it sleeps, and the system was asked to end its wait. How far
-- the worker has come. How many callers have set the bit but not rung yet; how many have rung but not looked whether the worker sleeps; and
-- how many have found it asleep but not asked the system yet.
pub record Machine : Type 0 where
  pub called : Bool
  pub rung : Bool
  pub asleep : Bool
  pub woken : Bool
  pub worker : Sleeper
  pub noting : ℕ
  pub looking : ℕ
  pub waking : ℕ

-- before the first step
abbrev pub begin : Machine
begin = record { called = false; rung = false; asleep = false; woken = false; worker = Serves; noting = 0; looking = 0; waking = 0 }

-- the worker's poll may end
abbrev pub Polls : Sleeper → Type 0
Polls Serves = Unit {0}
Polls Waits = Unit {0}
Polls Hurries = Unit {0}
Polls FallsAsleep = ⊥
Polls Returned = ⊥
Polls Awake = ⊥
Polls TakesCalls = ⊥

-- when a step is possible
abbrev pub May : Machine → BellStep → Type 0
May m Note = Unit {0}
May m Ring = 0 < m.noting
May m RingForOthers = Unit {0}
May m Look = 0 < m.looking
May m Wake = 0 < m.waking
May m SetAsleep = m.worker ≡ Serves
May m Check = m.worker ≡ FallsAsleep
May m (Return reported) = Polls m.worker
May m SetAwake = m.worker ≡ Returned
May m TakeRing = m.worker ≡ Awake
May m TakeCalls = m.worker ≡ TakesCalls

-- how far a worker has come that has looked whether there was a ring
abbrev pub checked : (rung : Bool) → Sleeper
checked rung = if rung then Hurries else Waits

-- and one that has taken the ring back
abbrev pub took_ring : (rung : Bool) → Sleeper
took_ring rung = if rung then TakesCalls else Serves

-- how far a caller has come that has looked whether the worker sleeps
abbrev pub looked : (asleep : Bool) → Caller
looked asleep = if asleep then FoundAsleep else Done

-- how many callers are to wake the worker, with this one
abbrev pub with_waking : Caller → ℕ → ℕ
with_waking FoundAsleep waking = waking + 1
with_waking Calls waking = waking
with_waking HasRung waking = waking
with_waking Done waking = waking

-- what a step changes
abbrev pub after : Machine → BellStep → Machine
after m Note = record m { called = true; noting = m.noting + 1 }
after m Ring = record m { rung = true; noting = m.noting - 1; looking = m.looking + 1 }
after m RingForOthers = record m { rung = true; looking = m.looking + 1 }
after m Look = record m { asleep = false; looking = m.looking - 1; waking = with_waking (looked m.asleep) m.waking }
after m Wake = record m { woken = true; waking = m.waking - 1 }
after m SetAsleep = record m { asleep = true; worker = FallsAsleep }
after m Check = record m { worker = checked m.rung }
after m (Return reported) = record m { woken = if reported then false else m.woken; worker = Returned }
after m SetAwake = record m { asleep = false; worker = Awake }
after m TakeRing = record m { rung = false; worker = took_ring m.rung }
after m TakeCalls = record m { called = false; worker = Serves }

-- these steps, each of which is possible, lead from one machine to the other
abbrev pub Runs : Machine → List BellStep → Machine → Type 0
Runs m [] n = n ≡ m
Runs m (step ∷ steps) n = May m step × Runs (after m step) steps n
