-- What a doorbell promises.
use Rattle.std.specs.Prelude.{◌≡◌, ◌⊎◌, true}
use Rattle.wakeups.specs.declared.doorbell.Sleeper.TheVariants.{Waits, TakesCalls}
use Rattle.wakeups.specs.Machines.{Machine}

-- Suppose the client's bit is set, and each caller that set it has rung. Then there is a ring that the worker has not taken back, or it is
-- about to take the calls. If the worker waits although there was a ring, the system was asked to end its wait, once those that rang are
-- done.
pub record IsNoticed (m : Machine) : Type 0 where
  pub found : m.called ≡ true → m.noting ≡ 0 → (m.rung ≡ true) ⊎ (m.worker ≡ TakesCalls)
  pub wakes : m.worker ≡ Waits → m.rung ≡ true → m.looking ≡ 0 → m.waking ≡ 0 → m.woken ≡ true
