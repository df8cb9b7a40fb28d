-- When a connection is stopped because the broker takes nothing more.
use Rattle.std.specs.Prelude.{◌≡◌, ◌≤◌, ◌⊎◌, true}
use Rattle.claim_core.specs.Rule.{far}
use Rattle.claim_core.specs.Seats.{SessionSeatValue}
use Rattle.claim_core.specs.declared.refusals.Refused.{Refused}
use Rattle.claim_core.specs.declared.refusals.Refused.TheVariants as refusals
use Rattle.clients.specs.declared.turned.Ended.{Ended}
use Rattle.clients.specs.declared.turned.Ended.TheVariants.{Bye, Bad, Lost, Stopped}
use Rattle.clients.specs.declared.progress.Stage.{Stage}
use Rattle.clients.specs.declared.progress.Stage.TheVariants.{Running, GivingUp, Closing, Parting, Leaving, Over}

abbrev pub IsStopped : Ended → Type 0
IsStopped Bye = ⊥
IsStopped Lost = ⊥
IsStopped Bad = ⊥
IsStopped Stopped = Unit {0}

-- it ends so, or has
abbrev pub HasHalted : Stage → Type 0
HasHalted Running = ⊥
HasHalted GivingUp = ⊥
HasHalted (Closing ended) = IsStopped ended
HasHalted (Parting ended) = IsStopped ended
HasHalted Leaving = ⊥
HasHalted (Over ended) = IsStopped ended

-- the seat has found that the ring takes nothing more: it was stopped, or its mark is too far
abbrev pub FindsEnd : SessionSeatValue → Type 0
FindsEnd seat = (seat.stopped ≡ true) ⊎ (far ≤ seat.seen)

-- nothing more is taken after that refusal
abbrev pub IsFinal : Refused → Type 0
IsFinal refusals.Stopped = Unit {0}
IsFinal refusals.Exhausted = Unit {0}
IsFinal (refusals.Busy mark) = ⊥
