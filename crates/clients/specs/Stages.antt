-- How a connection comes from one stage to another.
use Rattle.clients.specs.declared.turned.Ended.{Ended}
use Rattle.clients.specs.declared.turned.Ended.TheVariants.{Bye, Bad, Lost, Stopped}
use Rattle.clients.specs.declared.progress.Stage.{Stage}
use Rattle.clients.specs.declared.progress.Stage.TheVariants.{Running, GivingUp, Closing, Parting, Leaving, Over}

-- what was asked for is still to be appended
abbrev pub Executes : Stage → Type 0
Executes Running = Unit {0}
Executes GivingUp = Unit {0}
Executes Leaving = Unit {0}
Executes (Closing ended) = ⊥
Executes (Parting ended) = ⊥
Executes (Over ended) = ⊥

-- its client may be told an ERROR: its link is not over, and it is not to be closed
abbrev pub CanTell : Stage → Type 0
CanTell Running = Unit {0}
CanTell GivingUp = Unit {0}
CanTell Leaving = ⊥
CanTell (Closing ended) = ⊥
CanTell (Parting ended) = ⊥
CanTell (Over ended) = ⊥

-- it ends so by itself, and not because the broker takes nothing more
abbrev pub IsOwnEnd : Ended → Type 0
IsOwnEnd Bye = Unit {0}
IsOwnEnd Lost = Unit {0}
IsOwnEnd Bad = Unit {0}
IsOwnEnd Stopped = ⊥

-- it ends so, or has
abbrev pub IsEnding : Stage → Type 0
IsEnding Running = ⊥
IsEnding GivingUp = ⊥
IsEnding (Closing ended) = IsOwnEnd ended
IsEnding (Parting ended) = IsOwnEnd ended
IsEnding Leaving = ⊥
IsEnding (Over ended) = IsOwnEnd ended

-- The stage after the end of its link. A close that could not be said any more counts as none after a DISCONNECT or
-- an ERROR.
abbrev pub lost : Stage → Stage
lost Running = Leaving
lost GivingUp = Leaving
lost Leaving = Leaving
lost (Closing Bye) = Over Lost
lost (Closing Bad) = Over Lost
lost (Closing ended) = Over ended
lost (Parting ended) = Over ended
lost (Over ended) = Over ended

-- the stage once it is given up: after a close, or the end of its link, that is nothing new
abbrev pub given_up : Stage → Stage
given_up Running = GivingUp
given_up stage = stage

-- the stage once the broker takes nothing more
abbrev pub stopped : Stage → Stage
stopped Running = Closing Stopped
stopped GivingUp = Closing Stopped
stopped Leaving = Closing Stopped
stopped stage = stage

-- the stage once nothing that was asked for is left to be done
abbrev pub rested : Stage → Stage
rested GivingUp = Closing Lost
rested Leaving = Over Lost
rested stage = stage

-- the stage once the close was said
abbrev pub parted : Stage → Stage
parted (Closing ended) = Parting ended
parted stage = stage
