-- What the desks of a worker do in a round, one thing after another.
use Rattle.std.specs.Prelude.{◌≡◌, List}
use Rattle.std.specs.List.{All}
use Rattle.server_core.specs.declared.service.Service.{Service}
use Rattle.server_core.specs.declared.sweep.Sweep.{Sweep}
use Rattle.server_core.specs.declared.sweep.Sweep.TheVariants.{Pass, End, Part}

-- the round has begun, and its clients had no turns yet
abbrev pub HasBegun : Sweep → Type 0
HasBegun Pass = ⊥
HasBegun End = ⊥
HasBegun Part = ⊥
HasBegun _ = Unit {0}

-- those that stood in line when the round began have had their turns
abbrev pub HasPassed : Sweep → Type 0
HasPassed Pass = Unit {0}
HasPassed _ = ⊥

-- a desk that has done the one does the other next: its clients pass once the round has begun, and the round ends once they have
abbrev pub Follows : Sweep → Sweep → Type 0
Follows before Pass = HasBegun before
Follows before End = HasPassed before
Follows before _ = Unit {0}

module _ {R : Type 0} where
  -- each of these desks may do that next
  abbrev pub MayAllDo : Sweep → List (Service R) → Type 0
  MayAllDo sweep services = All (λ (s : Service R). Follows s.swept sweep) services

  -- each of these desks has done that last
  abbrev pub HaveAllDone : Sweep → List (Service R) → Type 0
  HaveAllDone sweep services = All (λ (s : Service R). s.swept ≡ sweep) services
