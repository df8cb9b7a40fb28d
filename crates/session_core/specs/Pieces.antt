-- What a session does for bytes, and where it stands then.
use Rattle.std.specs.Prelude.{◌≡◌, List, ℕ}
use Rattle.session_core.specs.Sessions.{Hearing, Hears}
use Rattle.session_core.specs.declared.session.Act.{Act}
use Rattle.session_core.specs.declared.session.Phase.{Phase}

-- a session does so for the bytes, and stands in that phase then
abbrev pub HearsTo : Hearing → List ℕ → List Act → Phase → Type 0
HearsTo old bytes acts phase = (new : Hearing) × Hears old bytes acts new × (new.phase ≡ phase)
