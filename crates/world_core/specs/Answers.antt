-- What an answer to an event says.
use Rattle.std.specs.Prelude.{◌≡◌, Bool, MatchBool}
use Rattle.world_core.specs.declared.event.Event.{Event}
use Rattle.world_core.specs.Events.{Possible, after}
use Rattle.world_core.specs.Readings.{Reading, IsRead}
use Rattle.world_core.specs.Worlds.{WorldValue}

-- true, and the change, just if the event is possible; false, and no change, just if it isn't
abbrev pub Tells : WorldValue → Reading → Event → Bool → WorldValue → Type 0
Tells old r event answer new = MatchBool answer (Possible old r event × (new ≡ after old r event)) ((Possible old r event → ⊥) × (new ≡ old))

-- What is read of the disk, and the answer for it.
pub record Answers (old : WorldValue) (event : Event) (answer : Bool) (new : WorldValue) : Type 0 where
  pub reading : Reading
  pub is_read : IsRead old.disk.size old.disk.content reading
  pub tells : Tells old reading event answer new

-- the answer is this one, whatever is read of the disk
abbrev pub IsTold : WorldValue → Event → Bool → WorldValue → Type 0
IsTold old event answer new = (r : Reading) → IsRead old.disk.size old.disk.content r → Tells old r event answer new
