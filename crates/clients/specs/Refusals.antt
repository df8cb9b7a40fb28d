-- What becomes of an entry that the ring refuses.
use Rattle.std.specs.Prelude.{◌≡◌, Option, Some}
use Rattle.claim_core.specs.declared.refusals.Refused.{Refused}
use Rattle.claim_core.specs.declared.refusals.Refused.TheVariants.{Stopped, Exhausted, Busy}
use Rattle.clients.specs.declared.turned.Outcome.{Outcome}
use Rattle.clients.specs.declared.turned.Outcome.TheVariants as steps
use Rattle.clients.specs.Boxes.{BoxEntry}

-- it is kept, as it is, if the window is full, and the mark is told; if nothing more is taken, the turn rests
abbrev pub WaitsIfFull : BoxEntry → Refused → Option BoxEntry → Outcome → Type 0
WaitsIfFull entry (Busy mark) kept step = (kept ≡ Some entry) × (step ≡ steps.Room mark)
WaitsIfFull entry Stopped kept step = step ≡ steps.Rest
WaitsIfFull entry Exhausted kept step = step ≡ steps.Rest
