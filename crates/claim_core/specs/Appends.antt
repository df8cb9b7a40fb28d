-- What an append does, and why one is refused.
use Rattle.std.specs.Prelude.{◌≡◌, ℕ, ◌<◌, ◌≤◌, [], ◌∷◌, ◌++◌, true, false}
use Rattle.command_core.specs.Commands.{CommandValue}
use Rattle.claim_core.specs.declared.refusals.Refused.{Refused}
use Rattle.claim_core.specs.declared.refusals.Refused.TheVariants.{Stopped, Exhausted, Busy}
use Rattle.claim_core.specs.Counts.{above}
use Rattle.claim_core.specs.Rule.{far}
use Rattle.claim_core.specs.Steps.{IsLast}
use Rattle.claim_core.specs.Seats.{SessionSeatValue, session, with_stop}

-- The seat gets the ticket and the command after its own, and nothing else but the mark that it read. The ring was not
-- stopped, and the mark is not far. Fewer of the seat's own commands than the window were not under the mark. The
-- ticket is no earlier than the mark, and later than each of the seat's own.
pub record Appends (window : ℕ) (old new : SessionSeatValue) (ticket : ℕ) (command : CommandValue) : Type 0 where
  pub added : new ≡ session old.ring old.number (old.own ++ (ticket, command) ∷ []) new.seen false
  pub no_less : old.seen ≤ new.seen
  pub near : new.seen < far
  pub room : above new.seen old.own < window
  pub unseen : new.seen ≤ ticket
  pub last : IsLast ticket old.own

-- Nothing was claimed. Each refusal comes only if those before it do not. The flusher has stopped the ring; the mark
-- just read is far; or as many own commands as the window are not under that mark, which the refusal names.
abbrev pub Refuses : ℕ → SessionSeatValue → SessionSeatValue → Refused → Type 0
Refuses window old new Stopped = new ≡ with_stop old true
Refuses window old new Exhausted = (old.seen ≤ new.seen) × (far ≤ new.seen) × (new ≡ session old.ring old.number old.own new.seen false)
Refuses window old new (Busy mark) = (old.seen ≤ mark) × (mark < far) × (window ≤ above mark old.own) × (new ≡ session old.ring old.number old.own mark false)
