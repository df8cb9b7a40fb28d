use Rattle.std.specs.Prelude.{Some}
use Rattle.claim_core.proofs.steps.claim.Given as goal

abbrev pub ghosts-claim_as : goal.ghosts-claim_as
ghosts-claim_as g a = record { command = Some a.entry.now.command }
