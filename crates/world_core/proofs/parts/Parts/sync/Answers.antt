use Rattle.std.proofs.Common.{◌≡◌, true}
use Rattle.world_core.proofs.parts.Parts.sync.Goals as goal

pub returns-then-ok-clause-failed : goal.returns-then-ok-clause-failed
returns-then-ok-clause-failed c failed = let succeeded : c.args.ok ≡ true = c.if-ok.true in absurd (cc)
