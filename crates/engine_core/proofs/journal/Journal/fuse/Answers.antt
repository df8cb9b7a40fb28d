use Rattle.engine_core.proofs.Resting.{same_rest}
use Rattle.engine_core.proofs.journal.Journal.fuse.Goals as goal

pub invariant_of-result : goal.invariant_of-result
invariant_of-result g c = λ whole. same_rest _ _ c.self.inside.flusher c.fuse.result c.fuse.ensures.same (c.self.invariant whole)
