use Rattle.std.proofs.Common.{◌≡◌, ◌∙◌, refl, sym, true}
use Rattle.flush_core.proofs.flusher.Flusher.gather.Goals as goal

pub take_batch-requires-clause-whole : goal.take_batch-requires-clause-whole
take_batch-requires-clause-whole g c = sym c.is_broken.ensures.value ∙ c.if-is_broken.false

pub returns-then-is_broken-clause-taken : goal.returns-then-is_broken-clause-taken
returns-then-is_broken-clause-taken g c = tt

pub returns-then-is_broken-clause-batch : goal.returns-then-is_broken-clause-batch
returns-then-is_broken-clause-batch g c = tt

pub returns-then-is_broken-clause-untouched : goal.returns-then-is_broken-clause-untouched
returns-then-is_broken-clause-untouched g c = (refl, refl)

pub returns-then-is_broken-clause-breaks : goal.returns-then-is_broken-clause-breaks
returns-then-is_broken-clause-breaks g c =
    let broken : c.args.self.now.broken ≡ true = sym c.is_broken.ensures.value ∙ c.if-is_broken.true in
    record { outcome = (broken, refl); stops = (broken, c.is_broken.ensures.kept.stopped broken); fault = tt }

pub returns-clause-taken : goal.returns-clause-taken
returns-clause-taken g c = c.take_batch.ensures.taken

pub returns-clause-batch : goal.returns-clause-batch
returns-clause-batch g c = c.take_batch.ensures.batch

pub returns-clause-untouched : goal.returns-clause-untouched
returns-clause-untouched g c = c.take_batch.ensures.untouched

pub returns-clause-breaks : goal.returns-clause-breaks
returns-clause-breaks g c = c.take_batch.ensures.breaks
