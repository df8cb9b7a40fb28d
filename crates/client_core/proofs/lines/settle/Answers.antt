use Rattle.client_core.proofs.lines.settle.Goals as goal

pub returns-in-None-clause-stray : goal.returns-in-None-clause-stray
returns-in-None-clause-stray c number within is = absurd (c.in-None.ensures.none number within is)
