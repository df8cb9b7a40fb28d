use Rattle.command_core.proofs.decoding.read_body.Goals as goal

pub returns-clause-read : goal.returns-clause-read
returns-clause-read c = c.read_counted.ensures.read

pub returns-clause-short : goal.returns-clause-short
returns-clause-short c = c.read_counted.ensures.short
