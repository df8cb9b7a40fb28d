use Rattle.command_line.proofs.words.memory_number_of.Goals as goal

pub returns-in_default-clause-none : goal.returns-in_default-clause-none
returns-in_default-clause-none c number is least = c.in_default.ensures.none number is
