use Rattle.command_line.proofs.Addressing.{no_memory}
use Rattle.command_line.proofs.parsing.memory_in.Goals as goal

pub returns-in_err-number-clause-none : goal.returns-in_err-number-clause-none
returns-in_err-number-clause-none c none = no_memory _ c.in_ok-only.only.now c.in_ok-only.ensures.some c.in_err-number.ensures.none
