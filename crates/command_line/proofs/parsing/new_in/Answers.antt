use Rattle.command_line.proofs.Addressing.{no_new}
use Rattle.command_line.proofs.parsing.new_in.Goals as goal

pub returns-in_err-number-clause-none : goal.returns-in_err-number-clause-none
returns-in_err-number-clause-none c none = no_new _ c.in_ok-size.size.now c.in_ok-size.ensures.some c.in_err-number.ensures.none
