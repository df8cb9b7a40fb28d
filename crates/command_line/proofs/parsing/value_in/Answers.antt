use Rattle.command_line.proofs.Giving.{not_stripped, stripped}
use Rattle.command_line.proofs.parsing.value_in.Goals as goal

pub returns-clause-some : goal.returns-clause-some
returns-clause-some c = stripped c.args.word.now c.args.option.now c.strip_prefix.result c.strip_prefix.ensures.cases

pub returns-clause-none : goal.returns-clause-none
returns-clause-none c = not_stripped c.args.word.now c.args.option.now c.strip_prefix.result c.strip_prefix.ensures.cases
