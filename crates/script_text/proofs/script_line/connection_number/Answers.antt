use Rattle.std.proofs.Common.{arith}
use Rattle.script_text.proofs.ConnectionNumbers.{of_one, of_two, of_others}
use Rattle.script_text.proofs.script_line.connection_number.Goals as goal

pub returns-in-1 : goal.returns-in-1
returns-in-1 c = of_one c.args.text.now c.digit.result c.in-1.is c.digit.ensures

pub returns-in-2 : goal.returns-in-2
returns-in-2 c = of_two c.args.text.now c.from_ten.result c.in-2.is c.from_ten.ensures

pub returns-in_default : goal.returns-in_default
returns-in_default c = of_others c.args.text.now (omega arith) (omega arith)
