use Rattle.std.proofs.Common.{◌≡◌, false, true}
use Rattle.script_text.proofs.CrashCounts.{of_no_text, of_no_number, of_other_number}
use Rattle.script_text.proofs.script_line.count.Goals as goal

pub returns-in_default : goal.returns-in_default
returns-in_default c = of_no_text c.args.text.now c.in_default.ensures.cases.0

pub returns-else-is_decimal : goal.returns-else-is_decimal
returns-else-is_decimal c =
    of_other_number c.args.text.now c.in-Ok.digits.now c.in-Ok-parse.number c.parse.result c.in-Ok.ensures.cases.0 c.parse.ensures.value.0 c.in-Ok-parse.is
    (λ e. let no : false ≡ true = c.if-is_decimal.ensures.1 e in cc)

pub returns-in-Err : goal.returns-in-Err
returns-in-Err c = of_no_number c.args.text.now c.in-Ok.digits.now c.parse.result _ c.in-Ok.ensures.cases.0 c.parse.ensures.value.0 c.in-Err.is
