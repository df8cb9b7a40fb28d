use Rattle.script_text.proofs.ConnectionNumbers.{received_digit, received_digits, of_no_form, not_empty, not_flush, not_open}
use Rattle.script_text.proofs.script_line.read_line.Goals as goal

pub returns-in-Some-one_digit : goal.returns-in-Some-one_digit
returns-in-Some-one_digit c = received_digit _ _ c.in-Some-one_digit.ensures

pub returns-in-Some-two_digits : goal.returns-in-Some-two_digits
returns-in-Some-two_digits c = received_digits _ _ c.in-Some-two_digits.ensures

pub returns-in-None : goal.returns-in-None
returns-in-None c = of_no_form _ (not_empty _ (cc)) (not_flush _ (cc)) (not_open _ (cc)) c.in_default.ensures c.in_default-lost.ensures c.in_default-one_digit.ensures c.in-None.ensures
