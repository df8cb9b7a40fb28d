use Rattle.std.proofs.Common.{◌≡◌, refl, arith, [], ◌∷◌}
use Rattle.std.specs.Fmt.{decimal}
use Rattle.std.proofs.lemmas.Fmt.{decimal_digit}
use Rattle.percent_encoding.specs.Percent.{percent_encode_byte}
use Rattle.engine_core.proofs.laws.flushes_print_what_is_answered.Goals as goal

zero_text : decimal 0 ≡ 48 ∷ []
zero_text = decimal_digit 0 (omega arith)

pub returns-clause-connected : goal.returns-clause-connected
unfolding percent_encode_byte
returns-clause-connected c = rw zero_text refl

pub returns-clause-opened : goal.returns-clause-opened
returns-clause-opened c = refl

pub returns-clause-receipt : goal.returns-clause-receipt
unfolding percent_encode_byte
returns-clause-receipt c = rw zero_text refl
