use Rattle.std.proofs.Common.{◌≡◌, true}
use Rattle.command_core.proofs.Formats.{few, listed}
use Rattle.command_core.proofs.decoding.lists_are_read_as_they_are_spelled.Goals as goal

pub returns : goal.returns
returns c r = record {
  few = λ spell is_formed one. few spell (λ x. is_formed x ≡ true) one;
  list = λ spell is_formed one. listed spell (λ x. is_formed x ≡ true) one;
}
