use Rattle.std.proofs.Common.{map, refl, subst, sym}
use Rattle.command_line.specs.CommandLines.{AreFileAndNumber, words_of}
use Rattle.command_line.proofs.Asking.{no_serve}
use Rattle.command_line.proofs.parsing.numbers_in.Goals as goal

pub returns-in_default-clause-number : goal.returns-in_default-clause-number
returns-in_default-clause-number c e =
    no_serve (words_of c.args.given.now)
    (λ file port are some below. c.in_default.ensures.none refl file port (subst (λ words. AreFileAndNumber (map (λ word. word.now) words) file port) (sym c.deref.ensures.value) are) some below)
