use Rattle.std.proofs.Common.{◌≡◌, [], ◌∷◌, map, subst}
use Rattle.command_line.specs.CommandLines.{words_of}
use Rattle.command_line.proofs.Asking.{no_format, no_size}
use Rattle.command_line.proofs.parsing.format_asked.Goals as goal

pub returns-in_err-bytes-clause-none : goal.returns-in_err-bytes-clause-none
returns-in_err-bytes-clause-none c none =
    no_format (words_of c.args.given.now)
    (no_size _ c.in_ok-file.file.now c.in_ok-file.text.now (subst (λ words. map (λ word. word.now) words ≡ c.in_ok-file.file.now ∷ c.in_ok-file.text.now ∷ []) c.deref.ensures.value c.in_ok-file.ensures.some) c.in_err-bytes.ensures.none)
