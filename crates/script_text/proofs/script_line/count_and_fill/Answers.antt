use Rattle.std.proofs.Common.{◌∙◌, ◌∷◌, [], get_or, refl, sym, subst}
use Rattle.std.specs.Fmt.{decimal}
use Rattle.script_text.specs.ScriptLines.{AreHexDigits}
use Rattle.script_text.proofs.CrashCounts.{tail_of}
use Rattle.script_text.proofs.script_line.count_and_fill.Goals as goal

pub returns-in-None : goal.returns-in-None
returns-in-None c = λ k b is.
    let tail = tail_of c.args.text.now (decimal k) (32 ∷ is.1 ∷ is.2 ∷ []) is.4 refl in
    c.in-None.ensures b (subst (λ l. AreHexDigits (get_or l 1 0) (get_or l 2 0) b) (sym (c.split_at.ensures.back ∙ tail)) is.3)
