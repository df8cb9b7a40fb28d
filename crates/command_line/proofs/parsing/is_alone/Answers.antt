use Rattle.std.proofs.Common.{◌∙◌, ◌∷◌, [], ap, arith, sym}
use Rattle.std.proofs.lemmas.Grind.{common_steps}
use Rattle.command_line.proofs.FirstWords.{pair}
use Rattle.command_line.proofs.parsing.is_alone.Goals as goal

pub returns-in-len2-clause-asked : goal.returns-in-len2-clause-asked
returns-in-len2-clause-asked g c = grind (arith, common_steps)

pub returns-in-len2-clause-found : goal.returns-in-len2-clause-found
returns-in-len2-clause-found g c found =
    let p = pair g.S.AsStr.text c.args.words.now c.word-item.result (omega (arith, c.in-len2.len_at_least)) (omega (arith, c.in-len2.len_below)) c.word-item.is in
    (p.0, p.1 ∙ ap (λ w. p.0 ∷ w ∷ []) (sym c.as_str.ensures ∙ c.is_word.ensures.0 found))
