use Rattle.std.proofs.Common.{◌∙◌, ◌∷◌, ◌-◌, ap, arith, drop, length, map, sym, take}
use Rattle.command_line.proofs.FirstWords.{named}
use Rattle.command_line.proofs.parsing.named.Goals as goal

pub returns-clause-some : goal.returns-clause-some
returns-clause-some g c =
    let words = c.args.words.now in
    let found = named g.S.AsStr.text words c.index-words-1.result (omega (arith, c.if-words-lt2.false)) c.index-words-1.is in
    (found.0, found.1 ∙ ap (λ w. found.0 ∷ w ∷ map g.S.AsStr.text (take (length words - 2) (drop 2 words))) (sym c.as_str.ensures))
