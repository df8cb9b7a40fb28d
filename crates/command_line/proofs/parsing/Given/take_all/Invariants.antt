use Rattle.std.proofs.Common.{◌≡◌, drop, map}
use Rattle.command_line.specs.CommandLines.{given_by, given_from, joined, words_of}
use Rattle.command_line.proofs.parsing.Given.take_all.Given as goal

abbrev pub invariant-loop-word : goal.invariant-loop-word
invariant-loop-word g l =
    joined (words_of l.self) (given_from l.place (map g.S.AsStr.text (drop l.word-index l.words))) ≡ joined (words_of l.fn.self) (given_by (map g.S.AsStr.text l.words))
