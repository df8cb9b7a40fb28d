use Rattle.std.proofs.Common.{◌∙◌, ap, sym}
use Rattle.command_line.specs.Calls.{names_call}
use Rattle.command_line.proofs.FirstWords.{no_call}
use Rattle.command_line.proofs.calling.is_call.Goals as goal

pub returns-in-Some : goal.returns-in-Some
returns-in-Some g c = c.is_call_name.ensures ∙ ap names_call (sym c.in-Some.ensures.some.1)

pub returns-in-None : goal.returns-in-None
returns-in-None g c = no_call g.S.AsStr.text c.args.words.now c.in-None.ensures.none
