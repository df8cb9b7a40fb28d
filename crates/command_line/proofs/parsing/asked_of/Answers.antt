use Rattle.command_line.proofs.Asking.{asked_named}
use Rattle.command_line.proofs.parsing.asked_of.Goals as goal

pub returns-in-Ok-clause-ok : goal.returns-in-Ok-clause-ok
returns-in-Ok-clause-ok g c =
    let named = c.in-Some.ensures.some in asked_named c.asked_with.result _ _ named.0 c.in-Some.name.now _ named.1 c.in-Ok.ensures c.asked_with.ensures.ok
