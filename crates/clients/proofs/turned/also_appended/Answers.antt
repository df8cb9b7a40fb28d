use Rattle.std.proofs.Common.{subst}
use Rattle.clients.specs.TurnAnswers.{Grows}
use Rattle.clients.proofs.TurnAnswers.{appended_now, appended_then}
use Rattle.clients.proofs.turned.also_appended.Goals as goal

pub returns-in-Appended : goal.returns-in-Appended
returns-in-Appended c = λ s t u a g. appended_now c.args.appended s t u a (subst (λ x. Grows x t u) c.in-Appended.is g)

pub returns-in_default : goal.returns-in_default
returns-in_default c = λ s t u a g. appended_then c.args.appended c.args.step s t u a g c.in_default.not-Appended
