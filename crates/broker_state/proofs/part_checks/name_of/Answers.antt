use Rattle.std.proofs.Common.{◌∙◌}
use Rattle.broker_state.specs.Names.{name_cmp}
use Rattle.broker_state.proofs.Keys.{names_total}
use Rattle.broker_state.proofs.SeenNames.{unnamed, used_by}
use Rattle.broker_state.proofs.SeenNumbers.{turned}
use Rattle.broker_state.proofs.part_checks.name_of.Goals as goal

pub returns-in-Some : goal.returns-in-Some
returns-in-Some c = λ q. used_by q c.in-Some.name c.args.sub.now c.in-Some.is ∙ turned name_cmp names_total c.in-Some.name q

pub returns-in-None : goal.returns-in-None
returns-in-None c = λ q. unnamed q c.args.sub.now c.in-None.is
