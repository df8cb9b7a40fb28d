use Rattle.std.proofs.lemmas.Bool.Decides.{Decides-ltb}
use Rattle.broker_state.proofs.part_checks.is_counted.Goals as goal

pub returns : goal.returns
returns c = Decides-ltb c.args.message.now.number.command c.args.count
