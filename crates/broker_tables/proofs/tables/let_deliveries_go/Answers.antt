use Rattle.std.proofs.Common.{arith}
use Rattle.broker_state.proofs.Weights.{ones}
use Rattle.broker_tables.proofs.tables.let_deliveries_go.Goals as goal

pub overflow_sub-held : goal.overflow_sub-held
overflow_sub-held c = omega (arith, ones c.args.deliveries.now)

pub returns-clause-messages : goal.returns-clause-messages
returns-clause-messages c = omega (arith, ones c.args.deliveries.now)
