use Rattle.std.proofs.Common.{ap, arith}
use Rattle.std.specs.List.{sum_by}
use Rattle.broker_state.specs.States.{one}
use Rattle.broker_state.proofs.Weights.{ones}
use Rattle.broker_tables.proofs.messages.move_refused.Goals as goal

pub keep-requires-clause-few : goal.keep-requires-clause-few
keep-requires-clause-few c =
    omega (arith, ones c.args.settled.items, ap (sum_by (λ delivery. one delivery.1)) c.as_slice.ensures.value, c.let_deliveries_go.ensures.messages, c.requires.within.0)
