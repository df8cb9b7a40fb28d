use Rattle.broker_state.specs.Operations.{awaits}
use Rattle.broker_tables.proofs.Waiters.{first_at, none_first}
use Rattle.broker_tables.proofs.messages.find_awaiting.Goals as goal

pub returns-in-Some : goal.returns-in-Some
returns-in-Some c =
    first_at (awaits c.args.session c.args.delivery) c.args.order.now.all c.in-Some.place c.in-Some.ensures.next

pub returns-in-None : goal.returns-in-None
returns-in-None c =
    none_first (awaits c.args.session c.args.delivery) c.args.order.now.all c.in-None.ensures.next
