use Rattle.broker_state.specs.Operations.{is_named}
use Rattle.broker_tables.proofs.Waiters.{first_at, none_first}
use Rattle.broker_tables.proofs.tables.find_named.Goals as goal

pub returns-in-Some : goal.returns-in-Some
returns-in-Some c =
    first_at (is_named c.args.session c.args.id.now) c.args.order.now.all c.in-Some.place c.in-Some.ensures.next

pub returns-in-None : goal.returns-in-None
returns-in-None c =
    none_first (is_named c.args.session c.args.id.now) c.args.order.now.all c.in-None.ensures.next
