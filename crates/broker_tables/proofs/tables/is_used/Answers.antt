use Rattle.std.proofs.Common.{◌∙◌, ap, nat_lt}
use Rattle.broker_state.specs.Operations.{uses}
use Rattle.waiting_order.specs.Waiting.{subs_of}
use Rattle.broker_tables.proofs.Users.{any_counted}
use Rattle.broker_tables.proofs.tables.is_used.Goals as goal

pub returns : goal.returns
returns c = ap (nat_lt 0) c.count_under.ensures ∙ any_counted (uses c.args.name.now) (subs_of c.args.order.now.all)
