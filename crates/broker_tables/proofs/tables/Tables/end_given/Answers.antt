use Rattle.std.proofs.Common.{◌∙◌, ap, sym}
use Rattle.broker_state.specs.Operations.{without_named}
use Rattle.broker_tables.proofs.Operating.{ended_named}
use Rattle.broker_tables.proofs.tables.Tables.end_given.Goals as goal

pub returns-in_ok-end_sought-in-Some-clause-ended : goal.returns-in_ok-end_sought-in-Some-clause-ended
returns-in_ok-end_sought-in-Some-clause-ended c =
    ended_named c.args.self.now.state c.end_sought.new.self.state c.args.session c.in-Some.id c.in_ok-end_sought-in-Some.field-0 c.in_ok-end_sought-in-Some.ensures.ended
    ∙ ap (without_named c.args.self.now.state c.args.session) (sym c.in-Some.is)
