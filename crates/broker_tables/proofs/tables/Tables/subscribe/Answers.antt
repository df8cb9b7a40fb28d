use Rattle.std.proofs.Common.{◌∙◌, ap}
use Rattle.broker_state.specs.Operations.{begun_for}
use Rattle.broker_tables.proofs.tables.Tables.subscribe.Goals as goal

pub returns-in-Ok-Err-clause-subscribed : goal.returns-in-Ok-Err-clause-subscribed
returns-in-Ok-Err-clause-subscribed c =
    c.in-Ok-Err.ensures.begun c.args.mode ∙ ap (begun_for c.args.self.now.state c.args.session c.args.id c.args.destination c.args.mode) c.in-Ok-Err.field-0-is
