use Rattle.std.proofs.Common.{◌∙◌, ap, length, sym}
use Rattle.broker_tables.proofs.Topics.{count_names}
use Rattle.broker_tables.proofs.messages.names_of.Goals as goal

pub returns-in-Some-clause-counted : goal.returns-in-Some-clause-counted
returns-in-Some-clause-counted c =
    c.len.ensures.len ∙ ap length (c.all.ensures ∙ c.in-Some.ensures) ∙ sym (count_names c.args.to.now c.args.durables.now)

pub returns-in-None-clause-counted : goal.returns-in-None-clause-counted
returns-in-None-clause-counted c =
    ap length c.in-None.ensures ∙ sym (count_names c.args.to.now c.args.durables.now)
