use Rattle.std.proofs.Common.{rules, ◌∙◌, List, ap}
use Rattle.command_core.specs.Outs.{OutValue}
use Rattle.broker_tables.specs.Answers.{with_outs}
use Rattle.broker_core.proofs.broker.execute.Goals as goal

pub returns-clause-outs : goal.returns-clause-outs
returns-clause-outs c = c.in_ok-carry_out.ensures.outs ∙ ap (λ (outs : List OutValue). with_outs outs c.args.answers.now) (search rules)
