use Rattle.std.proofs.Common.{rules, ◌≡◌, ◌++◌, ◌∙◌, [], List, ap}
use Rattle.command_core.specs.Outs.{OutValue}
use Rattle.broker_state.specs.Steps.{outs_to, replies}
use Rattle.broker_tables.specs.Answers.{with_outs}
use Rattle.broker_core.specs.Outcomes.{led_in_session, outs_of}
use Rattle.broker_core.proofs.Answering.{with_none}
use Rattle.broker_core.proofs.broker.carry_out.Goals as goal

pub returns-then-not-contains_key-clause-outs : goal.returns-then-not-contains_key-clause-outs
returns-then-not-contains_key-clause-outs c =
    let outs : List OutValue = outs_of c.args.rule c.args.tables.now.state c.args.session c.args.receipt c.args.op in
    let none : outs ≡ [] = search rules in
    with_none outs c.args.answers.now none

pub returns-clause-outs : goal.returns-clause-outs
returns-clause-outs c =
    let st = c.args.tables.now.state in
    let s = c.args.session in
    let both : (led_in_session c.args.rule st s c.args.op).outs ++ outs_to st.count s (replies c.args.rule st s c.args.op c.args.receipt) ≡ outs_of c.args.rule st s c.args.receipt c.args.op = search rules in
    c.in_ok-execute_in_session.ensures.outs ∙ ap (λ (outs : List OutValue). with_outs outs c.args.answers.now) both
