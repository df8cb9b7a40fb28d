use Rattle.std.proofs.Common.{◌∙◌, ap, subst, sym}
use Rattle.broker_state.specs.Executing.{HasFewMembers}
use Rattle.broker_state.specs.Sound.{IsSound}
use Rattle.broker_state.specs.States.{BrokerValue}
use Rattle.broker_state.specs.Steps.{outs_by}
use Rattle.broker_tables.specs.Answers.{with_outs}
use Rattle.broker_state.proofs.SoundSteps.{sound_step}
use Rattle.broker_core.proofs.Outcomes.{is_whole}
use Rattle.broker_core.proofs.broker.Broker.step_by.Goals as goal

pub invariant_of-self : goal.invariant_of-self
invariant_of-self c =
    let b = c.self.inside.tables in
    let was = c.self.invariant.whole (sym c.is_broken.ensures ∙ c.if-is_broken.false) in
    let few = subst HasFewMembers c.op.ensures.value c.have_few_members.ensures in
    is_whole c.execute.new.tables c.in-Ok.ensures.whole c.in-Ok.ensures.due (subst IsSound (sym c.in-Ok.ensures.state) (sound_step c.args.rule b.state c.args.command few was))

pub returns-in-Ok-clause-outs : goal.returns-in-Ok-clause-outs
returns-in-Ok-clause-outs c =
    c.in-Ok.ensures.outs ∙ ap (λ (b : BrokerValue). with_outs (outs_by c.args.rule b.state c.args.command) c.args.answers.now) c.self.view_is
