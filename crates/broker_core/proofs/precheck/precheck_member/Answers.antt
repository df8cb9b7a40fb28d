use Rattle.std.proofs.Common.{◌∙◌, List, ℕ, ap, subst, sym}
use Rattle.command_core.specs.declared.command.Member.{Member}
use Rattle.broker_state.specs.Executing.{applied}
use Rattle.broker_state.specs.Parts.{copies_to}
use Rattle.broker_core.specs.Prechecks.{Leads}
use Rattle.broker_core.proofs.PrecheckSteps.{send_leads}
use Rattle.broker_core.proofs.precheck.precheck_member.Goals as goal

pub returns-in-Send : goal.returns-in-Send
returns-in-Send c session place s stands =
    let durables = c.args.tables.now.state.durables in
    let subs = c.args.tables.now.state.subscriptions in
    let copies = c.copies_to-copies.ensures ∙ ap (λ (to : List ℕ). copies_to to durables subs) c.destination.ensures.value in
    subst (λ (m : Member). Leads session durables subs c.precheck_send.new.precheck c.precheck_send.result (applied c.args.rule s session place m)) (sym c.in-Send.is) (send_leads session durables subs c.args.precheck.now c.precheck_send.new.precheck s stands place c.in-Send.sending c.copies_to-copies.result c.size.result copies c.size.ensures.size c.precheck_send.ensures.flights c.precheck_send.result c.precheck_send.ensures.answer c.precheck_send.ensures.messages c.precheck_send.ensures.bytes)
