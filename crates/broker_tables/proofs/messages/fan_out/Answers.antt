use Rattle.std.proofs.Common.{OnOk, subst}
use Rattle.line_core.specs.declared.message.Message.{Message}
use Rattle.broker_tables.specs.Sendings.{IsFannedOut}
use Rattle.waiting_order.specs.Waiting.{subs_of}
use Rattle.broker_tables.proofs.messages.fan_out.Goals as goal

pub returns-in_ok-message-clause-fanned : goal.returns-in_ok-message-clause-fanned
returns-in_ok-message-clause-fanned c =
    let P : Message → Type 0 = λ m. OnOk c.copy_to_topic.result (IsFannedOut m c.args.durables.now c.args.shared.now (subs_of c.args.order.now.all) c.copy_to_topic.new.shared (subs_of c.copy_to_topic.new.order.all)) in
    subst P c.in_ok-message.ensures c.copy_to_topic.ensures.fanned
