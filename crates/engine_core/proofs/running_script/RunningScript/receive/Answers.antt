use Rattle.std.proofs.Common.{subst, string_bytes}
use Rattle.engine_core.specs.Refusals.{RefusesActs}
use Rattle.engine_core.specs.Running.{HearsSuch, Receives, ReceivesSuch, ScriptValue, on_disk}
use Rattle.engine_core.proofs.Receiving.{received}
use Rattle.engine_core.proofs.Counting.{receives_such}
use Rattle.engine_core.proofs.Refusing.{refuses_acts}
use Rattle.engine_core.proofs.running_script.RunningScript.receive.Goals as goal

pub returns-in_ok-insert-in-Ok-clause-ok : goal.returns-in_ok-insert-in-Ok-clause-ok
returns-in_ok-insert-in-Ok-clause-ok c =
    let taken = c.take_connection-connection.ensures in
    let heard = c.in-Ok.ensures.ok in
    subst (λ s. Receives s c.args.n c.args.bytes.now (string_bytes c.hear.new.text) (record { connections = c.insert.new.self.entries; queue = c.hear.new.queue.queue; disk = c.hear.new.queue.disk })) c.self.view_is
    (received c.self.inside.connections.entries c.self.inside.queue.queue c.hear.new.queue.queue c.self.inside.queue.disk c.hear.new.queue.disk c.args.n c.args.bytes.now _ _ c.take_connection-connection.result c.take_connection-connection.new.connections.entries c.insert.new.self.entries heard.acts c.hear.new.connection.session c.hear.new.connection.number
    taken.taken taken.others heard.hears heard.within c.new-text.ensures.bytes heard.done c.in_ok-insert-in-Ok.ensures.entries)

pub returns-in-Err-clause-refuses : goal.returns-in-Err-clause-refuses
returns-in-Err-clause-refuses c =
    let text = string_bytes c.new-text.result in
    let inside : ScriptValue = record { connections = c.self.inside.connections.entries; queue = c.self.inside.queue.queue; disk = c.self.inside.queue.disk } in
    subst (λ s. RefusesActs (λ Such. ReceivesSuch Such s c.args.n c.args.bytes.now) (on_disk s) c.hear.new.queue c.in-Err.fault) c.self.view_is
    (refuses_acts (λ Such. HearsSuch Such c.args.n c.args.bytes.now c.take_connection-connection.result c.self.inside.queue.queue text) (λ Such. ReceivesSuch Such inside c.args.n c.args.bytes.now) c.self.inside.queue c.hear.new.queue c.in-Err.fault
    (λ Such hears. receives_such Such inside c.args.n c.args.bytes.now text c.take_connection-connection.result c.take_connection-connection.ensures.taken c.new-text.ensures.bytes hears) c.in-Err.ensures.refuses)
