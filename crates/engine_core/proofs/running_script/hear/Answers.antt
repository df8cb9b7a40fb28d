use Rattle.std.proofs.Common.{string_bytes}
use Rattle.std.proofs.lemmas.Result.{err_from_is_err_and}
use Rattle.engine_core.specs.Queues.{ComeTo, progress_of}
use Rattle.engine_core.specs.Running.{HearsSuch}
use Rattle.engine_core.proofs.Refusing.{refuses_acts}
use Rattle.engine_core.proofs.running_script.hear.Goals as goal

pub returns-clause-ok : goal.returns-clause-ok
returns-clause-ok c = record { acts = c.in_ok-acts.acts.items; hears = c.in_ok-acts.ensures.acts; within = c.in_ok-number.ensures.within; done = c.in_ok-number.ensures.ok }

pub returns-in_err-number-clause-refuses : goal.returns-in_err-number-clause-refuses
returns-in_err-number-clause-refuses c =
    let p = err_from_is_err_and c.from_residual-in_err-number.result c.from_residual-in_err-number.ensures.1 in
    let old = c.args.connection.now in
    let queue = c.args.queue.now in
    let text = string_bytes c.args.text.now in
    let acts = c.in_ok-acts.acts.items in
    rw (p.1, p.2) (refuses_acts (λ Such. ComeTo c.args.n Such (progress_of old.number queue.queue text) acts) (λ Such. HearsSuch Such c.args.n c.args.bytes.now old queue.queue text) queue c.do_acts.new.queue _
    (λ Such come. record { acts = acts; session = c.feed.new.self; hears = c.in_ok-acts.ensures.acts; come = come })
    c.in_err-number.ensures.refuses)
