use Rattle.std.proofs.Common.{◌++◌, ◌∙◌, ap, codes, length}
use Rattle.std.specs.Fmt.{decimal}
use Rattle.std.proofs.lemmas.Result.{on_ok_weaker}
use Rattle.command_core.specs.Replies.{message_id}
use Rattle.command_core.proofs.WrittenMessages.{line, own_texts, own_written}
use Rattle.command_core.proofs.output.Delivery.write_own.Goals as goal

pub returns-clause-lines : goal.returns-clause-lines
returns-clause-lines c =
    let it = c.args.self.now in
    on_ok_weaker c.write_number.result
    (λ e. own_written it.subscription (message_id it.command it.place) it.delivery it.sending c.args.bytes.now.items _ _ _ _ _
    (c.in_ok-write_header.ensures.line ∙ (λ i. c.args.bytes.now.items ++ line (c.as_str-to.ensures i, c.as_str.ensures.text i)))
    c.in_ok-write_id.ensures.line
    (c.in_ok-write_header-2.ensures.line ∙ (λ i. c.write_id.new.bytes.items ++ line (c.as_str-name.ensures i, (c.as_str-2.ensures.text ∙ c.destination-destination.ensures.value) i)))
    c.in_ok-write_ack.ensures.lines
    (e ∙ ap (λ bs. c.write_ack.new.bytes.items ++ line (codes "content-length", decimal (length bs))) (c.as_slice.ensures ∙ c.body.ensures.value)))
    c.write_number.ensures.line

pub returns-clause-texts : goal.returns-clause-texts
returns-clause-texts c =
    let it = c.args.self.now in
    on_ok_weaker c.write_number.result
    (λ e. own_texts it.delivery _ _ _ _ _ it.subscription (message_id it.command it.place) it.sending
    (c.as_str-to.ensures, c.as_str.ensures.text) (c.as_str-name.ensures, c.as_str-2.ensures.text ∙ c.destination-destination.ensures.value)
    (ap length (c.as_slice.ensures ∙ c.body.ensures.value))
    c.in_ok-write_header.ensures.text c.in_ok-write_id.ensures.text c.in_ok-write_header-2.ensures.text c.in_ok-write_ack.ensures.texts e)
    c.write_number.ensures.text
