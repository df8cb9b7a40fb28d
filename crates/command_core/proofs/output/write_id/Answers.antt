use Rattle.std.proofs.Common.{arith, ap, ◌++◌, ◌∙◌}
use Rattle.command_core.proofs.WrittenMessages.{id_text, id_written}
use Rattle.command_core.proofs.output.write_id.Goals as goal

pub returns-clause-line : goal.returns-clause-line
returns-clause-line c =
    id_written c.args.command c.args.place c.args.bytes.now.items _ _ _ _ _ (omega arith) (omega arith) c.in_ok-extend_from_slice.ensures.items
    (c.in_ok-extend_from_slice-2.ensures.items ∙ ap (λ t. c.extend_from_slice.new.self.items ++ t) (c.as_bytes.ensures.value ∙ c.format.ensures.text)) c.in_ok-push.ensures.items
    (c.in_ok-extend_from_slice-3.ensures.items ∙ ap (λ t. c.push.new.self.items ++ t) (c.as_bytes-2.ensures.value ∙ c.format-2.ensures.text)) c.in_ok-push-2.ensures.items

pub returns-clause-text : goal.returns-clause-text
returns-clause-text c = id_text c.args.command c.args.place _ _ c.format.ensures.text c.format-2.ensures.text c.format.utf8 c.format-2.utf8
