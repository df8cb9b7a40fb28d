use Rattle.std.proofs.Common.{◌≡◌, ◌++◌, ◌∙◌, ap, codes, rules, subst, sym}
use Rattle.std.specs.List.{AllByRecursion}
use Rattle.std.specs.Str.{IsUtf8}
use Rattle.frame_core.proofs.Lists.{all_append}
use Rattle.frame_core.proofs.Texts.{ascii_text, written_text}
use Rattle.frame_core.specs.Written.{IsText, written}
use Rattle.command_core.specs.Deliveries.{message_of, own_of}
use Rattle.command_core.proofs.WrittenMessages.{lines, message_written}
use Rattle.command_core.proofs.output.Delivery.write_bytes.Goals as goal

whole : (c : goal.In_ok-push-2) → c.push-2.new.self.items ≡ written (message_of c.args.self.now)
whole c =
    let it = c.args.self.now in
    message_written it.subscription it.command it.place it.delivery it.sending _ _ _ _ _ _ _ c.in_ok-bytes.ensures.items c.in_ok-extend_from_slice.ensures.items c.in_ok-write_own.ensures.lines
    (c.in_ok-write_headers.ensures.lines ∙ ap (λ hs. c.write_own.new.bytes.items ++ lines hs) (c.as_slice.ensures ∙ c.headers.ensures.value)) c.in_ok-push.ensures.items
    (c.in_ok-extend_from_slice-2.ensures.items ∙ ap (λ bs. c.push.new.self.items ++ bs) (c.as_slice-2.ensures ∙ c.body.ensures.value)) c.in_ok-push-2.ensures.items

pub returns-clause-bytes : goal.returns-clause-bytes
returns-clause-bytes c = whole c

pub returns-clause-text : goal.returns-clause-text
returns-clause-text c text =
    let it = c.args.self.now in
    let kept : AllByRecursion IsText it.sending.headers = subst (AllByRecursion IsText) (c.as_slice.ensures ∙ c.headers.ensures.value) c.in_ok-write_headers.ensures.texts in
    let all = all_append IsText (own_of it) it.sending.headers c.in_ok-write_own.ensures.texts kept in
    subst IsUtf8 (sym (whole c)) (written_text (message_of it) (ascii_text (codes "MESSAGE") (search rules)) all text)
