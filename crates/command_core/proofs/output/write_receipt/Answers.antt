use Rattle.std.proofs.Common.{◌≡◌, [], arith, codes, rules, subst, sym}
use Rattle.std.proofs.lemmas.Grind.{common_steps}
use Rattle.std.specs.Str.{IsUtf8}
use Rattle.frame_core.proofs.Texts.{ascii_text, written_text}
use Rattle.frame_core.specs.Written.{IsText, written}
use Rattle.command_core.specs.Replies.{receipt_frame}
use Rattle.command_core.proofs.output.write_receipt.Goals as goal

pub returns-clause-text : goal.returns-clause-text
returns-clause-text c =
    let all : c.extend_from_slice-2.new.self.items ≡ written (receipt_frame c.args.id.now) = grind (arith, common_steps) in
    let is : IsUtf8 c.args.id.now = subst IsUtf8 c.as_str-id.ensures.text c.as_str-id.utf8 in
    let header : IsText (codes "receipt-id", c.args.id.now) = (ascii_text (codes "receipt-id") (search rules), is) in
    subst IsUtf8 (sym all) (written_text (receipt_frame c.args.id.now) (ascii_text (codes "RECEIPT") (search rules)) (header, tt) (ascii_text [] tt))
