use Rattle.std.proofs.Common.{◌∙◌, codes, subst}
use Rattle.json_line.specs.Objects.{Adds, text_member}
use Rattle.journal_files.proofs.held.put_client.Goals as goal

pub returns : goal.returns
returns c =
    subst (λ text. Adds c.put_text.result c.args.out.now c.put_text.new.out (text_member (codes "client-id") text)) (c.as_str.ensures.text ∙ c.as_text.ensures.value ∙ c.client.ensures)
    c.put_text.ensures
