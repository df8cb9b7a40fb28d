use Rattle.std.proofs.Common.{◌∙◌, ◌++◌, ap, codes, string_bytes}
use Rattle.script_text.specs.PercentTexts.{encoded}
use Rattle.journal_files.proofs.Gathered.{on_ok, three_texts}
use Rattle.journal_files.proofs.held.push_names.Goals as goal

pub returns : goal.returns
returns c =
    on_ok c.encode_text-2.result _ _ c.encode_text-2.ensures.ok
    (λ third. three_texts (string_bytes c.args.text.now) (encoded c.args.name.now.0) (codes " activemq.subscriptionName:") (encoded c.args.name.now.1) _ _ _
    (c.in_ok-encode_text.ensures.ok ∙ ap (λ t. string_bytes c.args.text.now ++ encoded t) (c.as_bytes.ensures.value ∙ c.as_str.ensures.text ∙ c.as_text.ensures.value ∙ c.client.ensures))
    c.in_ok-push_str.ensures.bytes
    (third ∙ ap (λ t. string_bytes c.push_str.new.self ++ encoded t) (c.as_bytes-2.ensures.value ∙ c.as_str-2.ensures.text ∙ c.as_text-2.ensures.value ∙ c.name.ensures)))
