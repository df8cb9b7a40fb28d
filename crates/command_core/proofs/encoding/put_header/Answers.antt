use Rattle.std.proofs.Common.{◌≡◌, ◌++◌, List, ℕ, ap, ◌∙◌, append_assoc}
use Rattle.std.proofs.lemmas.Result.{on_ok_weaker}
use Rattle.command_core.specs.PartSpellings.{counted}
use Rattle.command_core.proofs.encoding.put_header.Goals as goal

pub returns-clause-put : goal.returns-clause-put
returns-clause-put c =
    let name : c.as_bytes.result.now ≡ c.args.name.now = c.as_bytes.ensures.value ∙ c.as_str-name.ensures in
    let value : c.as_bytes-2.result.now ≡ c.args.value.now = c.as_bytes-2.ensures.value ∙ c.as_str-value.ensures in
    let first = c.in_ok-put_counted.ensures.put ∙ ap (λ (t : List ℕ). c.args.out.now.items ++ counted t) name in
    on_ok_weaker c.put_counted-2.result (λ put. put ∙ ap (λ (t : List ℕ). c.put_counted.new.out.items ++ counted t) value ∙ ap (λ (bytes : List ℕ). bytes ++ counted c.args.value.now) first ∙ append_assoc c.args.out.now.items (counted c.args.name.now) (counted c.args.value.now)) c.put_counted-2.ensures.put
