use Rattle.std.proofs.Common.{◌≡◌, ◌∙◌, ◌++◌, ◌∷◌, [], OnOk, codes, subst}
use Rattle.client_core.proofs.requests.add_length.Goals as goal

pub returns-in-Ok-clause-ok : goal.returns-in-Ok-clause-ok
returns-in-Ok-clause-ok c =
    subst (λ text. OnOk c.add-added.result (c.add-added.new.headers.items ≡ c.args.headers.now.items ++ (codes "content-length", text) ∷ []))
    (c.as_str.ensures.value ∙ c.in-Ok.ensures.ok) c.add-added.ensures.ok
