use Rattle.std.proofs.Common.{◌≡◌, ℕ, ap, subst, ◌∙◌, Vec, Global, string_bytes}
use Rattle.std.specs.Str.{IsUtf8}
use Rattle.std.proofs.lemmas.Str.{IsUtf8-string_bytes}
use Rattle.frame_core.proofs.reader.text_of.Goals as goal

pub returns-in-Ok-clause-ok : goal.returns-in-Ok-clause-ok
returns-in-Ok-clause-ok c =
    let same : string_bytes c.in-Ok.text ≡ c.args.bytes.items = ap (λ (v : Vec ℕ Global). v.items) c.in-Ok.ensures.ok in
    (c.new.ensures ∙ same, subst IsUtf8 same (IsUtf8-string_bytes c.in-Ok.text))
