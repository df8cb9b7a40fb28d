use Rattle.std.proofs.Common.{◌≡◌, ◌++◌, ◌∷◌, ◌∙◌, [], List, ℕ, IfSome, ap, codes, string_bytes, subst}
use Rattle.std.specs.Fmt.{decimal}
use Rattle.broker_core.specs.States.{held_messages}
use Rattle.engine_core.proofs.script.tell.Goals as goal

pub returns-clause-ok : goal.returns-clause-ok
returns-clause-ok c =
    let line : ℕ → ℕ → List ℕ = λ n m. codes "open " ++ decimal n ++ 32 ∷ (decimal m ++ 10 ∷ []) in
    let held = subst (λ o. IfSome o (λ messages. messages ≡ held_messages c.args.journal.now.state)) c.unwrap-held.ensures c.held.ensures.held in
    let said = ap (λ n. line n c.unwrap-held.result) c.count-count.ensures ∙ ap (line c.args.journal.now.state.count) held in
    c.in_ok-told.ensures.bytes ∙ ap (λ l. string_bytes c.args.text.now ++ l) (c.as_str.ensures.value ∙ (c.in_ok-line.ensures.ok ∙ said))
