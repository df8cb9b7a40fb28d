use Rattle.std.proofs.Common.{◌≡◌, ◌<◌, ◌++◌, ◌∷◌, codes, inl, inr, string_bytes, subst}
use Rattle.std.specs.Fmt.{decimal}
use Rattle.std.proofs.lemmas.Result.{IfErr-weaker, IfOk-weaker}
use Rattle.claim_core.specs.declared.limits.TheConstants.{SEATS}
use Rattle.script_text.specs.ScriptLines.{IsLoss, Says}
use Rattle.script_text.specs.PercentTexts.{decoded}
use Rattle.engine_core.specs.Running.{Loses, LosesSuch, Receives, ReceivesSuch}
use Rattle.engine_core.proofs.Performing.{of_loss, of_text, performed}
use Rattle.engine_core.proofs.Telling.{all_far, all_told, flush_near, flush_told}
use Rattle.engine_core.proofs.script.Script.perform.Goals as goal

pub returns-in-Some-Lose-clause-ok : goal.returns-in-Some-Lose-clause-ok
returns-in-Some-Lose-clause-ok c =
    let n = c.in-Some-Lose.connection in
    let said : IsLoss c.args.line.now n = subst (Says c.args.line.now) c.in-Some-Lose.field-0-is c.in-Some-Lose.ensures in
    IfOk-weaker c.lose.result _ _
    (λ printed given. performed string_bytes c.args.self.now _ c.args.line.now (λ answer a b. Loses a n answer b) printed (of_loss c.args.line.now n said)
    (λ answer a b loses. inr (inl (n, said, loses))) given)
    c.lose.ensures.ok

pub returns-in-Some-Lose-clause-told : goal.returns-in-Some-Lose-clause-told
returns-in-Some-Lose-clause-told c =
    let n = c.in-Some-Lose.connection in
    let said : IsLoss c.args.line.now n = subst (Says c.args.line.now) c.in-Some-Lose.field-0-is c.in-Some-Lose.ensures in
    all_told c.args.line.now (λ Such s. LosesSuch Such s n) (λ Such s loses. inl (n, said, loses)) c.args.self.now c.lose.new.self c.lose.result c.lose.ensures.refuses

pub returns-in-Some-Lose-clause-err : goal.returns-in-Some-Lose-clause-err
returns-in-Some-Lose-clause-err c =
    let n = c.in-Some-Lose.connection in
    let said : IsLoss c.args.line.now n = subst (Says c.args.line.now) c.in-Some-Lose.field-0-is c.in-Some-Lose.ensures in
    all_far c.args.line.now (λ Such s. LosesSuch Such s n) (λ Such s loses. inl (n, said, loses)) c.args.self.now c.lose.new.self c.lose.result c.lose.ensures.refuses

pub returns-in-Some-Receive-clause-ok : goal.returns-in-Some-Receive-clause-ok
returns-in-Some-Receive-clause-ok c =
    let n = c.in-Some-Receive.connection in
    let text = c.in-Some-Receive.text.now in
    let said : (n < SEATS) × (c.args.line.now ≡ decimal n ++ 32 ∷ text) = subst (Says c.args.line.now) c.in-Some-Receive.field-0-is c.in-Some-Receive.ensures in
    IfOk-weaker c.receive.result _ _
    (λ printed given. performed string_bytes c.args.self.now _ c.args.line.now (λ answer a b. Receives a n (decoded text) answer b) printed (of_text c.args.line.now text n said.0 said.1)
    (λ answer a b receives. inr (inr (n, text, said.0, said.1, receives))) given)
    c.receive.ensures.ok

pub returns-in-Some-Receive-clause-told : goal.returns-in-Some-Receive-clause-told
returns-in-Some-Receive-clause-told c =
    let n = c.in-Some-Receive.connection in
    let text = c.in-Some-Receive.text.now in
    let said : (n < SEATS) × (c.args.line.now ≡ decimal n ++ 32 ∷ text) = subst (Says c.args.line.now) c.in-Some-Receive.field-0-is c.in-Some-Receive.ensures in
    all_told c.args.line.now (λ Such s. ReceivesSuch Such s n (decoded text)) (λ Such s receives. inr (n, text, said.0, said.1, receives)) c.args.self.now c.receive.new.self c.receive.result c.receive.ensures.refuses

pub returns-in-Some-Receive-clause-err : goal.returns-in-Some-Receive-clause-err
returns-in-Some-Receive-clause-err c =
    let n = c.in-Some-Receive.connection in
    let text = c.in-Some-Receive.text.now in
    let said : (n < SEATS) × (c.args.line.now ≡ decimal n ++ 32 ∷ text) = subst (Says c.args.line.now) c.in-Some-Receive.field-0-is c.in-Some-Receive.ensures in
    all_far c.args.line.now (λ Such s. ReceivesSuch Such s n (decoded text)) (λ Such s receives. inr (n, text, said.0, said.1, receives)) c.args.self.now c.receive.new.self c.receive.result c.receive.ensures.refuses

pub returns-in-Some-Flush-clause-told : goal.returns-in-Some-Flush-clause-told
returns-in-Some-Flush-clause-told c =
    let said : c.args.line.now ≡ codes "flush" = subst (Says c.args.line.now) c.in-Some-Flush.field-0-is c.in-Some-Flush.ensures in
    IfErr-weaker c.flush.result _ _ (λ fault refuses. flush_told c.args.self.now c.flush.new.self c.args.line.now fault said refuses) c.flush.ensures.refuses

pub returns-in-Some-Flush-clause-err : goal.returns-in-Some-Flush-clause-err
returns-in-Some-Flush-clause-err c = IfErr-weaker c.flush.result _ _ (λ fault refuses far. absurd (flush_near c.args.self.now c.flush.new.self fault refuses far)) c.flush.ensures.refuses
