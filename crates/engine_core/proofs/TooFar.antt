-- A line that comes to a command once as many have been carried out as may be prints nothing.
use Rattle.std.proofs.Common.{◌≡◌, ◌<◌, List, [], ◌∷◌, ◌++◌, ℕ, sym, ◌∙◌, arith, subst, inl, inr}
use Rattle.std.specs.Fmt.{decimal}
use Rattle.session_core.proofs.Hearings.{heard_in_one_way}
use Rattle.engine_core.specs.declared.script.Script.{Script}
use Rattle.engine_core.specs.declared.script.Script.TheVariants.{Running, Stopped, Over}
use Rattle.claim_core.specs.declared.limits.TheConstants.{SEATS}
use Rattle.script_text.specs.PercentTexts.{decoded}
use Rattle.engine_core.specs.Queues.{ComeTo, IsTooFar}
use Rattle.engine_core.specs.Running.{ScriptValue, connection_at, LosesSuch, Receives, ReceivesSuch}
use Rattle.script_text.specs.ScriptLines.{IsLoss}
use Rattle.engine_core.specs.Scripts.{Prints, RunsTooFar}
use Rattle.engine_core.proofs.LinesApart.{blank_first, crash_first, flush_first, loss_first, one_loss, one_receiver, open_first, text_first}

received_too_far : (s t : ScriptValue) (n : ℕ) (bytes printed : List ℕ) → ReceivesSuch IsTooFar s n bytes → Receives s n bytes printed t → ⊥
received_too_far s t n bytes printed far h =
    let same = (heard_in_one_way (connection_at n s).session far.session h.session bytes far.acts h.acts far.hears h.hears).0 in
    h.within (subst (ComeTo n IsTooFar (record { number = (connection_at n s).number; queue = s.queue; text = [] })) same far.come)

lost_too_far : (s : ScriptValue) (line printed : List ℕ) (t : Script) (n : ℕ) → IsLoss line n → LosesSuch IsTooFar s n → Prints (Running s) line printed t → ⊥
lost_too_far s line printed t n is far (inl h) = omega (arith, loss_first line n is, blank_first line h.0)
lost_too_far s line printed t n is far (inr (inl h)) = omega (arith, loss_first line n is, open_first line h.0)
lost_too_far s line printed t n is far (inr (inr (inl (u, inl h, calm, after)))) = omega (arith, loss_first line n is, flush_first line h.0)
lost_too_far s line printed t n is far (inr (inr (inl (u, inr (inl h), calm, after)))) = h.2.within (subst (LosesSuch IsTooFar s) (one_loss line n h.0 is h.1) far)
lost_too_far s line printed t n is far (inr (inr (inl (u, inr (inr h), calm, after)))) = omega (arith, loss_first line n is, text_first line h.1 h.0 h.2 h.3)
lost_too_far s line printed t n is far (inr (inr (inr h))) = omega (arith, loss_first line n is, crash_first line h.0 h.1 h.2)

text_too_far : (s : ScriptValue) (line printed : List ℕ) (t : Script) (n : ℕ) (text : List ℕ) → n < SEATS → line ≡ decimal n ++ 32 ∷ text → ReceivesSuch IsTooFar s n (decoded text) → Prints (Running s) line printed t → ⊥
text_too_far s line printed t n text small is far (inl h) = omega (arith, text_first line text n small is, blank_first line h.0)
text_too_far s line printed t n text small is far (inr (inl h)) = omega (arith, text_first line text n small is, open_first line h.0)
text_too_far s line printed t n text small is far (inr (inr (inl (u, inl h, calm, after)))) = omega (arith, text_first line text n small is, flush_first line h.0)
text_too_far s line printed t n text small is far (inr (inr (inl (u, inr (inl h), calm, after)))) = omega (arith, text_first line text n small is, loss_first line h.0 h.1)
text_too_far s line printed t n text small is far (inr (inr (inl (u, inr (inr (m, body, less, also, h)), calm, after)))) =
    let same = one_receiver n m text body small less (sym is ∙ also) in
    received_too_far s u m (decoded body) printed (subst (λ x. ReceivesSuch IsTooFar s m (decoded x)) same.1 (subst (λ x. ReceivesSuch IsTooFar s x (decoded text)) same.0 far)) h
text_too_far s line printed t n text small is far (inr (inr (inr h))) = omega (arith, text_first line text n small is, crash_first line h.0 h.1 h.2)

pub none_too_far : (s t : Script) (line printed : List ℕ) → RunsTooFar s line → Prints s line printed t → ⊥
none_too_far (Running s) t line printed (inl (n, is, far)) prints = lost_too_far s line printed t n is far prints
none_too_far (Running s) t line printed (inr (n, text, small, is, far)) prints = text_too_far s line printed t n text small is far prints
none_too_far (Stopped disk) t line printed far prints = absurd far
none_too_far Over t line printed far prints = absurd far
