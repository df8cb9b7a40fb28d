-- What lines print is one text.
use Rattle.std.proofs.Common.{◌≡◌, ◌<◌, List, [], ◌∷◌, ◌++◌, ℕ, ◌⊎◌, codes, refl, ap, sym, ◌∙◌, arith, subst, inl, inr}
use Rattle.std.specs.Fmt.{decimal}
use Rattle.std.specs.List.{AllByRecursion}
use Rattle.broker_core.specs.Operations.{restarted}
use Rattle.broker_core.specs.States.{State}
use Rattle.disk_core.specs.Memory.{Memory, fresh}
use Rattle.engine_core.specs.declared.script.Script.{Script}
use Rattle.engine_core.specs.declared.script.Script.TheVariants.{Running}
use Rattle.claim_core.specs.declared.limits.TheConstants.{SEATS}
use Rattle.script_text.specs.PercentTexts.{decoded}
use Rattle.engine_core.specs.Queues.{QueueValue, flush_text, flushed}
use Rattle.engine_core.specs.Running.{ScriptValue, beginning, Loses, Receives}
use Rattle.script_text.specs.ScriptLines.{IsLoss, IsNoCrash}
use Rattle.engine_core.specs.Scripts.{GoesOn, IsScript, Prints, PrintsAll, open_text}
use Rattle.engine_core.proofs.Alike.{PrintAlike, all_bare, lose_alike, receive_alike}
use Rattle.engine_core.proofs.LinesApart.{blank_first, flush_first, loss_first, one_loss, one_receiver, open_first, same_lines, text_first}

-- what a line prints that is no crash, and the script that it leaves
abbrev Leaves : ScriptValue → List ℕ → List ℕ → ScriptValue → Type 0
Leaves s line printed t =
    ((line ≡ []) × (printed ≡ []) × (t ≡ s))
    ⊎ (((line ≡ codes "open") × (printed ≡ open_text (restarted s.queue.state)) × (t ≡ beginning (restarted s.queue.state) t.disk))
    ⊎ GoesOn s line printed t)

abbrev LeavesSome : ScriptValue → List ℕ → List ℕ → Script → Type 0
LeavesSome s line printed t = (u : ScriptValue) × Leaves s line printed u × (t ≡ Running u)

leaves : (s : ScriptValue) (line printed : List ℕ) (t : Script) → IsNoCrash line → Prints (Running s) line printed t → LeavesSome s line printed t
leaves s line printed t none (inl h) = (s, inl (h.0, h.1, refl), h.2)
leaves s line printed t none (inr (inl h)) =
    let o = h.1 in
    (beginning o.state o.disk, inr (inl (h.0, o.same_text ∙ ap open_text o.reopens, ap (λ state. beginning state o.disk) o.reopens)), o.after)
leaves s line printed t none (inr (inr (inl h))) = (h.0, inr (inr h.1), h.3)
leaves s line printed t none (inr (inr (inr h))) = absurd (none h.0 h.1 h.2)

opens_alike : (s r t u : ScriptValue) (printed other : List ℕ) → all_bare s ≡ all_bare r
    → printed ≡ open_text (restarted s.queue.state) → t ≡ beginning (restarted s.queue.state) t.disk
    → other ≡ open_text (restarted r.queue.state) → u ≡ beginning (restarted r.queue.state) u.disk → PrintAlike printed other t u
opens_alike s r t u printed other alike text after more left =
    let queue : s.queue ≡ r.queue = ap (λ (x : ScriptValue). x.queue) alike in
    let opened : all_bare t ≡ all_bare u = ap all_bare after ∙ ap (λ (q : QueueValue). beginning (restarted q.state) (fresh 0)) queue ∙ sym (ap all_bare left) in
    (text ∙ ap (λ (q : QueueValue). open_text (restarted q.state)) queue ∙ sym more, opened)

flushes_alike : (s r t u : ScriptValue) (printed other : List ℕ) → all_bare s ≡ all_bare r
    → printed ≡ flush_text s.queue → t ≡ record s { queue = flushed s.queue; disk = t.disk }
    → other ≡ flush_text r.queue → u ≡ record r { queue = flushed r.queue; disk = u.disk } → PrintAlike printed other t u
flushes_alike s r t u printed other alike text after more left =
    let queue : s.queue ≡ r.queue = ap (λ (x : ScriptValue). x.queue) alike in
    let flush : ScriptValue → ScriptValue = λ x. record x { queue = flushed x.queue } in
    (text ∙ ap flush_text queue ∙ sym more, ap all_bare after ∙ ap flush alike ∙ sym (ap all_bare left))

loses_alike : (s r t u : ScriptValue) (line : List ℕ) (n m : ℕ) (printed other : List ℕ) → all_bare s ≡ all_bare r → IsLoss line n → IsLoss line m
    → Loses s n printed t → Loses r m other u → PrintAlike printed other t u
loses_alike s r t u line n m printed other alike is also h k = lose_alike s r t u n printed other alike h (subst (λ x. Loses r x other u) (sym (one_loss line n m is also)) k)

receives_alike : (s r t u : ScriptValue) (line : List ℕ) (n m : ℕ) (text body printed other : List ℕ) → all_bare s ≡ all_bare r → n < SEATS → m < SEATS
    → line ≡ decimal n ++ 32 ∷ text → line ≡ decimal m ++ 32 ∷ body → Receives s n (decoded text) printed t → Receives r m (decoded body) other u → PrintAlike printed other t u
receives_alike s r t u line n m text body printed other alike small less is also h k =
    let same = one_receiver n m text body small less (sym is ∙ also) in
    receive_alike s r t u n (decoded text) printed other alike h (subst (λ x. Receives r n (decoded x) other u) (sym same.1) (subst (λ x. Receives r x (decoded body) other u) (sym same.0) k))

-- a line prints one text from alike scripts, and leaves alike ones
alike_after : (s r t u : ScriptValue) (line printed other : List ℕ) → all_bare s ≡ all_bare r → Leaves s line printed t → Leaves r line other u → PrintAlike printed other t u
alike_after s r t u line printed other alike (inl h) (inl k) = (h.1 ∙ sym k.1, ap all_bare h.2 ∙ alike ∙ sym (ap all_bare k.2))
alike_after s r t u line printed other alike (inl h) (inr (inl k)) = absurd (omega (arith, blank_first line h.0, open_first line k.0))
alike_after s r t u line printed other alike (inl h) (inr (inr (inl k))) = absurd (omega (arith, blank_first line h.0, flush_first line k.0))
alike_after s r t u line printed other alike (inl h) (inr (inr (inr (inl k)))) = absurd (omega (arith, blank_first line h.0, loss_first line k.0 k.1))
alike_after s r t u line printed other alike (inl h) (inr (inr (inr (inr k)))) = absurd (omega (arith, blank_first line h.0, text_first line k.1 k.0 k.2 k.3))
alike_after s r t u line printed other alike (inr (inl h)) (inl k) = absurd (omega (arith, open_first line h.0, blank_first line k.0))
alike_after s r t u line printed other alike (inr (inl h)) (inr (inl k)) = opens_alike s r t u printed other alike h.1 h.2 k.1 k.2
alike_after s r t u line printed other alike (inr (inl h)) (inr (inr (inl k))) = absurd (omega (arith, open_first line h.0, flush_first line k.0))
alike_after s r t u line printed other alike (inr (inl h)) (inr (inr (inr (inl k)))) = absurd (omega (arith, open_first line h.0, loss_first line k.0 k.1))
alike_after s r t u line printed other alike (inr (inl h)) (inr (inr (inr (inr k)))) = absurd (omega (arith, open_first line h.0, text_first line k.1 k.0 k.2 k.3))
alike_after s r t u line printed other alike (inr (inr (inl h))) (inl k) = absurd (omega (arith, flush_first line h.0, blank_first line k.0))
alike_after s r t u line printed other alike (inr (inr (inl h))) (inr (inl k)) = absurd (omega (arith, flush_first line h.0, open_first line k.0))
alike_after s r t u line printed other alike (inr (inr (inl h))) (inr (inr (inl k))) = flushes_alike s r t u printed other alike h.1 h.2 k.1 k.2
alike_after s r t u line printed other alike (inr (inr (inl h))) (inr (inr (inr (inl k)))) = absurd (omega (arith, flush_first line h.0, loss_first line k.0 k.1))
alike_after s r t u line printed other alike (inr (inr (inl h))) (inr (inr (inr (inr k)))) = absurd (omega (arith, flush_first line h.0, text_first line k.1 k.0 k.2 k.3))
alike_after s r t u line printed other alike (inr (inr (inr (inl h)))) (inl k) = absurd (omega (arith, loss_first line h.0 h.1, blank_first line k.0))
alike_after s r t u line printed other alike (inr (inr (inr (inl h)))) (inr (inl k)) = absurd (omega (arith, loss_first line h.0 h.1, open_first line k.0))
alike_after s r t u line printed other alike (inr (inr (inr (inl h)))) (inr (inr (inl k))) = absurd (omega (arith, loss_first line h.0 h.1, flush_first line k.0))
alike_after s r t u line printed other alike (inr (inr (inr (inl h)))) (inr (inr (inr (inl k)))) = loses_alike s r t u line h.0 k.0 printed other alike h.1 k.1 h.2 k.2
alike_after s r t u line printed other alike (inr (inr (inr (inl h)))) (inr (inr (inr (inr k)))) = absurd (omega (arith, loss_first line h.0 h.1, text_first line k.1 k.0 k.2 k.3))
alike_after s r t u line printed other alike (inr (inr (inr (inr h)))) (inl k) = absurd (omega (arith, text_first line h.1 h.0 h.2 h.3, blank_first line k.0))
alike_after s r t u line printed other alike (inr (inr (inr (inr h)))) (inr (inl k)) = absurd (omega (arith, text_first line h.1 h.0 h.2 h.3, open_first line k.0))
alike_after s r t u line printed other alike (inr (inr (inr (inr h)))) (inr (inr (inl k))) = absurd (omega (arith, text_first line h.1 h.0 h.2 h.3, flush_first line k.0))
alike_after s r t u line printed other alike (inr (inr (inr (inr h)))) (inr (inr (inr (inl k)))) = absurd (omega (arith, text_first line h.1 h.0 h.2 h.3, loss_first line k.0 k.1))
alike_after s r t u line printed other alike (inr (inr (inr (inr h)))) (inr (inr (inr (inr k)))) =
    receives_alike s r t u line h.0 k.0 h.1 k.1 printed other alike h.2 k.2 h.3 k.3 h.4 k.4

-- lines print one text from alike scripts
from_alike : (lines : List (List ℕ)) (s r : ScriptValue) (p q : List ℕ) (t u : Script) → AllByRecursion IsNoCrash lines → all_bare s ≡ all_bare r
    → PrintsAll (Running s) lines p t → PrintsAll (Running r) lines q u → p ≡ q
from_alike [] s r p q t u none alike first second = first.0 ∙ sym second.0
from_alike (line ∷ lines) s r p q t u none alike (p1, p2, v, prints, more, whole) (q1, q2, w, also, others, all) =
    let left = leaves s line p1 v none.0 prints in
    let over = leaves r line q1 w none.0 also in
    let after = alike_after s r left.0 over.0 line p1 q1 alike left.1 over.1 in
    let rest = from_alike lines left.0 over.0 p2 q2 t u none.1 after.1 (subst (λ x. PrintsAll x lines p2 t) left.2 more) (subst (λ x. PrintsAll x lines q2 u) over.2 others) in
    whole ∙ ap (λ x. x ++ p2) after.0 ∙ ap (λ x. q1 ++ x) rest ∙ sym all

pub one_text : (start : State) (one other : Memory) (lines : List (List ℕ)) (p q : List ℕ) (t u : Script) → AllByRecursion IsNoCrash lines
    → PrintsAll (Running (beginning start one)) lines p t → PrintsAll (Running (beginning start other)) lines q u → p ≡ q
one_text start one other lines p q t u none first second = from_alike lines (beginning start one) (beginning start other) p q t u none refl first second

pub one_script : (start : State) (one other : Memory) (input p q : List ℕ) (s : IsScript start one input p) → AllByRecursion IsNoCrash s.lines → IsScript start other input q → p ≡ q
one_script start one other input p q s none r =
    let same = same_lines r.lines s.lines r.each s.each (sym r.whole ∙ s.whole) in
    one_text start one other s.lines p q s.end r.end none s.prints (subst (λ lines. PrintsAll (Running (beginning start other)) lines q r.end) same r.prints)
