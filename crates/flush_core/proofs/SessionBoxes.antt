-- Boxes kept and sessions ended, command by command.
use Rattle.std.proofs.Common.{◌≡◌, ◌+◌, ◌++◌, ℕ, List, [], ◌∷◌, length, refl, sym, ◌∙◌, ap, arith}
use Rattle.std.proofs.lemmas.List.{append-nil, append_assoc}
use Rattle.area_core.specs.Areas.{commands}
use Rattle.command_core.specs.Commands.{CommandValue}
use Rattle.command_core.specs.Entries.{EntryValue}
use Rattle.broker_core.specs.States.{State}
use Rattle.broker_core.specs.Steps.{state_after, step}
use Rattle.outbox_core.specs.Boxes.{SenderValue}
use Rattle.outbox_core.specs.Giving.{Kept}
use Rattle.flush_core.specs.Sessions.{boxes_after, ended_by, ended_of, opened}

pub ended_commands : (xs : List CommandValue) (s : State) (c : CommandValue) → ended_of s (xs ++ c ∷ []) ≡ ended_of s xs ++ ended_by (state_after s xs) c
ended_commands [] s c = append-nil (ended_by s c)
ended_commands (x ∷ xs) s c =
    ap (λ (l : List ℕ). ended_by s x ++ l) (ended_commands xs (step s x) c)
    ∙ sym (append_assoc (ended_by s x) (ended_of (step s x) xs) (ended_by (state_after (step s x) xs) c))

pub boxes_entries : (es : List (EntryValue SenderValue)) (e : EntryValue SenderValue) (n : ℕ) (boxes : Kept) → boxes_after n boxes (es ++ e ∷ []) ≡ opened (boxes_after n boxes es) (n + length es) e
boxes_entries [] e n boxes = ap (λ (k : ℕ). opened boxes k e) (omega arith)
boxes_entries (x ∷ es) e n boxes =
    boxes_entries es e (n + 1) (opened boxes n x)
    ∙ ap (λ (k : ℕ). opened (boxes_after (n + 1) (opened boxes n x) es) k e) (omega arith)

pub commands_both : {B : Type 0} (xs ys : List (EntryValue B)) → commands (xs ++ ys) ≡ commands xs ++ commands ys
commands_both [] ys = refl
commands_both (x ∷ xs) ys = ap (λ (l : List CommandValue). x.command ∷ l) (commands_both xs ys)

pub no_entries : {B : Type 0} (es : List (EntryValue B)) → commands es ≡ [] → es ≡ []
no_entries [] none = refl
no_entries (e ∷ es) none = absurd (omega (arith, ap (λ (l : List CommandValue). length l) none))
