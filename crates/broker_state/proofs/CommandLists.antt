use Rattle.std.proofs.Common.{◌≡◌, ◌++◌, List, [], ◌∷◌, refl, sym, ap, ◌∙◌, append_assoc}
use Rattle.std.specs.List.{AllByRecursion}
use Rattle.command_core.specs.Commands.{CommandValue}
use Rattle.broker_state.specs.declared.nack_rule.NackRule.{NackRule}
use Rattle.broker_state.specs.States.{State}
use Rattle.broker_state.specs.Steps.{Event, MayBefall, outs_by, outs_of_by, state_after_all, state_after_by, state_after_one, step_by}

module _ (rule : NackRule) where
  -- commands and then others do what the others do after the first
  pub state_after-append : (s : State) (a b : List CommandValue) → state_after_by rule s (a ++ b) ≡ state_after_by rule (state_after_by rule s a) b
  state_after-append s [] b = refl
  state_after-append s (c ∷ a) b = state_after-append (step_by rule s c) a b

  -- and give the outputs of both in turn
  pub outs_of-append : (s : State) (a b : List CommandValue) → outs_of_by rule s (a ++ b) ≡ outs_of_by rule s a ++ outs_of_by rule (state_after_by rule s a) b
  outs_of-append s [] b = refl
  outs_of-append s (c ∷ a) b =
      ap (λ given. outs_by rule s c ++ given) (outs_of-append (step_by rule s c) a b)
      ∙ sym (append_assoc (outs_by rule s c) (outs_of_by rule (step_by rule s c) a) (outs_of_by rule (state_after_by rule (step_by rule s c) a) b))

-- what each command and each restart keeps holds after all
pub after_each : (P : State → Type 0) → ((s : State) (e : Event) → MayBefall e → P s → P (state_after_one s e)) → (s : State) → P s → (events : List Event) → AllByRecursion MayBefall events → P (state_after_all s events)
after_each P keeps s now [] may = now
after_each P keeps s now (e ∷ events) may =
    after_each P keeps (state_after_one s e) (keeps s e may.0 now) events may.1
