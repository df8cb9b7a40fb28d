use Rattle.std.proofs.Common.{◌≡◌, ◌+◌, List, ◌∷◌, ℕ, Result, Ok, Err, ap}
use Rattle.command_core.specs.declared.fault.Fault.{Fault}
use Rattle.command_core.specs.declared.command.Member.{Member}
use Rattle.broker_state.specs.declared.nack_rule.NackRule.{NackRule}
use Rattle.broker_state.specs.Executing.{applied, committed}
use Rattle.broker_state.specs.States.{State}

module _ (rule : NackRule) where
  -- the members behind one, by what it leads to
  abbrev pub behind : ℕ → ℕ → List Member → Result State Fault → Result State Fault
  behind session place ms r =
      elim r as (λ x. Result State Fault) [ Ok t ↦ committed rule t session (place + 1) ms | Err fault ↦ Err fault ]

  module _ (s t : State) (session place : ℕ) (m : Member) (ms : List Member) where
    -- a first member that is not refused leads on to the others
    pub committed_more : applied rule s session place m ≡ Ok t → committed rule s session place (m ∷ ms) ≡ committed rule t session (place + 1) ms
    committed_more is = ap (behind session place ms) is
