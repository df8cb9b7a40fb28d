use Rattle.std.specs.Prelude.{◌≡◌, ◌+◌, ◌≤◌, ℕ, MatchOption, Option}
use Rattle.line_core.specs.declared.message.Message.{Message}
use Rattle.broker_state.specs.declared.limits.Held.{Held}
use Rattle.broker_state.specs.States.{bytes, one}

-- What is left of a room once messages are in it that weigh so much, or nothing if they do not fit.
abbrev pub IsLeft : Held → ((Message → ℕ) → ℕ) → Option Held → Type 0
IsLeft room weigh left =
    MatchOption left (¬ ((weigh one ≤ room.messages) × (weigh bytes ≤ room.bytes))) (λ h. (h.messages + weigh one ≡ room.messages) × (h.bytes + weigh bytes ≡ room.bytes))
