use Rattle.std.specs.Prelude.{◌+◌, ◌≤◌, List, [], ◌∷◌, ℕ, Result, Ok, Err, length}
use Rattle.command_core.specs.declared.command.Op.{Op}
use Rattle.command_core.specs.declared.command.Op.TheVariants.{Send, Subscribe, Unsubscribe, Ack, Nack, Commit, End}
use Rattle.command_core.specs.declared.fault.Fault.{Fault}
use Rattle.command_core.specs.declared.command.Member.{Member}
use Rattle.command_core.specs.declared.command.Member.TheVariants as members
use Rattle.broker_state.specs.declared.nack_rule.NackRule.{NackRule}
use Rattle.broker_state.specs.Dead.{nacked}
use Rattle.broker_state.specs.Operations.{acknowledged, ended, sent, subscribed, unsubscribed_by}
use Rattle.broker_state.specs.States.{State}

-- a member of a transaction, at that place among them, or the same on its own, which has the place 0
abbrev pub applied : NackRule → State → ℕ → ℕ → Member → Result State Fault
applied rule s session place (members.Send sending) = sent s place sending
applied rule s session place (members.Ack delivery) = acknowledged s session delivery
applied rule s session place (members.Nack delivery) = nacked rule s session place delivery

-- The members of a transaction are applied in their order, from that place on, with nothing handed out between them. If
-- one is refused, all are (STOMP 1.2, "COMMIT").
abbrev pub committed : NackRule → State → ℕ → ℕ → List Member → Result State Fault
committed rule s session place [] = Ok s
committed rule s session place (m ∷ ms) =
    elim (applied rule s session place m) as (λ r. Result State Fault) [ Ok t ↦ committed rule t session (place + 1) ms | Err fault ↦ Err fault ]

-- a transaction has at most 64 members
abbrev pub HasFewMembers : Op → Type 0
HasFewMembers (Commit members) = length members ≤ 64
HasFewMembers _ = Unit {0}

-- what an operation of an open session leaves, or why it is refused
abbrev pub executed : NackRule → State → ℕ → Op → Result State Fault
executed rule s session (Send sending) = sent s 0 sending
executed rule s session (Subscribe id destination mode durable) = subscribed s session id destination mode durable
executed rule s session (Unsubscribe id durable) = unsubscribed_by s session id durable
executed rule s session (Ack delivery) = acknowledged s session delivery
executed rule s session (Nack delivery) = nacked rule s session 0 delivery
executed rule s session (Commit members) = committed rule s session 0 members
executed rule s session (End end) = Ok (ended s session)
executed rule s session _ = Ok s
