use Rattle.std.specs.Prelude.{◌≡◌, ◌⊎◌, IfSome, IsSome, false}
use Rattle.command_core.specs.declared.command.Op.{Op}
use Rattle.command_core.specs.declared.command.Op.TheVariants.{Open, Send, Subscribe, Unsubscribe, Ack, Nack}
use Rattle.command_core.specs.declared.command.Member.{Member}
use Rattle.command_core.specs.declared.command.Member.TheVariants as members
use Rattle.command_core.specs.Destinations.{is_queue}
use Rattle.command_core.specs.Texts.{IsGiven}

-- a member as an operation of its own
abbrev pub op_of : Member → Op
op_of (members.Send sending) = Send sending
op_of (members.Ack delivery) = Ack delivery
op_of (members.Nack delivery) = Nack delivery

-- The form of an operation: a client's name and a durable one aren't empty. A durable name comes only with a topic, and
-- what ends a subscription has an id or a name.
abbrev pub IsOp : Op → Type 0
IsOp (Open client_id) = IsGiven client_id
IsOp (Subscribe id destination mode durable) = IsGiven durable × IfSome durable (λ text. is_queue destination ≡ false)
IsOp (Unsubscribe id durable) = IsGiven durable × (IsSome id ⊎ IsSome durable)
IsOp _ = Unit {0}
