use Rattle.std.specs.Prelude.{◌+◌, ℕ}
use Rattle.std.specs.List.{sum_by}
use Rattle.command_core.specs.declared.command.End.TheVariants.{Bye, Lost, Bad}
use Rattle.command_core.specs.declared.command.Op.{Op}
use Rattle.command_core.specs.declared.command.Op.TheVariants.{Open, Send, Subscribe, Unsubscribe, Ack, Nack, Commit, Note, End}
use Rattle.command_core.specs.declared.command.Member.{Member}
use Rattle.command_core.specs.declared.command.Member.TheVariants as members
use Rattle.command_core.specs.PartSizes.{option_size, sending_size, text_size}

-- Bytes that operations take in the journal.

-- a member of a transaction, with the byte that tells its kind
abbrev pub member_size : Member → ℕ
member_size (members.Send sending) = 1 + sending_size sending
member_size (members.Ack delivery) = 9
member_size (members.Nack delivery) = 9

-- an operation, with the byte that tells its kind
abbrev pub op_size : Op → ℕ
op_size (Open client_id) = 1 + option_size client_id
op_size (Send sending) = member_size (members.Send sending)
op_size (Subscribe id destination mode durable) = 1 + text_size id + text_size destination + 1 + option_size durable
op_size (Unsubscribe id durable) = 1 + option_size id + option_size durable
op_size (Ack delivery) = member_size (members.Ack delivery)
op_size (Nack delivery) = member_size (members.Nack delivery)
op_size (Commit members) = 3 + sum_by member_size members
op_size Note = 1
op_size (End Bye) = 2
op_size (End Lost) = 2
op_size (End (Bad fault)) = 3
