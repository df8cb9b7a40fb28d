use Rattle.std.specs.Prelude.{◌≡◌, ◌<◌, ◌≤◌, ◌^◌, List, [], ◌∷◌, ◌++◌, ℕ, IfSome, length}
use Rattle.std.specs.Int.{w16, w64, to_be_bytes}
use Rattle.std.specs.List.{AllByRecursion, flat_map}
use Rattle.command_core.specs.declared.command.End.{End as ending}
use Rattle.command_core.specs.declared.command.End.TheVariants.{Bye, Lost, Bad}
use Rattle.command_core.specs.declared.command.Op.{Op}
use Rattle.command_core.specs.declared.command.Op.TheVariants.{Open, Send, Subscribe, Unsubscribe, Ack, Nack, Commit, Note, End}
use Rattle.command_core.specs.declared.command.Member.{Member}
use Rattle.command_core.specs.declared.command.Member.TheVariants as kinds
use Rattle.command_core.specs.Commands.{CommandValue, IsCommand}
use Rattle.command_core.specs.Destinations.{IsDestination}
use Rattle.command_core.specs.PartSpellings.{IsSent, IsText, counted, mode_byte, optional, sending}
use Rattle.command_core.specs.Faults.{code_of}

-- The record of a command: how it stands in the journal. Numbers are big-endian and unsigned.

-- a member of a transaction: a byte for its kind, and what it needs
abbrev pub member : Member → List ℕ
member (kinds.Send s) = 2 ∷ sending s
member (kinds.Ack delivery) = 5 ∷ to_be_bytes w64 delivery
member (kinds.Nack delivery) = 6 ∷ to_be_bytes w64 delivery

-- how many members, in two bytes, and each of them
abbrev pub members : List Member → List ℕ
members ms = to_be_bytes w16 (length ms) ++ flat_map member ms

-- how a session ends; if it did what it may not do, also the code of its fault
abbrev pub end : ending → List ℕ
end Bye = 0 ∷ []
end Lost = 1 ∷ []
end (Bad fault) = 2 ∷ code_of fault ∷ []

-- an operation: a byte for its kind, and what it needs; one that may be a member is spelled as that
abbrev pub operation : Op → List ℕ
operation (Open client_id) = 1 ∷ optional client_id
operation (Send s) = member (kinds.Send s)
operation (Subscribe id destination mode durable) = 3 ∷ counted id ++ counted destination ++ mode_byte mode ∷ optional durable
operation (Unsubscribe id durable) = 4 ∷ optional id ++ optional durable
operation (Ack delivery) = member (kinds.Ack delivery)
operation (Nack delivery) = member (kinds.Nack delivery)
operation (Commit ms) = 7 ∷ members ms
operation Note = 8 ∷ []
operation (End e) = 9 ∷ end e

-- a command: the session, the receipt that it asks for, the operation
abbrev pub record_of : CommandValue → List ℕ
record_of c = to_be_bytes w64 c.session ++ optional c.receipt ++ operation c.op

-- What may stand there.

abbrev pub IsMember : Member → Type 0
IsMember (kinds.Send s) = IsSent s
IsMember (kinds.Ack delivery) = delivery < 2 ^ 64
IsMember (kinds.Nack delivery) = delivery < 2 ^ 64

abbrev pub IsOperation : Op → Type 0
IsOperation (Open client_id) = IfSome client_id IsText
IsOperation (Send s) = IsMember (kinds.Send s)
IsOperation (Subscribe id destination mode durable) = IsText id × IsDestination destination × IfSome durable IsText
IsOperation (Unsubscribe id durable) = IfSome id IsText × IfSome durable IsText
IsOperation (Ack delivery) = IsMember (kinds.Ack delivery)
IsOperation (Nack delivery) = IsMember (kinds.Nack delivery)
IsOperation (Commit ms) = (length ms ≤ 64) × AllByRecursion IsMember ms
IsOperation Note = Unit {0}
IsOperation (End e) = Unit {0}

-- The bytes are the record of the command.
pub record Spells (bytes : List ℕ) (c : CommandValue) : Type 0 where
  pub session : c.session < 2 ^ 64
  pub receipt : IfSome c.receipt IsText
  pub operation : IsOperation c.op
  pub form : IsCommand c
  pub spelled : bytes ≡ record_of c
