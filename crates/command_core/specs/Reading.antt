-- Commands, read from the front of bytes: what is read and the bytes after it, or nothing if no spelling begins them.
use Rattle.std.specs.Prelude.{◌==◌, ◌&&◌, ◌||◌, ℕ, Bool, true, List, [], ◌∷◌, Option, Some, None, is_some, not, if◌then◌else◌}
use Rattle.std.specs.Int.{w64}
use Rattle.command_core.specs.declared.command.End.{End as ending}
use Rattle.command_core.specs.declared.command.End.TheVariants.{Bye, Lost, Bad}
use Rattle.command_core.specs.declared.command.Op.{Op}
use Rattle.command_core.specs.declared.command.Op.TheVariants.{Open, Subscribe, Unsubscribe, Commit, Note, End}
use Rattle.command_core.specs.declared.fault.Fault.{Fault}
use Rattle.command_core.specs.declared.fault.Fault.TheVariants.{MalformedFrame, FrameTooLarge, UndefinedEscape, UnknownCommand, MissingHeader, UnsupportedVersion, UnexpectedFrame, BadDestination, SubscriptionIdInUse, UnknownSubscription, UnknownAcknowledgement, NoRoom, NoClientId, DurableSubscription, TransactionBegun, TransactionNotBegun, TransactionTooLarge, TooManyEntries, BodyNotAllowed, BadHeaderValue}
use Rattle.command_core.specs.declared.command.Member.{Member}
use Rattle.command_core.specs.declared.command.Member.TheVariants as kinds
use Rattle.command_core.specs.Commands.{CommandValue}
use Rattle.command_core.specs.Faults.{code_of}
use Rattle.command_core.specs.Operations.{op_of}
use Rattle.command_core.specs.Destinations.{is_queue}
use Rattle.command_core.specs.PartReading.{◌>>=◌, Reader, byte_at, destination_at, few_at, made, mode_at, name_at, number_at, optional_at, sending_at, text_at}

-- every fault
abbrev pub all_faults : List Fault
all_faults =
    MalformedFrame ∷ FrameTooLarge ∷ UndefinedEscape ∷ UnknownCommand ∷ MissingHeader ∷ UnsupportedVersion ∷ UnexpectedFrame ∷ BadDestination ∷ SubscriptionIdInUse ∷ UnknownSubscription ∷ UnknownAcknowledgement ∷ NoRoom ∷ NoClientId ∷ DurableSubscription ∷ TransactionBegun ∷ TransactionNotBegun ∷ TransactionTooLarge ∷ TooManyEntries ∷ BodyNotAllowed ∷ BadHeaderValue ∷ []

-- operations

-- the fault of that number among these
abbrev pub fault_with : ℕ → List Fault → Option Fault
fault_with code [] = None
fault_with code (fault ∷ faults) = if code_of fault == code then Some fault else fault_with code faults

unfoldable pub fault_at : Reader Fault
fault_at bytes = do
  code ← byte_at bytes
  fault ← fault_with code.0 all_faults
  Some (fault, code.1)

unfoldable pub end_at : Reader ending
end_at bytes = do
  kind ← byte_at bytes
  if kind.0 == 0 then Some (Bye, kind.1) else (if kind.0 == 1 then Some (Lost, kind.1) else (if kind.0 == 2 then made Bad (fault_at kind.1) else None))

unfoldable pub subscribe_at : Reader Op
subscribe_at bytes = do
  id ← text_at bytes
  destination ← destination_at id.1
  mode ← mode_at destination.1
  durable ← name_at mode.1
  if is_some durable.0 && is_queue destination.0 then None else Some (Subscribe id.0 destination.0 mode.0 durable.0, durable.1)

unfoldable pub unsubscribe_at : Reader Op
unsubscribe_at bytes = do
  id ← optional_at bytes
  durable ← name_at id.1
  if is_some id.0 || is_some durable.0 then Some (Unsubscribe id.0 durable.0, durable.1) else None

-- a member, after the byte for its kind
unfoldable pub member_behind : ℕ → Reader Member
member_behind kind bytes =
    if kind == 2 then made kinds.Send (sending_at bytes)
    else (if kind == 5 then made kinds.Ack (number_at w64 bytes)
    else (if kind == 6 then made kinds.Nack (number_at w64 bytes)
    else None))

unfoldable pub member_at : Reader Member
member_at bytes = do
  kind ← byte_at bytes
  member_behind kind.0 kind.1

unfoldable pub operation_at : Reader Op
operation_at bytes = do
  kind ← byte_at bytes
  if kind.0 == 1 then made Open (name_at kind.1)
      else (if kind.0 == 3 then subscribe_at kind.1
      else (if kind.0 == 4 then unsubscribe_at kind.1
      else (if kind.0 == 7 then made Commit (few_at member_at kind.1)
      else (if kind.0 == 8 then Some (Note, kind.1)
      else (if kind.0 == 9 then made End (end_at kind.1)
      else made op_of (member_behind kind.0 kind.1))))))

-- commands

-- whether session and receipt have the form that the operation asks for
abbrev pub fits : Op → ℕ → Option (List ℕ) → Bool
fits (Open _) session receipt = session == 0 && not (is_some receipt)
fits (End Lost) session receipt = not (is_some receipt)
fits _ session receipt = true

unfoldable pub command_at : Reader CommandValue
command_at bytes = do
  session ← number_at w64 bytes
  receipt ← optional_at session.1
  op ← operation_at receipt.1
  if fits op.0 session.0 receipt.0 then Some (record { session = session.0; op = op.0; receipt = receipt.0 }, op.1) else None
