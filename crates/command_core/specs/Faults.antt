use Rattle.std.specs.Prelude.{List, ℕ, codes}
use Rattle.frame_core.specs.declared.fault.FrameFault.{FrameFault}
use Rattle.frame_core.specs.declared.fault.FrameFault.TheVariants as streams
use Rattle.command_core.specs.declared.fault.Fault.{Fault}
use Rattle.command_core.specs.declared.fault.Fault.TheVariants.{MalformedFrame, FrameTooLarge, UndefinedEscape, UnknownCommand, MissingHeader, UnsupportedVersion, UnexpectedFrame, BadDestination, SubscriptionIdInUse, UnknownSubscription, UnknownAcknowledgement, NoRoom, NoClientId, DurableSubscription, TransactionBegun, TransactionNotBegun, TransactionTooLarge, TooManyEntries, BodyNotAllowed, BadHeaderValue}

-- the number of a fault
abbrev pub code_of : Fault → ℕ
code_of MalformedFrame = 1
code_of FrameTooLarge = 2
code_of UndefinedEscape = 3
code_of UnknownCommand = 4
code_of MissingHeader = 5
code_of UnsupportedVersion = 6
code_of UnexpectedFrame = 7
code_of BadDestination = 8
code_of SubscriptionIdInUse = 9
code_of UnknownSubscription = 10
code_of UnknownAcknowledgement = 11
code_of NoRoom = 12
code_of NoClientId = 13
code_of DurableSubscription = 14
code_of TransactionBegun = 15
code_of TransactionNotBegun = 16
code_of TransactionTooLarge = 17
code_of TooManyEntries = 18
code_of BodyNotAllowed = 19
code_of BadHeaderValue = 20

-- its text: the code and what is wrong
abbrev pub text_of : Fault → List ℕ
text_of MalformedFrame = codes "E1 malformed frame"
text_of FrameTooLarge = codes "E2 frame too large"
text_of UndefinedEscape = codes "E3 undefined escape"
text_of UnknownCommand = codes "E4 unknown command"
text_of MissingHeader = codes "E5 missing header"
text_of UnsupportedVersion = codes "E6 only version 1.2 is spoken"
text_of UnexpectedFrame = codes "E7 frame not expected here"
text_of BadDestination = codes "E8 bad destination"
text_of SubscriptionIdInUse = codes "E9 subscription id in use"
text_of UnknownSubscription = codes "E10 unknown subscription id"
text_of UnknownAcknowledgement = codes "E11 unknown acknowledgement id"
text_of NoRoom = codes "E12 no room for the message"
text_of NoClientId = codes "E13 durable subscription without client-id"
text_of DurableSubscription = codes "E14 durable subscription unknown, in use or of another topic"
text_of TransactionBegun = codes "E15 transaction already begun"
text_of TransactionNotBegun = codes "E16 transaction not begun"
text_of TransactionTooLarge = codes "E17 transaction too large"
text_of TooManyEntries = codes "E18 too many subscriptions or transactions"
text_of BodyNotAllowed = codes "E19 body not allowed"
text_of BadHeaderValue = codes "E20 bad header value"

-- the fault of a stream of frames
abbrev pub fault_of : FrameFault → Fault
fault_of streams.Malformed = MalformedFrame
fault_of streams.TooLarge = FrameTooLarge
fault_of streams.UndefinedEscape = UndefinedEscape
fault_of streams.UnknownCommand = UnknownCommand
fault_of streams.BodyNotAllowed = BodyNotAllowed
fault_of streams.BadHeaderValue = BadHeaderValue
