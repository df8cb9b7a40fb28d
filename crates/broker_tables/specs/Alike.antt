-- The MESSAGE that subscriptions of one id get alike.
use Rattle.std.specs.Prelude.{◌≡◌, IfSome, List, None, Option, ℕ}
use Rattle.frame_core.specs.declared.frame.Frame.{Frame}
use Rattle.command_core.specs.Replies.{message_frame}
use Rattle.line_core.specs.declared.message.Message.{Message}
use Rattle.broker_tables.specs.declared.stock.Told.{Told}

-- the MESSAGE of a message for subscriptions of that id that don't acknowledge (STOMP 1.2, "MESSAGE")
abbrev pub plain_frame : List ℕ → Message → Frame
plain_frame id m = message_frame id m.number.command m.number.place None m.sending

-- what is kept for all of an id is the MESSAGE of that message
abbrev pub KnowsAlike : Message → Told → Type 0
KnowsAlike m told = IfSome told.alike (λ frame. frame ≡ plain_frame told.id m)

abbrev pub Knows : Message → Option Told → Type 0
Knows m last = IfSome last (KnowsAlike m)
