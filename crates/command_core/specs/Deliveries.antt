-- The MESSAGE of a delivery.
use Rattle.std.specs.Prelude.{List, ℕ}
use Rattle.frame_core.specs.declared.frame.Frame.{Frame}
use Rattle.command_core.specs.declared.output.Delivery.{Delivery}
use Rattle.command_core.specs.Replies.{message_frame, message_id, own_headers}

-- the broker's own headers of a delivery's MESSAGE
abbrev pub own_of : Delivery → List (List ℕ × List ℕ)
own_of it = own_headers it.subscription (message_id it.command it.place) it.delivery it.sending

-- the MESSAGE of a delivery
abbrev pub message_of : Delivery → Frame
message_of it = message_frame it.subscription it.command it.place it.delivery it.sending
