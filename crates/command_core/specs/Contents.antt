-- The frame of an output, however it is kept.
use Rattle.frame_core.specs.declared.frame.Frame.{Frame}
use Rattle.command_core.specs.declared.output.Content.{Content}
use Rattle.command_core.specs.declared.output.Content.TheVariants.{Framed, Receipt, Message, Ready}
use Rattle.command_core.specs.Deliveries.{message_of}
use Rattle.command_core.specs.Replies.{receipt_frame}

abbrev pub frame_of : Content → Frame
frame_of (Framed frame) = frame
frame_of (Receipt id) = receipt_frame id
frame_of (Message it) = message_of it
frame_of (Ready frame) = frame
