-- A MESSAGE that is written already.
use Rattle.std.specs.Prelude.{◌≡◌, ◌<◌, ◌^◌, SomeIff, true}
use Rattle.std.specs.Str.{IsUtf8}
use Rattle.frame_core.specs.Writable.{Writable}
use Rattle.frame_core.specs.Written.{written}
use Rattle.frame_core.specs.declared.frame.Frame.{Frame}
use Rattle.command_core.specs.declared.ready.Ready.TheInside.{Inside}
use Rattle.command_core.specs.Deliveries.{message_of}
use Rattle.command_core.specs.Outs.{bytes_in}

-- the MESSAGE of its delivery
abbrev pub ready_frame : Inside → Frame
ready_frame a = message_of a.delivery

-- its bytes are what is written for it, it is known what they count for, and they can be written
pub record IsReady (a : Inside) : Type 0 where
  pub wire : a.wire ≡ written (ready_frame a)
  pub text : a.is_text ≡ true → IsUtf8 a.wire
  pub weight : SomeIff a.weight (bytes_in (ready_frame a) < 2 ^ 64) (bytes_in (ready_frame a))
  pub form : Writable (ready_frame a)
