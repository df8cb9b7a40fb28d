-- The limits of a link's messages.
use Rattle.std.specs.Prelude.{◌≡◌, Some, false}
use Rattle.tungstenite.specs.declared.protocol.WebSocketConfig.{WebSocketConfig}

-- A message and a frame of it may have 131,072 bytes, and 1,048,576 bytes may wait to be sent. From 65,536 on, each send
-- offers them to the stream. One read of the stream asks for 4,096, and the peer's frames are masked (RFC 6455, section 5.1).
pub record HasOurLimits (c : WebSocketConfig) : Type 0 where
  pub message : c.max_message_size ≡ Some 131072
  pub frame : c.max_frame_size ≡ Some 131072
  pub waiting : c.max_write_buffer_size ≡ 1048576
  pub writing : c.write_buffer_size ≡ 65536
  pub reading : c.read_buffer_size ≡ 4096
  pub masked : c.accept_unmasked_frames ≡ false
