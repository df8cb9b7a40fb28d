use Rattle.std.specs.Prelude.{◌+◌, List, ℕ, length}
use Rattle.std.specs.List.{sum_by}
use Rattle.frame_core.specs.declared.frame.Frame.{Frame}

-- an output: the number of its command, the session that it goes to, and what is told
pub record OutValue : Type 0 where
  pub number : ℕ
  pub session : ℕ
  pub frame : Frame

-- the bytes of a header
abbrev pub header_bytes : List ℕ × List ℕ → ℕ
header_bytes h = length h.0 + length h.1

-- the bytes of a frame's body, and of its headers' names and values
abbrev pub bytes_in : Frame → ℕ
bytes_in frame = length frame.body + sum_by header_bytes frame.headers

-- the bytes that an output counts for: those of its frame
abbrev pub weight_of : OutValue → ℕ
weight_of out = bytes_in out.frame
