use Rattle.std.specs.Prelude.{◌+◌, List, ℕ, length}
use Rattle.std.specs.List.{sum_by}
use Rattle.command_core.specs.Sendings.{SendingValue}

-- the bytes of a header
abbrev pub header_size : List ℕ × List ℕ → ℕ
header_size h = length h.0 + length h.1

-- the bytes that what is sent counts for: destination, names and values, body
abbrev pub size_of : SendingValue → ℕ
size_of s = length s.destination + sum_by header_size s.headers + length s.body
