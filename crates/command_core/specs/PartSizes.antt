-- Bytes that the parts of records take.
use Rattle.std.specs.Prelude.{◌+◌, List, ℕ, Option, Some, None, length}
use Rattle.std.specs.List.{sum_by}
use Rattle.command_core.specs.Sendings.{SendingValue}

-- a text: its length in four bytes, and its own
abbrev pub text_size : List ℕ → ℕ
text_size text = 4 + length text

-- a text that may be absent: a byte that says whether it is there, and the text
abbrev pub option_size : Option (List ℕ) → ℕ
option_size None = 1
option_size (Some text) = 1 + text_size text

abbrev pub pair_size : List ℕ × List ℕ → ℕ
pair_size h = text_size h.0 + text_size h.1

-- headers: their count in two bytes, and names and values
abbrev pub headers_size : List (List ℕ × List ℕ) → ℕ
headers_size headers = 2 + sum_by pair_size headers

abbrev pub sending_size : SendingValue → ℕ
sending_size s = text_size s.destination + headers_size s.headers + (4 + length s.body)
