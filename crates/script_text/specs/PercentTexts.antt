use Rattle.std.specs.Prelude.{List, ℕ, Bool, ◌||◌, ◌==◌, ◌∷◌, [], nat_lt, if◌then◌else◌}
use Rattle.std.specs.List.{flat_map}
use Rattle.percent_encoding.specs.Percent.{percent_encode_byte, percent_decode}

-- the byte is written by its number: it is a control, `%`, or not ASCII
abbrev pub is_encoded : ℕ → Bool
is_encoded b = nat_lt b 32 || b == 37 || nat_lt 126 b

-- the byte as text
abbrev pub encoded_byte : ℕ → List ℕ
encoded_byte b = if is_encoded b then percent_encode_byte b else b ∷ []

-- the bytes as text
abbrev pub encoded : List ℕ → List ℕ
encoded bytes = flat_map encoded_byte bytes

-- the bytes that a text stands for: `%` and two hexadecimal digits are the byte of that number, all else is itself
abbrev pub decoded : List ℕ → List ℕ
decoded text = percent_decode text
