-- Numbers, as words say them.
use Rattle.std.specs.Prelude.{◌≡◌, List, ℕ}
use Rattle.std.specs.Str.Parse.{IsNumeral, digits_value}

-- the text has only decimal digits, and they mean this number
abbrev pub IsNumber : List ℕ → ℕ → Type 0
IsNumber text n = IsNumeral 10 text × (n ≡ digits_value 10 text)
