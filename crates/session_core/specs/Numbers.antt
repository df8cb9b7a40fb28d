use Rattle.std.specs.Prelude.{◌&&◌, ◌^◌, List, ℕ, Option, Some, None, cond, nat_lt}
use Rattle.std.specs.Fmt.{decimal}
use Rattle.std.specs.Str.{bytes_eq}
use Rattle.std.specs.Str.Parse.{digits_value}

-- the number below 2 ^ 64 that the text is in decimal, without leading zeros
abbrev pub decimal_value : List ℕ → Option ℕ
decimal_value text = cond (nat_lt (digits_value 10 text) (2 ^ 64) && bytes_eq (decimal (digits_value 10 text)) text) (Some (digits_value 10 text)) None
