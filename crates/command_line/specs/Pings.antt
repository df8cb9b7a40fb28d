-- What is told of a ping that was answered.
use Rattle.std.specs.Prelude.{List, [], ◌∷◌, ◌++◌, ℕ, ◌/◌, ◌%◌, codes}
use Rattle.std.specs.Fmt.{decimal}

-- so many microseconds, as milliseconds with three places
abbrev pub milliseconds : ℕ → List ℕ
milliseconds micros = decimal (micros / 1000) ++ codes "." ++ decimal (micros / 100 % 10) ++ decimal (micros / 10 % 10) ++ decimal (micros % 10)

-- the one line, of how many nanoseconds the receipt took
abbrev pub ping_line : ℕ → List ℕ
ping_line nanos = codes "receipt after " ++ milliseconds (nanos / 1000) ++ codes " ms" ++ 10 ∷ []
