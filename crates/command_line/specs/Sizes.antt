-- Sizes, as words say them.
use Rattle.std.specs.Prelude.{◌≡◌, ◌*◌, ◌-◌, ◌||◌, List, [], ◌∷◌, ℕ, Bool, Option, None, Some, bytes_eq, codes, cond, if◌then◌else◌, length, map, take}
use Rattle.std.specs.Char.{is_ascii_digit, to_ascii_lowercase}
use Rattle.std.specs.Str.{IsUtf8}
use Rattle.command_line.specs.Numbers.{IsNumber}

-- what follows the digits at the front of a size
abbrev pub unit_text : List ℕ → List ℕ
unit_text [] = []
unit_text (b ∷ text) = if is_ascii_digit b then unit_text text else b ∷ text

-- those digits
abbrev pub count_text : List ℕ → List ℕ
count_text text = take (length text - length (unit_text text)) text

-- the two texts are the same, but for capital and small letters
abbrev pub is_alike : List ℕ → List ℕ → Bool
is_alike one other = bytes_eq (map to_ascii_lowercase one) (map to_ascii_lowercase other)

-- How many bytes one of a size is: a byte if nothing follows the digits. K, M or G, alone or with B or iB, are each 1,024 of the one before.
abbrev pub unit_of : List ℕ → Option ℕ
unit_of [] = Some 1
unit_of text =
    cond (is_alike text (codes "K") || is_alike text (codes "KB") || is_alike text (codes "KiB")) (Some 1024)
    (cond (is_alike text (codes "M") || is_alike text (codes "MB") || is_alike text (codes "MiB")) (Some 1048576)
    (cond (is_alike text (codes "G") || is_alike text (codes "GB") || is_alike text (codes "GiB")) (Some 1073741824) None))

-- the text means so many bytes: a number in digits, of what follows them
pub record IsSize (text : List ℕ) (n : ℕ) : Type 0 where
  pub count : ℕ
  pub unit : ℕ
  pub utf8 : IsUtf8 (count_text text)
  pub number : IsNumber (count_text text) count
  pub has_unit : unit_of (unit_text text) ≡ Some unit
  pub is : n ≡ count * unit
