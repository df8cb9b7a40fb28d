-- What `--version` prints.
use Rattle.std.specs.Prelude.{◌≡◌, ◌⊎◌, ◌++◌, List, [], ◌∷◌, ℕ, Option, codes, drop, false, length, nat_eq, true}
use Rattle.std.specs.Io.KnownBytes.{Appends}
use Rattle.std.specs.List.{starts_with}
use Rattle.std.specs.Str.{IsTrimAsciiEnd}

-- what a note on the program begins with
abbrev pub mark : List ℕ
mark = codes "stompd-built:"

-- The note that stands in the last bytes of a program: behind the mark, without the blanks at the end. Without the mark there is none.
abbrev pub IsNoteOf : (last note : List ℕ) → Type 0
IsNoteOf last note =
    ((starts_with nat_eq last mark ≡ true) × IsTrimAsciiEnd (drop (length mark) last) note)
    ⊎ ((starts_with nat_eq last mark ≡ false) × (note ≡ []))

-- the program's number was written, and its note behind that
abbrev pub WritesVersion : List ℕ → Option (List ℕ) → Option (List ℕ) → Type 0
WritesVersion last before after = (note : List ℕ) × IsNoteOf last note × Appends before after (codes "stompd 0.2.0" ++ (note ++ 10 ∷ []))
