use Rattle.std.specs.Prelude.{◌≡◌, ◌≢◌, ◌<◌, List, [], ◌∷◌, ◌++◌, ℕ, Bool, Option, None, Some, length, cond, Vec}
use Rattle.std.specs.Global.{Global}
use Rattle.std.specs.List.{AllByRecursion}
use Rattle.std.specs.Str.{IsUtf8}
use Rattle.escape_core.specs.Escapes.{unescaped}
use Rattle.frame_core.specs.declared.frame.Verb.{Verb}
use Rattle.frame_core.specs.Verbs.{name_of, is_raw}

-- a byte that may stand within a line: no NUL, LF or CR
abbrev pub IsInLine : ℕ → Type 0
IsInLine b = (b ≢ 0) × (b ≢ 10) × (b ≢ 13)

-- STOMP 1.2, "Augmented BNF": EOL is LF, or CR LF
abbrev pub eol : Bool → List ℕ
eol with_cr = cond with_cr (13 ∷ 10 ∷ []) (10 ∷ [])

-- a header line as it stands: the first colon cuts the name from the value, which may have colons
pub record HeaderLine : Type 0 where
  pub name : List ℕ
  pub value : List ℕ
  pub with_cr : Bool

-- its bytes, with its end of line
abbrev pub line_of : HeaderLine → List ℕ
line_of line = line.name ++ 58 ∷ (line.value ++ eol line.with_cr)

-- the form of a header line: a name, no byte that can't stand there, and no colon in the name
pub record IsHeaderLine (line : HeaderLine) : Type 0 where
  pub named : 0 < length line.name
  pub name : AllByRecursion (λ b. IsInLine b × (b ≢ 58)) line.name
  pub value : AllByRecursion IsInLine line.value

-- what a name or value means under a command, if anything
abbrev pub meaning : Verb → List ℕ → Option (List ℕ)
meaning verb text = cond (is_raw verb) (Some text) (unescaped text)

-- what is meant by bytes for which those others stand, if any do
abbrev pub meant : List ℕ → Option (Vec ℕ Global) → List ℕ
meant bytes None = bytes
meant bytes (Some other) = other.items

-- the line is a header of that name and value
pub record IsHeaderOf (verb : Verb) (line : HeaderLine) (header : List ℕ × List ℕ) : Type 0 where
  pub form : IsHeaderLine line
  pub name : meaning verb line.name ≡ Some header.0
  pub value : meaning verb line.value ≡ Some header.1
  pub name_utf8 : IsUtf8 header.0
  pub value_utf8 : IsUtf8 header.1

-- the bytes are header lines of these headers, in order
abbrev pub HeaderLines : Verb → List ℕ → List (List ℕ × List ℕ) → Type 0
HeaderLines verb bytes [] = bytes ≡ []
HeaderLines verb bytes (header ∷ headers) = (line : HeaderLine) × (rest : List ℕ) × IsHeaderOf verb line header × (bytes ≡ line_of line ++ rest) × HeaderLines verb rest headers

-- the bytes are a command line and header lines
pub record Begins (verb : Verb) (headers : List (List ℕ × List ℕ)) (bytes : List ℕ) : Type 0 where
  pub with_cr : Bool
  pub lines : List ℕ
  pub whole : bytes ≡ name_of verb ++ eol with_cr ++ lines
  pub each : HeaderLines verb lines headers

-- the bytes are a whole head: a command line, header lines and an empty line
pub record IsHead (verb : Verb) (headers : List (List ℕ × List ℕ)) (bytes : List ℕ) : Type 0 where
  pub with_cr : Bool
  pub lines : List ℕ
  pub whole : bytes ≡ lines ++ eol with_cr
  pub begins : Begins verb headers lines
