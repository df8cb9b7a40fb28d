use Rattle.std.specs.Prelude.{◌≡◌, ◌≢◌, ◌<◌, ◌≤◌, ◌⊎◌, List, [], ◌∷◌, ◌++◌, ℕ, Bool, true, false, Option, Some, None, length}
use Rattle.std.specs.List.{AllByRecursion}
use Rattle.std.specs.Str.{IsUtf8}
use Rattle.std.specs.Str.Parse.{IsNumeral}
use Rattle.frame_core.specs.declared.frame.Verb.{Verb}
use Rattle.frame_core.specs.declared.fault.FrameFault.{FrameFault}
use Rattle.frame_core.specs.declared.fault.FrameFault.TheVariants.{Malformed, TooLarge, UndefinedEscape, UnknownCommand, BodyNotAllowed, BadHeaderValue}
use Rattle.frame_core.specs.Verbs.{name_of, has_body}
use Rattle.frame_core.specs.Heads.{IsInLine, eol, HeaderLine, line_of, IsHeaderLine, meaning, IsHeaderOf, Begins}
use Rattle.frame_core.specs.Spelling.{IsNumber, announced}
use Rattle.frame_core.specs.Parts.{IsPartOfHead, IsBoundedHead, IsPartOfBody, Plans}

-- Each fact below says of bytes that they end at the very byte that decides a fault.

-- a NUL in a line, or a byte other than LF after a CR
pub record HasStrayByte (bytes : List ℕ) : Type 0 where
  pub front : List ℕ
  pub last : ℕ
  pub whole : bytes ≡ front ++ last ∷ []
  pub part : IsPartOfHead front
  pub plain : part.with_cr ≡ false → last ≡ 0
  pub behind_cr : part.with_cr ≡ true → last ≢ 10
  pub size : length bytes ≤ 8192

-- the 8,193rd byte of a head
pub record HasLongHead (bytes : List ℕ) : Type 0 where
  pub front : List ℕ
  pub last : ℕ
  pub whole : bytes ≡ front ++ last ∷ []
  pub part : IsPartOfHead front
  pub full : length front ≡ 8192

-- a whole first line, which is not empty
pub record IsFirstLine (text bytes : List ℕ) : Type 0 where
  pub with_cr : Bool
  pub whole : bytes ≡ text ++ eol with_cr
  pub some_byte : 0 < length text
  pub each : AllByRecursion IsInLine text
  pub size : length bytes ≤ 8192

-- a command line that is not UTF-8
abbrev pub HasBrokenCommand : List ℕ → Type 0
HasBrokenCommand bytes = (text : List ℕ) × IsFirstLine text bytes × (IsUtf8 text → ⊥)

-- a command line that names no command
abbrev pub HasNoCommand : List ℕ → Type 0
HasNoCommand bytes = (text : List ℕ) × IsFirstLine text bytes × IsUtf8 text × ((verb : Verb) → name_of verb ≢ text)

-- after a command line and headers one more line, which is not empty
pub record IsNextLine (verb : Verb) (headers : List (List ℕ × List ℕ)) (text bytes : List ℕ) : Type 0 where
  pub lines : List ℕ
  pub with_cr : Bool
  pub whole : bytes ≡ lines ++ (text ++ eol with_cr)
  pub begins : Begins verb headers lines
  pub count : length headers ≤ 64
  pub each : AllByRecursion IsInLine text
  pub some_byte : 0 < length text
  pub size : length bytes ≤ 8192

-- a line of headers with no colon, or with no name before it
abbrev pub HasNamelessLine : List ℕ → Type 0
HasNamelessLine bytes = (verb : Verb) × (headers : List (List ℕ × List ℕ)) × (text : List ℕ) × IsNextLine verb headers text bytes
    × (AllByRecursion (λ b. b ≢ 58) text ⊎ ((value : List ℕ) × (text ≡ 58 ∷ value)))

-- after a command line and headers one more line with a name and a value
pub record IsNextHeader (verb : Verb) (headers : List (List ℕ × List ℕ)) (line : HeaderLine) (bytes : List ℕ) : Type 0 where
  pub lines : List ℕ
  pub whole : bytes ≡ lines ++ line_of line
  pub begins : Begins verb headers lines
  pub count : length headers ≤ 64
  pub form : IsHeaderLine line
  pub size : length bytes ≤ 8192

-- a name or value with an undefined escape, or one that is cut short
abbrev pub HasBadEscape : List ℕ → Type 0
HasBadEscape bytes = (verb : Verb) × (headers : List (List ℕ × List ℕ)) × (line : HeaderLine) × IsNextHeader verb headers line bytes
    × ((meaning verb line.name ≡ None) ⊎ (meaning verb line.value ≡ None))

-- a name or value that is not UTF-8
abbrev pub HasBrokenHeader : List ℕ → Type 0
HasBrokenHeader bytes = (verb : Verb) × (headers : List (List ℕ × List ℕ)) × (line : HeaderLine) × (header : List ℕ × List ℕ) × IsNextHeader verb headers line bytes
    × (meaning verb line.name ≡ Some header.0) × (meaning verb line.value ≡ Some header.1)
    × ((IsUtf8 header.0 → ⊥) ⊎ (IsUtf8 header.1 → ⊥))

-- the 65th header
abbrev pub HasTooManyHeaders : List ℕ → Type 0
HasTooManyHeaders bytes = (verb : Verb) × (headers : List (List ℕ × List ℕ)) × (line : HeaderLine) × (header : List ℕ × List ℕ) × IsNextHeader verb headers line bytes
    × IsHeaderOf verb line header × (length headers ≡ 64)

-- a head whose announced length is no number of one to ten digits
abbrev pub HasBadLength : List ℕ → Type 0
HasBadLength bytes = (verb : Verb) × (headers : List (List ℕ × List ℕ)) × (text : List ℕ) × IsBoundedHead verb headers bytes
    × (announced headers ≡ Some text) × ((IsNumeral 10 text → ⊥) ⊎ (10 < length text))

-- a head that announces a number of one to ten digits
abbrev pub Announces : Verb → ℕ → List ℕ → Type 0
Announces verb n bytes = (headers : List (List ℕ × List ℕ)) × (text : List ℕ) × IsBoundedHead verb headers bytes
    × (announced headers ≡ Some text) × IsNumber text n × (length text ≤ 10)

-- a head that announces more bytes than a body may have
abbrev pub HasLongLength : List ℕ → Type 0
HasLongLength bytes = (verb : Verb) × (n : ℕ) × Announces verb n bytes × (65536 < n)

-- a head that announces a body where none may stand
abbrev pub HasWrongLength : List ℕ → Type 0
HasWrongLength bytes = (verb : Verb) × (n : ℕ) × Announces verb n bytes × (0 < n) × (n ≤ 65536) × (has_body verb ≡ false)

-- a whole head, a body so far, and one more byte
pub record IsNextByte (verb : Verb) (plan : Option ℕ) (body : List ℕ) (last : ℕ) (bytes : List ℕ) : Type 0 where
  pub headers : List (List ℕ × List ℕ)
  pub head : List ℕ
  pub whole : bytes ≡ head ++ (body ++ last ∷ [])
  pub is_head : IsBoundedHead verb headers head
  pub plans : Plans verb headers plan
  pub is_part : IsPartOfBody verb plan body

-- a byte other than NUL after a body of the announced length
abbrev pub HasNoEnd : List ℕ → Type 0
HasNoEnd bytes = (verb : Verb) × (body : List ℕ) × (last : ℕ) × IsNextByte verb (Some (length body)) body last bytes × (last ≢ 0)

-- the 65,537th byte of a body whose length is not announced
abbrev pub HasLongBody : List ℕ → Type 0
HasLongBody bytes = (verb : Verb) × (body : List ℕ) × (last : ℕ) × IsNextByte verb None body last bytes × (last ≢ 0)
    × (has_body verb ≡ true) × (length body ≡ 65536)

-- a byte where no body may stand
abbrev pub HasWrongBody : List ℕ → Type 0
HasWrongBody bytes = (verb : Verb) × (last : ℕ) × IsNextByte verb None [] last bytes × (last ≢ 0) × (has_body verb ≡ false)

-- The bytes end where they decide this fault.
abbrev pub Faulty : FrameFault → List ℕ → Type 0
Faulty Malformed bytes = HasStrayByte bytes ⊎ (HasNamelessLine bytes ⊎ HasNoEnd bytes)
Faulty TooLarge bytes = HasLongHead bytes ⊎ (HasTooManyHeaders bytes ⊎ (HasLongLength bytes ⊎ HasLongBody bytes))
Faulty UndefinedEscape bytes = HasBadEscape bytes
Faulty UnknownCommand bytes = HasNoCommand bytes
Faulty BodyNotAllowed bytes = HasWrongLength bytes ⊎ HasWrongBody bytes
Faulty BadHeaderValue bytes = HasBrokenCommand bytes ⊎ (HasBrokenHeader bytes ⊎ HasBadLength bytes)
