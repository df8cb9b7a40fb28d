-- How the parts of records are spelled. Numbers are big-endian and unsigned.
use Rattle.std.specs.Prelude.{◌<◌, List, ◌∷◌, [], ◌++◌, ℕ, Option, Some, None, IsUtf8, length}
use Rattle.std.specs.Int.{w16, w32, to_be_bytes}
use Rattle.std.specs.List.{AllByRecursion, flat_map}
use Rattle.command_core.specs.declared.command.AckMode.{AckMode}
use Rattle.command_core.specs.declared.command.AckMode.TheVariants.{Auto, Client, ClientIndividual}
use Rattle.command_core.specs.Sendings.{IsSending, SendingValue}
use Rattle.command_core.specs.Texts.{IsHeaderText}

-- how many bytes, in four bytes, and the bytes themselves
abbrev pub counted : List ℕ → List ℕ
counted bytes = to_be_bytes w32 (length bytes) ++ bytes

-- a text that may be absent: the byte 0, or the byte 1 and the text
abbrev pub optional : Option (List ℕ) → List ℕ
optional None = 0 ∷ []
optional (Some text) = 1 ∷ counted text

-- the name of a header and its value
abbrev pub pair : List ℕ × List ℕ → List ℕ
pair h = counted h.0 ++ counted h.1

-- how many headers, in two bytes, and each of them
abbrev pub headers : List (List ℕ × List ℕ) → List ℕ
headers hs = to_be_bytes w16 (length hs) ++ flat_map pair hs

-- what is sent: destination, headers, body
abbrev pub sending : SendingValue → List ℕ
sending s = counted s.destination ++ headers s.headers ++ counted s.body

-- a mode of acknowledgement
abbrev pub mode_byte : AckMode → ℕ
mode_byte Auto = 0
mode_byte Client = 1
mode_byte ClientIndividual = 2

-- What may stand there.

-- a text of a record: UTF-8 without NUL, of at most 8,192 bytes
pub record IsText (text : List ℕ) : Type 0 where
  pub utf8 : IsUtf8 text
  pub form : IsHeaderText text

-- numbers that are bytes
abbrev pub AreBytes : List ℕ → Type 0
AreBytes bytes = AllByRecursion (λ byte. byte < 256) bytes

-- a header's name and value are such texts
abbrev pub AreTexts : List ℕ × List ℕ → Type 0
AreTexts h = IsText h.0 × IsText h.1

-- a message of a record: its form is that of what is sent, in texts and bytes
pub record IsSent (s : SendingValue) : Type 0 where
  pub form : IsSending s
  pub texts : AllByRecursion AreTexts s.headers
  pub body : AreBytes s.body
