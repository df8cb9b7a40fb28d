use Rattle.std.specs.Prelude.{◌≡◌, ◌≢◌, ◌<◌, ◌≤◌, ◌⊎◌, List, ◌∷◌, ◌++◌, ℕ, Bool, false, Some, None, length, ⊤}
use Rattle.std.specs.List.{AllByRecursion}
use Rattle.std.specs.Str.{IsUtf8}
use Rattle.std.specs.Str.Parse.{IsNumeral}
use Rattle.frame_core.specs.declared.frame.Verb.{Verb}
use Rattle.frame_core.specs.declared.fault.FrameFault.{FrameFault}
use Rattle.frame_core.specs.declared.fault.FrameFault.TheVariants.{Malformed, TooLarge, UndefinedEscape, UnknownCommand, BodyNotAllowed, BadHeaderValue}
use Rattle.frame_core.specs.declared.reader.Stop.{Stop}
use Rattle.frame_core.specs.declared.reader.Stop.TheVariants.{Memory, Fault}
use Rattle.frame_core.specs.Verbs.{name_of, has_body}
use Rattle.frame_core.specs.Heads.{HeaderLine, IsHeaderLine, meaning, IsHeaderOf}
use Rattle.frame_core.specs.Spelling.{IsNumber, announced}

-- a fact of the fault, if it is one
abbrev pub IfFault : Stop → (FrameFault → Type 0) → Type 0
IfFault Memory P = ⊤
IfFault (Fault fault) P = P fault

-- why the text is no command
abbrev pub IsCommandFault : List ℕ → FrameFault → Type 0
IsCommandFault text BadHeaderValue = IsUtf8 text → ⊥
IsCommandFault text UnknownCommand = IsUtf8 text × ((verb : Verb) → name_of verb ≢ text)
IsCommandFault text _ = ⊥

-- the line with that end
abbrev pub ended : List ℕ → List ℕ → Bool → HeaderLine
ended name value with_cr = record { name = name; value = value; with_cr = with_cr }

-- the text is a header line but for its end
abbrev pub IsHeaderText : Verb → List ℕ → List ℕ × List ℕ → Type 0
IsHeaderText verb text header = (name : List ℕ) × (value : List ℕ) × (text ≡ name ++ (58 ∷ value)) × IsHeaderOf verb (ended name value false) header

-- the text is a name and a value, in a form that a line may have
abbrev pub IsNameAndValue : List ℕ → List ℕ → List ℕ → Type 0
IsNameAndValue text name value = (text ≡ name ++ (58 ∷ value)) × IsHeaderLine (ended name value false)

-- why the text is no header line
abbrev pub IsHeaderFault : Verb → List ℕ → FrameFault → Type 0
IsHeaderFault verb text Malformed = AllByRecursion (λ b. b ≢ 58) text ⊎ ((value : List ℕ) × (text ≡ 58 ∷ value))
IsHeaderFault verb text UndefinedEscape = (name : List ℕ) × (value : List ℕ) × IsNameAndValue text name value × ((meaning verb name ≡ None) ⊎ (meaning verb value ≡ None))
IsHeaderFault verb text BadHeaderValue = (name : List ℕ) × (value : List ℕ) × (header : List ℕ × List ℕ) × IsNameAndValue text name value
    × (meaning verb name ≡ Some header.0) × (meaning verb value ≡ Some header.1) × ((IsUtf8 header.0 → ⊥) ⊎ (IsUtf8 header.1 → ⊥))
IsHeaderFault verb text _ = ⊥

-- why the headers announce no body that is allowed
abbrev pub IsPlanFault : Verb → List (List ℕ × List ℕ) → FrameFault → Type 0
IsPlanFault verb headers BadHeaderValue = (text : List ℕ) × (announced headers ≡ Some text) × ((IsNumeral 10 text → ⊥) ⊎ (10 < length text))
IsPlanFault verb headers TooLarge = (text : List ℕ) × (n : ℕ) × (announced headers ≡ Some text) × IsNumber text n × (length text ≤ 10) × (65536 < n)
IsPlanFault verb headers BodyNotAllowed = (text : List ℕ) × (n : ℕ) × (announced headers ≡ Some text) × IsNumber text n × (length text ≤ 10) × (0 < n) × (n ≤ 65536) × (has_body verb ≡ false)
IsPlanFault verb headers _ = ⊥
