-- JSON objects (RFC 8259), token by token: no blank stands between tokens, and a line ends behind each object.
use Rattle.std.specs.Prelude.{◌≡◌, ◌++◌, List, [], ◌∷◌, ℕ, None, OnOk, Option, Result, Some}
use Rattle.std.specs.Fmt.{decimal}
use Rattle.std.specs.Io.KnownBytes.{Appends}
use Rattle.json.specs.Print.{print}
use Rattle.json.specs.Token.{Token, begin_array, begin_object, end_array, end_object, key, null, number, string}
use Rattle.json.specs.Written.{Written}

-- an object of these members
abbrev pub object_of : List Token → List Token
object_of members = begin_object ∷ (members ++ end_object ∷ [])

-- a member that is a number
abbrev pub number_member : List ℕ → ℕ → List Token
number_member name n = key name ∷ number (decimal n) ∷ []

-- a member that is a text
abbrev pub text_member : List ℕ → List ℕ → List Token
text_member name text = key name ∷ string text ∷ []

-- a member that is a text if there is one, and else null
abbrev pub option_member : List ℕ → Option (List ℕ) → List Token
option_member name None = key name ∷ null ∷ []
option_member name (Some text) = text_member name text

-- a member that is a list of these objects
abbrev pub list_member : List ℕ → List Token → List Token
list_member name objects = key name ∷ begin_array ∷ (objects ++ end_array ∷ [])

-- what is written so far stays, and these tokens follow it
abbrev pub Adds : {E : Type 0} → Result (Unit {0}) E → Written → Written → List Token → Type 0
Adds result before after tokens = (after.before ≡ before.before) × OnOk result (after.tokens ≡ before.tokens ++ tokens)

-- the line of an object
abbrev pub line_of : List Token → List ℕ
line_of tokens = print tokens ++ 10 ∷ []

-- it was written
abbrev pub WritesLine : List Token → Option (List ℕ) → Option (List ℕ) → Type 0
WritesLine tokens before after = Appends before after (line_of tokens)
