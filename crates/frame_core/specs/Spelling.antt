use Rattle.std.specs.Prelude.{◌≡◌, ◌+◌, ◌≤◌, List, [], ◌∷◌, ◌++◌, ℕ, false, Option, length, MatchOption, IfSome, codes}
use Rattle.std.specs.Str.Parse.{IsNumeral, digits_value}
use Rattle.frame_core.specs.declared.frame.Frame.{Frame}
use Rattle.frame_core.specs.declared.frame.Verb.{Verb}
use Rattle.frame_core.specs.Verbs.{has_body}
use Rattle.frame_core.specs.Heads.{IsHead}
use Rattle.frame_core.specs.Writable.{HasNoNul, first_of}

-- the text is that number in decimal digits, one or more
abbrev pub IsNumber : List ℕ → ℕ → Type 0
IsNumber text n = IsNumeral 10 text × (digits_value 10 text ≡ n)

-- the length that the headers announce, as it stands
abbrev pub announced : List (List ℕ × List ℕ) → Option (List ℕ)
announced headers = first_of (codes "content-length") headers

-- STOMP 1.2, "Body" and "Header content-length": a body has the announced length, or no NUL; and only some commands have one
pub record HasBody (verb : Verb) (headers : List (List ℕ × List ℕ)) (body : List ℕ) : Type 0 where
  pub ends : MatchOption (announced headers) (HasNoNul body) (λ text. IsNumber text (length body))
  pub allowed : has_body verb ≡ false → body ≡ []

-- The bytes spell the frame: a head, a body and a NUL. (STOMP 1.2, "Augmented BNF")
pub record Spells (bytes : List ℕ) (frame : Frame) : Type 0 where
  pub head : List ℕ
  pub whole : bytes ≡ head ++ (frame.body ++ 0 ∷ [])
  pub is_head : IsHead frame.verb frame.headers head
  pub has_body : HasBody frame.verb frame.headers frame.body

-- The limits of this broker: 8,192 bytes up to the empty line's end, 64 headers, 65,536 bytes of body, and ten
-- digits of its announced length.
pub record IsWithinLimits (bytes : List ℕ) (frame : Frame) : Type 0 where
  pub head : length bytes ≤ 8192 + length frame.body + 1
  pub headers : length frame.headers ≤ 64
  pub body : length frame.body ≤ 65536
  pub digits : IfSome (announced frame.headers) (λ text. length text ≤ 10)
