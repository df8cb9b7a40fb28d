use Rattle.std.specs.Prelude.{◌≡◌, ◌≢◌, ◌<◌, List, [], ℕ, Option, length, MatchOption, codes, true, false}
use Rattle.std.specs.List.{AllByRecursion}
use Rattle.std.specs.Map.{lookup}
use Rattle.std.specs.Str.{bytes_eq}
use Rattle.std.specs.Fmt.{decimal}
use Rattle.frame_core.specs.declared.frame.Frame.{Frame}
use Rattle.frame_core.specs.Verbs.{is_raw, has_body}

-- no NUL stands in it
abbrev pub HasNoNul : List ℕ → Type 0
HasNoNul text = AllByRecursion (λ b. b ≢ 0) text

-- it may stand in a header line as it is: no CR and no LF
abbrev pub IsOneLine : List ℕ → Type 0
IsOneLine text = AllByRecursion (λ b. (b ≢ 10) × (b ≢ 13)) text

-- the value of the first header of that name, which is the one that counts (STOMP 1.2, "Repeated Header Entries")
abbrev pub first_of : List ℕ → List (List ℕ × List ℕ) → Option (List ℕ)
first_of name headers = lookup (bytes_eq name) headers

-- a header that can be written in a frame of any command
pub record IsHeader (h : List ℕ × List ℕ) : Type 0 where
  pub named : 0 < length h.0
  pub name : HasNoNul h.0
  pub value : HasNoNul h.1

-- a header that can be written with no escapes
pub record IsRawHeader (h : List ℕ × List ℕ) : Type 0 where
  pub name : IsOneLine h.0
  pub no_colon : AllByRecursion (λ b. b ≢ 58) h.0
  pub value : IsOneLine h.1

-- A frame that can be written so that it is read again. Each header has a name, and no NUL stands in a name or value.
-- Frames that aren't escaped have headers of one line with no colon in a name. A body stands only where one may. Its
-- length is announced in decimal, or isn't announced and no NUL stands in it.
pub record Writable (f : Frame) : Type 0 where
  pub headers : AllByRecursion IsHeader f.headers
  pub raw : is_raw f.verb ≡ true → AllByRecursion IsRawHeader f.headers
  pub body : has_body f.verb ≡ false → f.body ≡ []
  pub ends : MatchOption (first_of (codes "content-length") f.headers) (HasNoNul f.body) (λ text. text ≡ decimal (length f.body))
