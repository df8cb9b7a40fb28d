use Rattle.std.specs.Prelude.{◌≡◌, ◌≤◌, ◌⊎◌, List, [], ◌∷◌, ◌++◌, ℕ, Bool, false, Option, Some, None, length, cond}
use Rattle.std.specs.List.{AllByRecursion}
use Rattle.frame_core.specs.declared.frame.Verb.{Verb}
use Rattle.frame_core.specs.Verbs.{has_body}
use Rattle.frame_core.specs.Heads.{IsInLine, Begins, IsHead}
use Rattle.frame_core.specs.Spelling.{IsNumber, announced}
use Rattle.frame_core.specs.Writable.{HasNoNul}

-- whole lines of a head that isn't ended, within the limit of 64 headers, or nothing yet
abbrev pub IsBegun : List ℕ → Type 0
IsBegun bytes = (bytes ≡ []) ⊎ ((verb : Verb) × (headers : List (List ℕ × List ℕ)) × Begins verb headers bytes × (length headers ≤ 64))

-- A part of a head that decides nothing yet: whole lines and a part of the next one, perhaps with the CR of its end,
-- in at most 8,192 bytes. Between two frames it is nothing, or a CR.
pub record IsPartOfHead (bytes : List ℕ) : Type 0 where
  pub lines : List ℕ
  pub part : List ℕ
  pub with_cr : Bool
  pub whole : bytes ≡ lines ++ (part ++ cond with_cr (13 ∷ []) [])
  pub begun : IsBegun lines
  pub each : AllByRecursion IsInLine part
  pub size : length bytes ≤ 8192

-- a whole head within the limits
pub record IsBoundedHead (verb : Verb) (headers : List (List ℕ × List ℕ)) (head : List ℕ) : Type 0 where
  pub is_head : IsHead verb headers head
  pub size : length head ≤ 8192
  pub count : length headers ≤ 64

-- the headers announce a body of that length, within the limits and where one may stand
pub record IsAnnounced (verb : Verb) (headers : List (List ℕ × List ℕ)) (n : ℕ) : Type 0 where
  pub text : List ℕ
  pub announced : announced headers ≡ Some text
  pub number : IsNumber text n
  pub digits : length text ≤ 10
  pub size : n ≤ 65536
  pub allowed : has_body verb ≡ false → n ≡ 0

-- how a body ends: after so many bytes if they are announced, or else at its first NUL
abbrev pub Plans : Verb → List (List ℕ × List ℕ) → Option ℕ → Type 0
Plans verb headers None = announced headers ≡ None
Plans verb headers (Some n) = IsAnnounced verb headers n

-- a part of a body that decides nothing yet
abbrev pub IsPartOfBody : Verb → Option ℕ → List ℕ → Type 0
IsPartOfBody verb None part = HasNoNul part × (length part ≤ 65536) × (has_body verb ≡ false → part ≡ [])
IsPartOfBody verb (Some n) part = length part ≤ n

-- a whole head and a part of the body after it
pub record IsHeadAndPart (bytes : List ℕ) : Type 0 where
  pub verb : Verb
  pub headers : List (List ℕ × List ℕ)
  pub head : List ℕ
  pub plan : Option ℕ
  pub part : List ℕ
  pub whole : bytes ≡ head ++ part
  pub is_head : IsBoundedHead verb headers head
  pub plans : Plans verb headers plan
  pub is_part : IsPartOfBody verb plan part

-- the beginning of a frame that is neither whole nor faulty yet, or nothing
abbrev pub IsUnfinished : List ℕ → Type 0
IsUnfinished bytes = IsPartOfHead bytes ⊎ IsHeadAndPart bytes
