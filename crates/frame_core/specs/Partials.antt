use Rattle.std.specs.Prelude.{◌≡◌, ◌<◌, ◌≤◌, ◌+◌, List, [], ◌∷◌, ◌++◌, ℕ, Bool, false, length, take, cond, ⊤}
use Rattle.std.specs.List.{AllByRecursion}
use Rattle.frame_core.specs.declared.frame.Frame.{Frame}
use Rattle.frame_core.specs.declared.frame.Verb.{Verb}
use Rattle.frame_core.specs.declared.reader.Section.{Section}
use Rattle.frame_core.specs.declared.reader.Section.TheVariants.{Command, HeaderLines, Body}
use Rattle.frame_core.specs.declared.reader.Partial.{Partial}
use Rattle.frame_core.specs.Heads.{IsInLine, Begins}
use Rattle.frame_core.specs.Parts.{IsBoundedHead, Plans, IsPartOfBody}
use Rattle.frame_core.specs.Streams.{Frames}

-- after whole lines a part of one more, perhaps with the CR of its end
pub record IsLine (head : List ℕ) (line : ℕ) (with_cr : Bool) (lines : List ℕ) : Type 0 where
  pub part : List ℕ
  pub whole : head ≡ lines ++ (part ++ cond with_cr (13 ∷ []) [])
  pub start : length lines ≡ line
  pub each : AllByRecursion IsInLine part
  pub size : length head ≤ 8192

-- what is known of an unfinished frame at each section
abbrev pub IsAt : Section → List ℕ → ℕ → Bool → List (List ℕ × List ℕ) → List ℕ → Type 0
IsAt Command head line with_cr headers body = IsLine head line with_cr [] × (headers ≡ []) × (body ≡ [])
IsAt (HeaderLines verb) head line with_cr headers body = (lines : List ℕ) × IsLine head line with_cr lines × Begins verb headers lines × (length headers ≤ 64) × (body ≡ [])
IsAt (Body verb plan) head line with_cr headers body = IsBoundedHead verb headers head × Plans verb headers plan × IsPartOfBody verb plan body

-- the fields of an unfinished frame say what its bytes are, at a section
abbrev pub IsKeptAt : Section → Partial → Type 0
IsKeptAt section p = IsAt section p.head.items p.line p.with_cr p.headers.items p.body.items

-- the fields of an unfinished frame say what its bytes are, at its section
abbrev pub IsKept : Partial → Type 0
IsKept p = IsKeptAt p.section p

-- its bytes
abbrev pub bytes_of : Partial → List ℕ
bytes_of p = p.head.items ++ p.body.items

-- its head isn't whole
abbrev pub IsInHead : Section → Type 0
IsInHead (Body verb plan) = ⊥
IsInHead section = ⊤

-- With so many bytes of the piece the frames grow by those that they end, and the new unfinished frame is what is
-- left of them.
pub record Advances (old new : Partial) (had have : List Frame) (piece : List ℕ) (count : ℕ) : Type 0 where
  pub done : List Frame
  pub some_byte : 0 < count
  pub within : count ≤ length piece
  pub frames : have ≡ had ++ done
  pub reads : Frames (bytes_of old ++ take count piece) done (bytes_of new)
  pub kept : IsKept new

-- With so many bytes of the piece no frame ends, and the new unfinished frame has them too.
pub record AdvancesHead (old new : Partial) (piece : List ℕ) (count : ℕ) : Type 0 where
  pub some_byte : 0 < count
  pub within : count ≤ length piece
  pub reads : Frames (bytes_of old ++ take count piece) [] (bytes_of new)
  pub kept : IsKept new

-- the line is ended with its LF, and the next begins
pub record IsNextLineOf (section : Section) (old new : Partial) : Type 0 where
  pub section_is : new.section ≡ section
  pub head : new.head.items ≡ old.head.items ++ 10 ∷ []
  pub line : new.line ≡ length old.head.items + 1
  pub no_cr : new.with_cr ≡ false
  pub headers : new.headers.items ≡ old.headers.items
  pub body : new.body.items ≡ old.body.items

-- the frame that its fields make
abbrev pub frame_of : Verb → Partial → Frame
frame_of verb p = record { verb = verb; headers = p.headers.items; body = p.body.items }
