use Rattle.std.specs.Prelude.{◌<◌, ◌≤◌, List, ℕ, Option, IfSome, length}
use Rattle.frame_core.specs.Writable.{HasNoNul}

-- a text that may stand in a header: no NUL, and at most 8,192 bytes, as many as a frame's head may have
pub record IsHeaderText (text : List ℕ) : Type 0 where
  pub no_nul : HasNoNul text
  pub short : length text ≤ 8192

-- a name that is given isn't empty
abbrev pub IsGiven : Option (List ℕ) → Type 0
IsGiven name = IfSome name (λ text. 0 < length text)
