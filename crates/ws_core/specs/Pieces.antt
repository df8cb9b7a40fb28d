-- How a message is fed.
use Rattle.std.specs.Prelude.{◌≡◌, ◌≢◌, ◌≤◌, ◌+◌, ◌++◌, ℕ, List, [], length}

-- A piece of a message, after which these bytes are left: it has 1,024 bytes, or is the last one.
pub record IsPiece (bytes piece left : List ℕ) : Type 0 where
  pub whole : bytes ≡ piece ++ left
  pub most : length piece ≤ 1024
  pub full : left ≢ [] → length piece ≡ 1024

-- what is left of a message, and how many of its bytes were fed and are kept with that
pub record Feeding : Type 0 where
  pub left : List ℕ
  pub fed : ℕ

-- A piece was fed. The message stays whole while something is left, and then nothing of it is kept.
pub record IsFed (old : Feeding) (piece : List ℕ) (new : Feeding) : Type 0 where
  pub piece_is : IsPiece old.left piece new.left
  pub whole : new.left ≢ [] → new.fed ≡ old.fed + length piece
  pub gone : new.left ≡ [] → new.fed ≡ 0
