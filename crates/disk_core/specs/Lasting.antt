-- What each call keeps of a disk.
use Rattle.std.specs.Prelude.{◌≡◌, ℕ, List, length}

-- The disk has as many bytes as before, and is honest just if it was.
pub record Remains {D : Type 0} (content : D → List ℕ) (is_honest : D → Type 0) (old new : D) : Type 0 where
  pub size : length (content new) ≡ length (content old)
  pub honest : is_honest old → is_honest new
  pub was_honest : is_honest new → is_honest old
