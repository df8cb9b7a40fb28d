-- What a stop may leave of a disk: a set of byte lists, and what the calls do to it.
use Rattle.std.specs.Prelude.{◌≡◌, ℕ, ◌+◌, List, ◌++◌, length, take, drop, slice_index, slice_index_or, Option, None}

-- old with these bytes written over it from an offset on
abbrev pub patched : {A : Type 0} → ℕ → List A → List A → List A
patched at bytes old = take at old ++ bytes ++ drop (at + length bytes) old

-- new is old but for a range of n bytes, which may hold anything
pub record Torn (at n : ℕ) (old new : List ℕ) : Type 0 where
  pub size : length new ≡ length old
  pub before : take at new ≡ take at old
  pub after : drop (at + n) new ≡ drop (at + n) old

-- the byte at i is not unsynced: nothing is held of it
abbrev pub IsStable : List (Option ℕ) → ℕ → Type 0
IsStable held i = slice_index_or held i None ≡ None

-- The bytes that a stop may leave: the size stays, an unsynced byte may be any, and every other is as it reads. For
-- each byte that is unsynced, `held` has what it held at the last sync.
pub record IsImage (content : List ℕ) (held : List (Option ℕ)) (image : List ℕ) : Type 0 where
  pub size : length image ≡ length content
  pub stable : (i : ℕ) → IsStable held i → slice_index image i ≡ slice_index content i

-- each new image is an old one after a step
abbrev pub Follows : (List ℕ → List ℕ → Type 0) → (List ℕ → Type 0) → (List ℕ → Type 0) → Type 0
Follows step old new = (c : List ℕ) → new c → (d : List ℕ) × old d × step d c

-- each of these images is one of those
abbrev pub Within : (List ℕ → Type 0) → (List ℕ → Type 0) → Type 0
Within these those = (c : List ℕ) → these c → those c

-- the new images are the old ones with any bytes in a range: all of these, and no others
pub record Frees (at n : ℕ) (old new : List ℕ → Type 0) : Type 0 where
  pub only : Follows (Torn at n) old new
  pub every : (d c : List ℕ) → old d → Torn at n d c → new c

-- the images stay
pub record Same (old new : List ℕ → Type 0) : Type 0 where
  pub no_more : Within new old
  pub no_fewer : Within old new

-- a stop leaves this and nothing else
abbrev pub Only : List ℕ → (List ℕ → Type 0) → Type 0
Only content images = (c : List ℕ) → images c → c ≡ content
