-- A snapshot that is written between an area's first word and a closed gate, piece by piece.
use Rattle.std.specs.Prelude.{◌==◌, ℕ, List, [], ◌∷◌, ◌++◌, cond}
use Rattle.std.specs.Int.{w64, to_be_bytes}
use Rattle.area_core.specs.declared.version.Version.TheVariants.{Two}
use Rattle.area_core.specs.Areas.{word_of}

-- before the snapshot's first byte, eight bytes that give the second version and the snapshot's length
abbrev pub heading : ℕ → ℕ → List ℕ
heading at total = cond (at == 0) (to_be_bytes w64 (word_of Two total)) []

-- what is still to be written, once `at` bytes are written and these are still to come
abbrev pub closing : ℕ → ℕ → List ℕ → List ℕ
closing at total coming = heading at total ++ (coming ++ 0 ∷ [])
