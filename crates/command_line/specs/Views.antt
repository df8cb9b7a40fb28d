-- A file that is only read.
use Rattle.std.specs.Prelude.{List, ℕ, replicate}

-- so many zeros: of a file's bytes nothing is known but how many they are
abbrev pub zeros : ℕ → List ℕ
zeros size = replicate size 0
