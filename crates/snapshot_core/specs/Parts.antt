-- The parts that a snapshot is written by.
use Rattle.std.specs.Prelude.{List, [], ◌∷◌, ℕ}
use Rattle.std.specs.Int.{w32, w64, to_be_bytes}
use Rattle.std.specs.List.{flat_map}
use Rattle.command_core.specs.PartSpellings.{counted, sending}
use Rattle.snapshot_core.specs.declared.writing.Part.{Part}
use Rattle.snapshot_core.specs.declared.writing.Part.TheVariants.{Number, Count, Byte, Text, Destination, Sending}

-- what one part spells
abbrev pub spelled_by : Part → List ℕ
spelled_by (Number n) = to_be_bytes w64 n
spelled_by (Count n) = to_be_bytes w32 n
spelled_by (Byte b) = b ∷ []
spelled_by (Text text) = counted text.now
spelled_by (Destination to) = counted to.now
spelled_by (Sending s) = sending s.now

-- what parts spell, one after the other
abbrev pub written : List Part → List ℕ
written parts = flat_map spelled_by parts
