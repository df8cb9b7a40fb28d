use Rattle.std.specs.Prelude.{◌≡◌, List, [], ◌∷◌, ◌++◌, ℕ, Bool, flat_map}
use Rattle.frame_core.specs.declared.frame.Frame.{Frame}
use Rattle.frame_core.specs.declared.fault.FrameFault.{FrameFault}
use Rattle.frame_core.specs.Heads.{eol}
use Rattle.frame_core.specs.Spelling.{Spells, IsWithinLimits}
use Rattle.frame_core.specs.Parts.{IsUnfinished}
use Rattle.frame_core.specs.Faults.{Faulty}

-- The stream begins with spellings of these frames, each after any number of ends of lines, and then comes the rest.
-- (STOMP 1.2, "Augmented BNF": the EOLs after a frame)
abbrev pub Frames : List ℕ → List Frame → List ℕ → Type 0
Frames stream [] rest = (gaps : List Bool) × (stream ≡ flat_map eol gaps ++ rest)
Frames stream (frame ∷ frames) rest = (gaps : List Bool) × (bytes : List ℕ) × (more : List ℕ) × Spells bytes frame × IsWithinLimits bytes frame
    × (stream ≡ flat_map eol gaps ++ (bytes ++ more)) × Frames more frames rest

-- the stream is these frames and the beginning of one more
abbrev pub Reads : List ℕ → List Frame → List ℕ → Type 0
Reads stream frames rest = Frames stream frames rest × IsUnfinished rest

-- after these frames the stream has that fault, decided at the last byte of `bad`
abbrev pub Fails : List ℕ → List Frame → FrameFault → Type 0
Fails stream frames fault = (bad : List ℕ) × (after : List ℕ) × Frames stream frames (bad ++ after) × Faulty fault bad

-- The bytes are read as the frame. Whatever follows them, what is read of both begins with the frame.
pub record IsReadFirst (bytes : List ℕ) (frame : Frame) : Type 0 where
  pub alone : Reads bytes (frame ∷ []) []
  pub reads : (more : List ℕ) (frames : List Frame) (rest : List ℕ) → Reads (bytes ++ more) frames rest
      → (others : List Frame) × (frames ≡ frame ∷ others) × Reads more others rest
  pub fails : (more : List ℕ) (frames : List Frame) (fault : FrameFault) → Fails (bytes ++ more) frames fault
      → (others : List Frame) × (frames ≡ frame ∷ others) × Fails more others fault
