use Rattle.std.specs.Prelude.{List, ◌∷◌, [], ◌++◌, ℕ, cond, flat_map}
use Rattle.std.specs.Str.{IsUtf8}
use Rattle.escape_core.specs.Escapes.{escaped}
use Rattle.frame_core.specs.declared.frame.Frame.{Frame}
use Rattle.frame_core.specs.declared.frame.Verb.{Verb}
use Rattle.frame_core.specs.Verbs.{name_of, is_raw}

-- both parts of a header are UTF-8
abbrev pub IsText : List ℕ × List ℕ → Type 0
IsText h = IsUtf8 h.0 × IsUtf8 h.1

-- a name or value as it is written under a command: with its escapes, but as it is under CONNECT, STOMP and CONNECTED
abbrev pub code : Verb → List ℕ → List ℕ
code verb text = cond (is_raw verb) text (escaped text)

-- a header line as it is written
abbrev pub written_header : Verb → List ℕ × List ℕ → List ℕ
written_header verb h = code verb h.0 ++ (58 ∷ (code verb h.1 ++ 10 ∷ []))

-- a head as it is written
abbrev pub written_head : Verb → List (List ℕ × List ℕ) → List ℕ
written_head verb headers = name_of verb ++ (10 ∷ (flat_map (written_header verb) headers ++ 10 ∷ []))

-- a frame as it is written: its lines end with LF alone, and no EOL stands after its NUL
abbrev pub written : Frame → List ℕ
written f = written_head f.verb f.headers ++ (f.body ++ 0 ∷ [])
