-- What is written is UTF-8 if all its parts are.
use Rattle.std.proofs.Common.{◌<◌, ◌++◌, ◌∷◌, [], ℕ, List, arith, flat_map}
use Rattle.std.specs.List.{AllByRecursion}
use Rattle.std.specs.Str.{IsUtf8}
use Rattle.std.proofs.lemmas.Str.{IsUtf8-nil, IsUtf8-append}
use Rattle.frame_core.specs.declared.frame.Frame.{Frame}
use Rattle.frame_core.specs.declared.frame.Verb.{Verb}
use Rattle.frame_core.specs.Verbs.{name_of}
use Rattle.frame_core.specs.Written.{IsText, code, written, written_head, written_header}
use Rattle.frame_core.proofs.Meanings.{ascii_utf8, stands_utf8}
use Rattle.frame_core.proofs.Writing.{meaning-code}

code_text : (verb : Verb) (text : List ℕ) → IsUtf8 text → IsUtf8 (code verb text)
code_text verb text utf8 = stands_utf8 verb (code verb text) text (meaning-code verb text) utf8

-- one byte of ASCII more, in front or at the end
pub behind_ascii : (b : ℕ) (text : List ℕ) → b < 128 → IsUtf8 text → IsUtf8 (b ∷ text)
behind_ascii b text low utf8 = IsUtf8-append (b ∷ []) text (ascii_utf8 b low) utf8

before_ascii : (text : List ℕ) (b : ℕ) → b < 128 → IsUtf8 text → IsUtf8 (text ++ b ∷ [])
before_ascii text b low utf8 = IsUtf8-append text (b ∷ []) utf8 (ascii_utf8 b low)

-- bytes of ASCII are UTF-8
pub ascii_text : (bytes : List ℕ) → AllByRecursion (λ b. b < 128) bytes → IsUtf8 bytes
ascii_text [] low = IsUtf8-nil
ascii_text (b ∷ bytes) low = behind_ascii b bytes low.0 (ascii_text bytes low.1)

line_text : (verb : Verb) (h : List ℕ × List ℕ) → IsText h → IsUtf8 (written_header verb h)
line_text verb h text =
    IsUtf8-append (code verb h.0) (58 ∷ (code verb h.1 ++ 10 ∷ [])) (code_text verb h.0 text.0)
    (behind_ascii 58 (code verb h.1 ++ 10 ∷ []) (omega arith) (before_ascii (code verb h.1) 10 (omega arith) (code_text verb h.1 text.1)))

lines_text : (verb : Verb) (headers : List (List ℕ × List ℕ)) → AllByRecursion IsText headers → IsUtf8 (flat_map (written_header verb) headers)
lines_text verb [] texts = IsUtf8-nil
lines_text verb (h ∷ headers) texts =
    IsUtf8-append (written_header verb h) (flat_map (written_header verb) headers) (line_text verb h texts.0) (lines_text verb headers texts.1)

-- a frame whose headers and body are UTF-8 is UTF-8 as it is written
pub written_text : (f : Frame) → IsUtf8 (name_of f.verb) → AllByRecursion IsText f.headers → IsUtf8 f.body → IsUtf8 (written f)
written_text f name texts body =
    let lines = flat_map (written_header f.verb) f.headers in
    IsUtf8-append (written_head f.verb f.headers) (f.body ++ 0 ∷ [])
    (IsUtf8-append (name_of f.verb) (10 ∷ (lines ++ 10 ∷ [])) name (behind_ascii 10 (lines ++ 10 ∷ []) (omega arith) (before_ascii lines 10 (omega arith) (lines_text f.verb f.headers texts))))
    (before_ascii f.body 0 (omega arith) body)
