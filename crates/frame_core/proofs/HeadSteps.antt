use Rattle.std.proofs.Common.{◌≡◌, ◌<◌, ◌≤◌, ◌+◌, ◌-◌, ℕ, List, [], ◌∷◌, ◌++◌, Option, Some, None, Bool, true, false, cond, length, flat_map, refl, sym, ap, ◌∙◌, subst, arith, append_assoc, length-append}
use Rattle.std.proofs.lemmas.List.{append-nil, nil_from_length}
use Rattle.frame_core.specs.declared.frame.Verb.{Verb}
use Rattle.frame_core.specs.declared.reader.Section.TheVariants.{Command, HeaderLines, Body}
use Rattle.frame_core.specs.Verbs.{name_of}
use Rattle.frame_core.specs.Heads.{IsInLine, eol, HeaderLine, line_of, IsHeaderOf, Begins, IsHead}
use Rattle.frame_core.specs.Heads as Heads
use Rattle.frame_core.specs.Parts.{IsBoundedHead, Plans, IsPartOfBody}
use Rattle.frame_core.specs.Stops.{ended, IsHeaderText}
use Rattle.frame_core.specs.Partials.{IsLine, IsAt}
use Rattle.frame_core.specs.Streams.{Frames}
use Rattle.frame_core.proofs.OpenLines.{tail, tail-eol, length-head, with_lf}

-- a line without text is nothing but a part of its end
pub no_text : (head : List ℕ) (line : ℕ) (cr : Bool) (lines : List ℕ) (l : IsLine head line cr lines) → length head - cond cr 1 0 ≡ line → l.part ≡ []
no_text head line cr lines l e =
    nil_from_length l.part (omega (arith, length-head head line cr lines l, no_underflow cr))
  where
    no_underflow : (x : Bool) → cond x 1 0 ≤ 1
    no_underflow true = omega arith
    no_underflow false = omega arith

-- an EOL between two frames leaves nothing
pub gap_reads : (head : List ℕ) (line : ℕ) (cr : Bool) (headers : List (List ℕ × List ℕ)) (body : List ℕ) → IsAt Command head line cr headers body → length head - cond cr 1 0 ≡ 0
    → Frames ((head ++ body) ++ 10 ∷ []) [] ([] ++ body)
gap_reads head line cr headers body h e =
    let start : 0 ≡ line = h.0.start in
    let none = no_text head line cr [] h.0 (e ∙ start) in
    let whole : head ≡ tail cr = h.0.whole ∙ ap (λ x. x ++ tail cr) none in
    let P : List ℕ → Type 0 = λ x. Frames ((head ++ x) ++ 10 ∷ []) [] ([] ++ x) in
    let gap : (head ++ []) ++ 10 ∷ [] ≡ flat_map eol (cr ∷ []) ++ ([] ++ []) =
    ap (λ x. x ++ 10 ∷ []) (append-nil head ∙ whole) ∙ tail-eol cr ∙ sym (append-nil (eol cr)) ∙ sym (append-nil (eol cr ++ [])) in
    subst P (sym h.2) (cr ∷ [], gap)

pub gap_kept : (head : List ℕ) (line : ℕ) (cr : Bool) (headers : List (List ℕ × List ℕ)) (body : List ℕ) → IsAt Command head line cr headers body → IsAt Command [] line false headers body
gap_kept head line cr headers body h =
    (record { part = []; whole = refl; start = h.0.start; each = tt; size = omega arith }, h.1, h.2)

-- nothing of a line yet
next_line : (head : List ℕ) → length head < 8192 → IsLine (head ++ 10 ∷ []) (length head + 1) false (head ++ 10 ∷ [])
next_line head room = record {
  part = [];
  whole = sym (append-nil (head ++ 10 ∷ []));
  start = length-append head (10 ∷ []);
  each = tt;
  size = omega (arith, length-append head (10 ∷ []));
}

-- a command line is whole
pub command_ends : (verb : Verb) (head : List ℕ) (line : ℕ) (cr : Bool) (headers : List (List ℕ × List ℕ)) (body : List ℕ) (h : IsAt Command head line cr headers body)
    → h.0.part ≡ name_of verb → length head < 8192 → IsAt (HeaderLines verb) (head ++ 10 ∷ []) (length head + 1) false headers body
command_ends verb head line cr headers body h named room =
    let whole : head ++ 10 ∷ [] ≡ name_of verb ++ eol cr ++ [] =
    with_lf head line cr [] h.0 ∙ ap (λ x. x ++ eol cr) named ∙ sym (append-nil (name_of verb ++ eol cr)) in
    let begins : Begins verb [] (head ++ 10 ∷ []) = record { with_cr = cr; lines = []; whole = whole; each = refl } in
    let P : List (List ℕ × List ℕ) → Type 0 = λ hs. Begins verb hs (head ++ 10 ∷ []) × (length hs ≤ 64) in
    let moved = subst P (sym h.1) (begins, omega arith) in
    (head ++ 10 ∷ [], next_line head room, moved.0, moved.1, h.2)

-- one header line more
pub lines_push : (verb : Verb) (bytes : List ℕ) (headers : List (List ℕ × List ℕ)) (line : HeaderLine) (header : List ℕ × List ℕ) → Heads.HeaderLines verb bytes headers → IsHeaderOf verb line header
    → Heads.HeaderLines verb (bytes ++ line_of line) (headers ++ header ∷ [])
lines_push verb bytes [] line header h of = (line, [], of, ap (λ x. x ++ line_of line) h ∙ sym (append-nil (line_of line)), refl)
lines_push verb bytes (first ∷ headers) line header h of =
    (h.0, h.1 ++ line_of line, h.2, ap (λ x. x ++ line_of line) h.3 ∙ append_assoc (line_of h.0) h.1 (line_of line), lines_push verb h.1 headers line header h.4 of)

pub begins_push : (verb : Verb) (bytes : List ℕ) (headers : List (List ℕ × List ℕ)) (line : HeaderLine) (header : List ℕ × List ℕ) → Begins verb headers bytes → IsHeaderOf verb line header
    → Begins verb (headers ++ header ∷ []) (bytes ++ line_of line)
begins_push verb bytes headers line header b of = record {
  with_cr = b.with_cr;
  lines = b.lines ++ line_of line;
  whole = ap (λ x. x ++ line_of line) b.whole ∙ append_assoc (name_of verb ++ eol b.with_cr) b.lines (line_of line);
  each = lines_push verb b.lines headers line header b.each of;
}

-- the end of a line says nothing of its header
pub other_end : (verb : Verb) (name value : List ℕ) (cr : Bool) (header : List ℕ × List ℕ) → IsHeaderOf verb (ended name value false) header → IsHeaderOf verb (ended name value cr) header
other_end verb name value cr header h = record {
  form = record { named = h.form.named; name = h.form.name; value = h.form.value };
  name = h.name;
  value = h.value;
  name_utf8 = h.name_utf8;
  value_utf8 = h.value_utf8;
}

-- the head with its LF is its lines and a header line
pub with_line : (head : List ℕ) (line : ℕ) (cr : Bool) (lines : List ℕ) (l : IsLine head line cr lines) (name value : List ℕ) → l.part ≡ name ++ (58 ∷ value)
    → head ++ 10 ∷ [] ≡ lines ++ line_of (ended name value cr)
with_line head line cr lines l name value e =
    with_lf head line cr lines l ∙ ap (λ x. lines ++ (x ++ eol cr)) e ∙ ap (λ x. lines ++ x) (append_assoc name (58 ∷ value) (eol cr))

-- a header line is whole
pub header_ends : (verb : Verb) (head : List ℕ) (line : ℕ) (cr : Bool) (headers : List (List ℕ × List ℕ)) (body : List ℕ) (h : IsAt (HeaderLines verb) head line cr headers body)
    (header : List ℕ × List ℕ) → IsHeaderText verb h.1.part header → length headers < 64 → length head < 8192
    → IsAt (HeaderLines verb) (head ++ 10 ∷ []) (length head + 1) false (headers ++ header ∷ []) body
header_ends verb head line cr headers body h header text count room =
    let P : List ℕ → Type 0 = λ x. Begins verb (headers ++ header ∷ []) x in
    let pushed = begins_push verb h.0 headers (ended text.0 text.1 cr) header h.2 (other_end verb text.0 text.1 cr header text.3) in
    let begins : Begins verb (headers ++ header ∷ []) (head ++ 10 ∷ []) = subst P (sym (with_line head line cr h.0 h.1 text.0 text.1 text.2)) pushed in
    (head ++ 10 ∷ [], next_line head room, begins, omega (arith, length-append headers (header ∷ [])), h.4)

-- the empty line ends the head
pub head_ends : (verb : Verb) (head : List ℕ) (line : ℕ) (cr : Bool) (headers : List (List ℕ × List ℕ)) (body : List ℕ) (h : IsAt (HeaderLines verb) head line cr headers body)
    → length head - cond cr 1 0 ≡ line → length head < 8192 → IsBoundedHead verb headers (head ++ 10 ∷ [])
head_ends verb head line cr headers body h e room =
    let none = no_text head line cr h.0 h.1 e in
    record {
      is_head = record { with_cr = cr; lines = h.0; whole = with_lf head line cr h.0 h.1 ∙ ap (λ x. h.0 ++ (x ++ eol cr)) none; begins = h.2 };
      size = omega (arith, length-append head (10 ∷ []));
      count = h.3;
    }

-- nothing of a body yet
no_body_yet : (verb : Verb) (plan : Option ℕ) → IsPartOfBody verb plan []
no_body_yet verb None = (tt, omega arith, λ _. refl)
no_body_yet verb (Some n) = omega arith

pub body_begins : (verb : Verb) (plan : Option ℕ) (head : List ℕ) (line : ℕ) (cr : Bool) (headers : List (List ℕ × List ℕ)) (body : List ℕ) (h : IsAt (HeaderLines verb) head line cr headers body)
    → length head - cond cr 1 0 ≡ line → length head < 8192 → Plans verb headers plan → IsAt (Body verb plan) (head ++ 10 ∷ []) (length head + 1) false headers body
body_begins verb plan head line cr headers body h e room plans =
    (head_ends verb head line cr headers body h e room, plans, subst (IsPartOfBody verb plan) (sym h.4) (no_body_yet verb plan))
