-- What the texts of a frame that was read may be used for.
use Rattle.std.proofs.Common.{◌≡◌, ◌≢◌, ℕ, ◌+◌, ◌<◌, Bool, true, false, ◌==◌, if◌then◌else◌, List, [], ◌∷◌, ◌++◌, Option, Some, None, length, refl, arith, cond, ◌≤◌, subst, sym, length-append}
use Rattle.std.specs.List.{AllByRecursion}
use Rattle.std.specs.Str.{bytes_eq}
use Rattle.escape_core.specs.Escapes.{unescaped, escape_of, behind}
use Rattle.frame_core.specs.declared.frame.Frame.{Frame}
use Rattle.frame_core.specs.declared.frame.Verb.{Verb}
use Rattle.frame_core.specs.Verbs.{is_raw, name_of}
use Rattle.frame_core.specs.Writable.{first_of, HasNoNul}
use Rattle.frame_core.specs.Heads.{IsInLine, HeaderLine, line_of, eol, IsHeaderOf, HeaderLines}
use Rattle.frame_core.specs.Spelling.{Spells, IsWithinLimits}
use Rattle.frame_core.specs.Streams.{Frames}
use Rattle.command_core.specs.Texts.{IsHeaderText}
use Rattle.command_core.specs.Sendings.{IsKept, is_kept, kept_headers}
use Rattle.session_core.specs.ReadFrames.{IsReadHeader, IsRead}

one_found : (b : Bool) (text value : List ℕ) (other : Option (List ℕ)) → IsHeaderText text → (other ≡ Some value → IsHeaderText value) → cond b (Some text) other ≡ Some value → IsHeaderText value
one_found true text value other h more e = let same : text ≡ value = cc in subst IsHeaderText same h
one_found false text value other h more e = more e

-- the value of a header that was read fits into a header
pub found_text : (name : List ℕ) (headers : List (List ℕ × List ℕ)) (value : List ℕ) → AllByRecursion IsReadHeader headers → first_of name headers ≡ Some value → IsHeaderText value
found_text name [] value each e = cc
found_text name (h ∷ headers) value each e = one_found (bytes_eq name h.0) h.1 value (first_of name headers) each.0.value (found_text name headers value each.1) e

one_kept : (b : Bool) (h : List ℕ × List ℕ) (rest : List (List ℕ × List ℕ)) → IsReadHeader h → b ≡ is_kept h.0 → AllByRecursion IsKept rest → AllByRecursion IsKept (cond b (h ∷ rest) rest)
one_kept true h rest read e more = (record { named = read.named; name = read.name; value = read.value; kept = sym e }, more)
one_kept false h rest read e more = more

-- what is kept of headers that were read
pub all_kept : (headers : List (List ℕ × List ℕ)) → AllByRecursion IsReadHeader headers → AllByRecursion IsKept (kept_headers headers)
all_kept [] each = tt
all_kept (h ∷ headers) each = one_kept (is_kept h.0) h (kept_headers headers) each.0 refl (all_kept headers each.1)

one_fewer : (b : Bool) (h : List ℕ × List ℕ) (rest : List (List ℕ × List ℕ)) (n : ℕ) → length rest ≤ n → length (cond b (h ∷ rest) rest) ≤ n + 1
one_fewer true h rest n l = omega arith
one_fewer false h rest n l = omega arith

pub few_kept : (headers : List (List ℕ × List ℕ)) → length (kept_headers headers) ≤ length headers
few_kept [] = omega arith
few_kept (h ∷ headers) = let l = one_fewer (is_kept h.0) h (kept_headers headers) (length headers) (few_kept headers) in omega arith

-- what was written means no more bytes than it has, none of them a NUL
record Means (written text : List ℕ) : Type 0 where
  no_nul : HasNoNul text
  short : length text ≤ length written
  some_byte : 0 < length written → 0 < length text

record Parts (o : Option ℕ) (r : Option (List ℕ)) (text : List ℕ) : Type 0 where
  b : ℕ
  more : List ℕ
  is_o : o ≡ Some b
  is_r : r ≡ Some more
  whole : text ≡ b ∷ more

parts : (o : Option ℕ) (r : Option (List ℕ)) (text : List ℕ) → behind o r ≡ Some text → Parts o r text
parts None r text e = cc
parts (Some b) None text e = cc
parts (Some b) (Some more) text e = record { b = b; more = more; is_o = refl; is_r = refl; whole = cc }

picks : (test : Bool) (a b : ℕ) (other : Option ℕ) → (other ≡ Some b → b ≢ 0) → a ≢ 0 → (if test then Some a else other) ≡ Some b → b ≢ 0
picks true a b other more some e = let same : a ≡ b = cc in subst (λ x. x ≢ 0) same some
picks false a b other more some e = more e

no_nul_escape : (c b : ℕ) → escape_of c ≡ Some b → b ≢ 0
no_nul_escape c b e =
    picks (c == 114) 13 b _ (λ e1. picks (c == 110) 10 b _ (λ e2. picks (c == 99) 58 b _ (λ e3. picks (c == 92) 92 b None (λ e4. cc) (omega arith) e3) (omega arith) e2) (omega arith) e1) (omega arith) e

consed : (b : ℕ) (more text written : List ℕ) (n : ℕ) → text ≡ b ∷ more → b ≢ 0 → HasNoNul more → length more + 1 ≤ length written → Means written text
consed b more text written n e some h l = record {
  no_nul = subst HasNoNul (sym e) (some, h);
  short = subst (λ t. length t ≤ length written) (sym e) (omega arith);
  some_byte = λ p. subst (λ t. 0 < length t) (sym e) (omega arith);
}

single : (test : Bool) (b : ℕ) (text : List ℕ) → b ≢ 0 → (if test then None else Some (b ∷ [])) ≡ Some text → Means (b ∷ []) text
single true b text some e = cc
single false b text some e = let same : text ≡ b ∷ [] = cc in consed b [] text (b ∷ []) 0 same some tt (omega arith)

double : (test : Bool) (b c : ℕ) (more text : List ℕ) → b ≢ 0
    → ((u : List ℕ) → unescaped more ≡ Some u → Means more u) → ((u : List ℕ) → unescaped (c ∷ more) ≡ Some u → Means (c ∷ more) u)
    → (if test then behind (escape_of c) (unescaped more) else behind (Some b) (unescaped (c ∷ more))) ≡ Some text → Means (b ∷ c ∷ more) text
double true b c more text some one two e =
    let p = parts (escape_of c) (unescaped more) text e in
    let m = one p.more p.is_r in
    consed p.b p.more text (b ∷ c ∷ more) 0 p.whole (no_nul_escape c p.b p.is_o) m.no_nul (omega (arith, m.short))
double false b c more text some one two e =
    let p = parts (Some b) (unescaped (c ∷ more)) text e in
    let m = two p.more p.is_r in
    let same : b ≡ p.b = cc (p.is_o) in
    consed p.b p.more text (b ∷ c ∷ more) 0 p.whole (subst (λ x. x ≢ 0) same some) m.no_nul (omega (arith, m.short))

means_unescaped : (written text : List ℕ) → HasNoNul written → unescaped written ≡ Some text → Means written text
means_unescaped [] text h e = let same : text ≡ [] = cc in record { no_nul = subst HasNoNul (sym same) tt; short = subst (λ t. length t ≤ 0) (sym same) (omega arith); some_byte = λ p. absurd (omega arith) }
means_unescaped (b ∷ []) text h e = single (b == 92) b text h.0 e
means_unescaped (b ∷ c ∷ more) text h e = double (b == 92) b c more text h.0 (λ u. means_unescaped more u h.1.1) (λ u. means_unescaped (c ∷ more) u h.1) e

means_either : (raw : Bool) (written text : List ℕ) → HasNoNul written → cond raw (Some written) (unescaped written) ≡ Some text → Means written text
means_either true written text h e = let same : written ≡ text = cc in record { no_nul = subst HasNoNul same h; short = subst (λ t. length t ≤ length written) same (omega arith); some_byte = λ p. subst (λ t. 0 < length t) same p }
means_either false written text h e = means_unescaped written text h e

no_nul_in_line : (text : List ℕ) → AllByRecursion IsInLine text → HasNoNul text
no_nul_in_line [] h = tt
no_nul_in_line (b ∷ text) h = (h.0.0, no_nul_in_line text h.1)

no_nul_in_name : (text : List ℕ) → AllByRecursion (λ b. IsInLine b × (b ≢ 58)) text → HasNoNul text
no_nul_in_name [] h = tt
no_nul_in_name (b ∷ text) h = (h.0.0.0, no_nul_in_name text h.1)

read_header : (verb : Verb) (line : HeaderLine) (h : List ℕ × List ℕ) → IsHeaderOf verb line h → length (line_of line) ≤ 8192 → IsReadHeader h
read_header verb line h is small =
    let a = length-append line.name (58 ∷ (line.value ++ eol line.with_cr)) in
    let b = length-append line.value (eol line.with_cr) in
    let name = means_either (is_raw verb) line.name h.0 (no_nul_in_name line.name is.form.name) is.name in
    let value = means_either (is_raw verb) line.value h.1 (no_nul_in_line line.value is.form.value) is.value in
    record {
      named = name.some_byte is.form.named;
      name = record { no_nul = name.no_nul; short = omega (arith, a, b, name.short) };
      value = record { no_nul = value.no_nul; short = omega (arith, a, b, value.short) };
    }

read_headers : (verb : Verb) (bytes : List ℕ) (headers : List (List ℕ × List ℕ)) → HeaderLines verb bytes headers → length bytes ≤ 8192 → AllByRecursion IsReadHeader headers
read_headers verb bytes [] lines small = tt
read_headers verb bytes (h ∷ headers) (line, rest, is, whole, more) small =
    let l : length bytes ≡ length (line_of line) + length rest = subst (λ b. length b ≡ length (line_of line) + length rest) (sym whole) (length-append (line_of line) rest) in
    (read_header verb line h is (omega (arith, l)), read_headers verb rest headers more (omega (arith, l)))

-- a frame that is spelled within the limits
pub read_frame : (bytes : List ℕ) (frame : Frame) → Spells bytes frame → IsWithinLimits bytes frame → IsRead frame
read_frame bytes frame s limits =
    let whole : length bytes ≡ length s.head + (length frame.body + 1) = subst (λ b. length b ≡ length s.head + (length frame.body + 1)) (sym s.whole) (simp length-append refl) in
    let begins = s.is_head.begins in
    let head : length s.head ≡ length s.is_head.lines + length (eol s.is_head.with_cr) = subst (λ b. length b ≡ length s.is_head.lines + length (eol s.is_head.with_cr)) (sym s.is_head.whole) (length-append _ _) in
    let lines : length s.is_head.lines ≡ length (name_of frame.verb ++ eol begins.with_cr) + length begins.lines = subst (λ b. length b ≡ length (name_of frame.verb ++ eol begins.with_cr) + length begins.lines) (sym begins.whole) (length-append _ _) in
    record {
      each = read_headers frame.verb begins.lines frame.headers begins.each (omega (arith, whole, head, lines, limits.head));
      few = limits.headers;
      short = limits.body;
    }

-- the frames of a stream
pub read_frames : (stream : List ℕ) (frames : List Frame) (rest : List ℕ) → Frames stream frames rest → AllByRecursion IsRead frames
read_frames stream [] rest f = tt
read_frames stream (frame ∷ frames) rest (gaps, bytes, more, spells, limits, whole, f) = (read_frame bytes frame spells limits, read_frames more frames rest f)
