use Rattle.std.proofs.Common.{zero, suc, ◌&&◌, ◌≡◌, ◌≢◌, ◌<◌, ◌≤◌, ◌+◌, ℕ, List, [], ◌∷◌, ◌++◌, Bool, true, false, nat_lt, Some, None, inl, inr, length, get_or, refl, sym, ap, ◌∙◌, arith, append_assoc, length-append, codes}
use Rattle.std.specs.List.{AllByRecursion}
use Rattle.std.specs.Str.{IsUtf8}
use Rattle.std.proofs.lemmas.Bool.{ne_eqb, lt-ltb, and_parts, ltb-true}
use Rattle.std.proofs.lemmas.List.{append-nil, nil_from_length}
use Rattle.std.proofs.lemmas.Str.{is_utf8-from_IsUtf8, IsUtf8-from_ascii}
use Rattle.frame_core.specs.declared.frame.Verb.{Verb}
use Rattle.frame_core.specs.declared.frame.Verb.TheVariants.{Connect, Stomp, Send, Subscribe, Unsubscribe, Ack, Nack, Begin, Commit, Abort, Disconnect, Connected, Message, Receipt, Error}
use Rattle.frame_core.specs.Verbs.{name_of}
use Rattle.frame_core.specs.Heads.{IsInLine, eol, HeaderLine, line_of, IsHeaderLine, meaning, IsHeaderOf, HeaderLines, Begins}
use Rattle.frame_core.specs.Parts.{IsPartOfHead, IsBoundedHead}
use Rattle.frame_core.specs.Spelling.{announced}
use Rattle.frame_core.proofs.OpenLines.{tail}
use Rattle.frame_core.proofs.OneHead.{verb_named, named, name_in_line}
use Rattle.frame_core.proofs.Machine.{Known, At, in_line, goes, next, plan_next, cut_colon, meant, ended_line, step, run, start}

pub go_run : (b : ℕ) (bytes : List ℕ) (at then : At) → step at b ≡ goes then → run (b ∷ bytes) at ≡ run bytes then
go_run b bytes at then e = ap (λ n. next n (run bytes) bytes) e

plain_step : (k : Known) (part : List ℕ) (used b : ℕ) → IsInLine b → used < 8192 → step (in_line k part false used) b ≡ goes (in_line k (part ++ b ∷ []) false (used + 1))
plain_step k part used b h lt = rw (ne_eqb used 8192 (λ e. omega arith), ne_eqb b 10 h.1, ne_eqb b 0 h.0, ne_eqb b 13 h.2) refl

-- the text of a line
pub text_run : (k : Known) (part text x : List ℕ) (used : ℕ) → AllByRecursion IsInLine text → used + length text ≤ 8192
    → run (text ++ x) (in_line k part false used) ≡ run x (in_line k (part ++ text) false (used + length text))
text_run k part [] x used h le = let e : used + length {A = ℕ} [] ≡ used = omega arith in rw (append-nil part, e) refl
text_run k part (b ∷ text) x used h le =
    let more = text_run k (part ++ b ∷ []) text x (used + 1) h.1 (omega arith) in
    let n : used + 1 + length text ≡ used + length (b ∷ text) = omega arith in
    go_run b (text ++ x) (in_line k part false used) (in_line k (part ++ b ∷ []) false (used + 1)) (plain_step k part used b h.0 (omega arith))
    ∙ more ∙ ap (λ p. run x (in_line k p false (used + 1 + length text))) (append_assoc part (b ∷ []) text) ∙ ap (λ u. run x (in_line k (part ++ (b ∷ text)) false u)) n

lf_step : (k : Known) (part : List ℕ) (cr : Bool) (used : ℕ) → used < 8192 → step (in_line k part cr used) 10 ≡ ended_line k part (used + 1)
lf_step k part true used lt = rw (ne_eqb used 8192 (λ e. omega arith)) refl
lf_step k part false used lt = rw (ne_eqb used 8192 (λ e. omega arith)) refl

cr_step : (k : Known) (part : List ℕ) (used : ℕ) → used < 8192 → step (in_line k part false used) 13 ≡ goes (in_line k part true (used + 1))
cr_step k part used lt = rw (ne_eqb used 8192 (λ e. omega arith)) refl

-- the end of a line
pub eol_run : (k : Known) (part : List ℕ) (cr : Bool) (x : List ℕ) (used : ℕ) → used + length (eol cr) ≤ 8192
    → run (eol cr ++ x) (in_line k part false used) ≡ next (ended_line k part (used + length (eol cr))) (run x) x
eol_run k part false x used le = ap (λ n. next n (run x) x) (lf_step k part false used (omega arith))
eol_run k part true x used le =
    let n : used + 1 + 1 ≡ used + 2 = omega arith in
    go_run 13 (10 ∷ x) (in_line k part false used) (in_line k part true (used + 1)) (cr_step k part used (omega arith))
    ∙ ap (λ m. next m (run x) x) (lf_step k part true (used + 1) (omega arith)) ∙ ap (λ u. next (ended_line k part u) (run x) x) n

-- a whole line
pub line_run : (k : Known) (text : List ℕ) (cr : Bool) (x : List ℕ) (used : ℕ) → AllByRecursion IsInLine text → used + length (text ++ eol cr) ≤ 8192
    → run (text ++ (eol cr ++ x)) (in_line k [] false used) ≡ next (ended_line k text (used + length (text ++ eol cr))) (run x) x
line_run k text cr x used h le =
    let n = length-append text (eol cr) in
    let u : used + length text + length (eol cr) ≡ used + length (text ++ eol cr) = omega (arith, n) in
    text_run k [] text (eol cr ++ x) used h (omega (arith, n)) ∙ eol_run k text cr x (used + length text) (omega (arith, n)) ∙ ap (λ w. next (ended_line k text w) (run x) x) u

pub cut_colon-at : (name value : List ℕ) → AllByRecursion (λ b. b ≢ 58) name → cut_colon (name ++ (58 ∷ value)) ≡ Some (name, value)
cut_colon-at [] value h = refl
cut_colon-at (b ∷ name) value h = rw (ne_eqb b 58 h.0, cut_colon-at name value h.1) refl

pub cut_colon-none : (text : List ℕ) → AllByRecursion (λ b. b ≢ 58) text → cut_colon text ≡ None
cut_colon-none [] h = refl
cut_colon-none (b ∷ text) h = rw (ne_eqb b 58 h.0, cut_colon-none text h.1) refl

no_colon : (name : List ℕ) → AllByRecursion (λ b. IsInLine b × (b ≢ 58)) name → AllByRecursion (λ b. b ≢ 58) name
no_colon [] h = tt
no_colon (b ∷ name) h = (h.0.1, no_colon name h.1)

pub name_in : (name : List ℕ) → AllByRecursion (λ b. IsInLine b × (b ≢ 58)) name → AllByRecursion IsInLine name
name_in [] h = tt
name_in (b ∷ name) h = (h.0.0, name_in name h.1)

-- the parts of a line with a name and a value
pub form_next : (verb : Verb) (headers : List (List ℕ × List ℕ)) (line : HeaderLine) (used : ℕ) → IsHeaderLine line
    → ended_line (Some (verb, headers)) (line.name ++ (58 ∷ line.value)) used ≡ meant verb headers used (meaning verb line.name) (meaning verb line.value)
form_next verb headers line used h =
    let some : length (line.name ++ (58 ∷ line.value)) ≡ 0 → ⊥ = λ e. omega (arith, length-append line.name (58 ∷ line.value)) in
    let name : length line.name ≡ 0 → ⊥ = λ e. omega (arith, h.named) in
    rw (ne_eqb (length (line.name ++ (58 ∷ line.value))) 0 some, cut_colon-at line.name line.value (no_colon line.name h.name), ne_eqb (length line.name) 0 name) refl

-- a header line
pub header_next : (verb : Verb) (headers : List (List ℕ × List ℕ)) (line : HeaderLine) (header : List ℕ × List ℕ) (used : ℕ) → IsHeaderOf verb line header → length headers < 64
    → ended_line (Some (verb, headers)) (line.name ++ (58 ∷ line.value)) used ≡ goes (in_line (Some (verb, headers ++ header ∷ [])) [] false used)
header_next verb headers line header used h few =
    form_next verb headers line used h.form
    ∙ rw (h.name, h.value, is_utf8-from_IsUtf8 header.0 h.name_utf8, is_utf8-from_IsUtf8 header.1 h.value_utf8, lt-ltb (length headers) 64 few) refl

pub line_of_is : (line : HeaderLine) → line_of line ≡ (line.name ++ (58 ∷ line.value)) ++ eol line.with_cr
line_of_is line = sym (append_assoc line.name (58 ∷ line.value) (eol line.with_cr))

pub line_text : (line : HeaderLine) → IsHeaderLine line → AllByRecursion IsInLine (line.name ++ (58 ∷ line.value))
line_text line h = join line.name (name_in line.name h.name)
  where
    join : (name : List ℕ) → AllByRecursion IsInLine name → AllByRecursion IsInLine (name ++ (58 ∷ line.value))
    join [] k = ((λ e. omega arith, λ e. omega arith, λ e. omega arith), h.value)
    join (b ∷ name) k = (k.0, join name k.1)

-- a whole header line
pub header_line_run : (k : Known) (line : HeaderLine) (x : List ℕ) (used : ℕ) → IsHeaderLine line → used + length (line_of line) ≤ 8192
    → run (line_of line ++ x) (in_line k [] false used) ≡ next (ended_line k (line.name ++ (58 ∷ line.value)) (used + length (line_of line))) (run x) x
header_line_run k line x used h le =
    let text = line.name ++ (58 ∷ line.value) in
    let is = line_of_is line in
    ap (λ z. run (z ++ x) (in_line k [] false used)) is ∙ ap (λ z. run z (in_line k [] false used)) (append_assoc text (eol line.with_cr) x)
    ∙ line_run k text line.with_cr x used (line_text line h) (omega (arith, ap length is)) ∙ ap (λ z. next (ended_line k text (used + length z)) (run x) x) (sym is)

-- header lines
pub lines_run : (verb : Verb) (lines : List ℕ) (headers more : List (List ℕ × List ℕ)) (x : List ℕ) (used : ℕ) → HeaderLines verb lines more → length headers + length more ≤ 64 → used + length lines ≤ 8192
    → run (lines ++ x) (in_line (Some (verb, headers)) [] false used) ≡ run x (in_line (Some (verb, headers ++ more)) [] false (used + length lines))
lines_run verb lines headers [] x used h few le =
    let u : used + length lines ≡ used = omega (arith, ap length h) in
    ap (λ z. run (z ++ x) (in_line (Some (verb, headers)) [] false used)) h ∙ rw (append-nil headers, u) refl
lines_run verb lines headers (header ∷ more) x used h few le =
    let line = h.0 in
    let n : length lines ≡ length (line_of line) + length h.1 = ap length h.3 ∙ length-append (line_of line) h.1 in
    let first = header_line_run (Some (verb, headers)) line (h.1 ++ x) used h.2.form (omega (arith, n)) in
    let goes_on = ap (λ m. next m (run (h.1 ++ x)) (h.1 ++ x)) (header_next verb headers line header (used + length (line_of line)) h.2 (omega arith)) in
    let others = lines_run verb h.1 (headers ++ header ∷ []) more x (used + length (line_of line)) h.4 (omega (arith, length-append headers (header ∷ []))) (omega (arith, n)) in
    let u : used + length (line_of line) + length h.1 ≡ used + length lines = omega (arith, n) in
    ap (λ z. run (z ++ x) (in_line (Some (verb, headers)) [] false used)) h.3 ∙ ap (λ z. run z (in_line (Some (verb, headers)) [] false used)) (append_assoc (line_of line) h.1 x)
    ∙ first ∙ goes_on ∙ others
    ∙ ap (λ hs. run x (in_line (Some (verb, hs)) [] false (used + length (line_of line) + length h.1))) (append_assoc headers (header ∷ []) more)
    ∙ ap (λ w. run x (in_line (Some (verb, headers ++ (header ∷ more))) [] false w)) u

ascii : List ℕ → Bool
ascii [] = true
ascii (b ∷ text) = nat_lt b 128 && ascii text

ascii_text : (text : List ℕ) → ascii text ≡ true → (i : ℕ) → get_or text i 0 < 128
unfolding ascii
ascii_text [] h i = omega arith
ascii_text (b ∷ text) h zero = ltb-true b 128 (and_parts (nat_lt b 128) (ascii text) h).0
ascii_text (b ∷ text) h (suc i) = ascii_text text (and_parts (nat_lt b 128) (ascii text) h).1 i

ascii_utf8 : (text : List ℕ) → ascii text ≡ true → IsUtf8 text
ascii_utf8 text h = IsUtf8-from_ascii text (ascii_text text h)

-- the word of a command is UTF-8
pub name_utf8 : (verb : Verb) → IsUtf8 (name_of verb)
unfolding ascii
name_utf8 Connect = ascii_utf8 (codes "CONNECT") refl
name_utf8 Stomp = ascii_utf8 (codes "STOMP") refl
name_utf8 Send = ascii_utf8 (codes "SEND") refl
name_utf8 Subscribe = ascii_utf8 (codes "SUBSCRIBE") refl
name_utf8 Unsubscribe = ascii_utf8 (codes "UNSUBSCRIBE") refl
name_utf8 Ack = ascii_utf8 (codes "ACK") refl
name_utf8 Nack = ascii_utf8 (codes "NACK") refl
name_utf8 Begin = ascii_utf8 (codes "BEGIN") refl
name_utf8 Commit = ascii_utf8 (codes "COMMIT") refl
name_utf8 Abort = ascii_utf8 (codes "ABORT") refl
name_utf8 Disconnect = ascii_utf8 (codes "DISCONNECT") refl
name_utf8 Connected = ascii_utf8 (codes "CONNECTED") refl
name_utf8 Message = ascii_utf8 (codes "MESSAGE") refl
name_utf8 Receipt = ascii_utf8 (codes "RECEIPT") refl
name_utf8 Error = ascii_utf8 (codes "ERROR") refl

-- and it isn't empty
name_some : (verb : Verb) → length (name_of verb) ≡ 0 → ⊥
unfolding verb_named
name_some verb e =
    let none : name_of verb ≡ [] = nil_from_length (name_of verb) e in
    let nothing : None ≡ Some verb = ap verb_named (sym none) ∙ named verb in
    cc

command_next : (verb : Verb) (used : ℕ) → ended_line None (name_of verb) used ≡ goes (in_line (Some (verb, [])) [] false used)
command_next verb used = rw (ne_eqb (length (name_of verb)) 0 (name_some verb), is_utf8-from_IsUtf8 (name_of verb) (name_utf8 verb), named verb) refl

-- a command line and header lines
pub begins_run : (verb : Verb) (headers : List (List ℕ × List ℕ)) (bytes x : List ℕ) → Begins verb headers bytes → length headers ≤ 64 → length bytes ≤ 8192
    → run (bytes ++ x) start ≡ run x (in_line (Some (verb, headers)) [] false (length bytes))
begins_run verb headers bytes x h few le =
    let name = name_of verb in
    let n : length bytes ≡ length (name ++ eol h.with_cr) + length h.lines = ap length h.whole ∙ length-append (name ++ eol h.with_cr) h.lines in
    let spread : bytes ++ x ≡ name ++ (eol h.with_cr ++ (h.lines ++ x)) =
    ap (λ z. z ++ x) h.whole ∙ append_assoc (name ++ eol h.with_cr) h.lines x ∙ append_assoc name (eol h.with_cr) (h.lines ++ x) in
    let u : 0 + length (name ++ eol h.with_cr) + length h.lines ≡ length bytes = omega (arith, n) in
    ap (λ z. run z start) spread ∙ line_run None name h.with_cr (h.lines ++ x) 0 (name_in_line verb) (omega (arith, n))
    ∙ ap (λ m. next m (run (h.lines ++ x)) (h.lines ++ x)) (command_next verb (0 + length (name ++ eol h.with_cr)))
    ∙ lines_run verb h.lines [] headers x (0 + length (name ++ eol h.with_cr)) h.each (omega arith) (omega (arith, n))
    ∙ ap (λ w. run x (in_line (Some (verb, headers)) [] false w)) u

-- a whole head
pub head_run : (verb : Verb) (headers : List (List ℕ × List ℕ)) (head x : List ℕ) → IsBoundedHead verb headers head → run (head ++ x) start ≡ next (plan_next verb headers (announced headers)) (run x) x
head_run verb headers head x h =
    let i = h.is_head in
    let n : length head ≡ length i.lines + length (eol i.with_cr) = ap length i.whole ∙ length-append i.lines (eol i.with_cr) in
    ap (λ z. run (z ++ x) start) i.whole ∙ ap (λ z. run z start) (append_assoc i.lines (eol i.with_cr) x)
    ∙ begins_run verb headers i.lines (eol i.with_cr ++ x) i.begins h.count (omega (arith, n, h.size))
    ∙ eol_run (Some (verb, headers)) [] i.with_cr x (length i.lines) (omega (arith, n, h.size))

tail_run : (k : Known) (part : List ℕ) (cr : Bool) (x : List ℕ) (used : ℕ) → used + length (tail cr) ≤ 8192
    → run (tail cr ++ x) (in_line k part false used) ≡ run x (in_line k part cr (used + length (tail cr)))
tail_run k part true x used le = go_run 13 x (in_line k part false used) (in_line k part true (used + 1)) (cr_step k part used (omega arith))
tail_run k part false x used le = let u : used + length {A = ℕ} [] ≡ used = omega arith in rw u refl

open_run : (k : Known) (part : List ℕ) (cr : Bool) (x : List ℕ) (used : ℕ) → AllByRecursion IsInLine part → used + length (part ++ tail cr) ≤ 8192
    → run ((part ++ tail cr) ++ x) (in_line k [] false used) ≡ run x (in_line k part cr (used + length (part ++ tail cr)))
open_run k part cr x used h le =
    let n = length-append part (tail cr) in
    let u : used + length part + length (tail cr) ≡ used + length (part ++ tail cr) = omega (arith, n) in
    ap (λ z. run z (in_line k [] false used)) (append_assoc part (tail cr) x) ∙ text_run k [] part (tail cr ++ x) used h (omega (arith, n)) ∙ tail_run k part cr x (used + length part) (omega (arith, n))
    ∙ ap (λ w. run x (in_line k part cr w)) u

-- a part of a head
pub part_run : (front x : List ℕ) (p : IsPartOfHead front) → (k : Known) × (run (front ++ x) start ≡ run x (in_line k p.part p.with_cr (length front)))
part_run front x p =
    let open_part = p.part ++ tail p.with_cr in
    let n : length front ≡ length p.lines + length open_part = ap length p.whole ∙ length-append p.lines open_part in
    let spread : front ++ x ≡ p.lines ++ (open_part ++ x) = ap (λ z. z ++ x) p.whole ∙ append_assoc p.lines open_part x in
    elim p.begun [
      | inl none ↦
          let u : 0 + length open_part ≡ length front = omega (arith, n, ap length none) in (
            None,
            ap (λ z. run z start) (spread ∙ ap (λ z. z ++ (open_part ++ x)) none) ∙ open_run None p.part p.with_cr x 0 p.each (omega (arith, n, p.size))
                ∙ ap (λ w. run x (in_line None p.part p.with_cr w)) u,
          )
      | inr some ↦
          let u : length p.lines + length open_part ≡ length front = omega (arith, n) in (
            Some (some.0, some.1),
            ap (λ z. run z start) spread ∙ begins_run some.0 some.1 p.lines (open_part ++ x) some.2 some.3 (omega (arith, n, p.size))
                ∙ open_run (Some (some.0, some.1)) p.part p.with_cr x (length p.lines) p.each (omega (arith, n, p.size))
                ∙ ap (λ w. run x (in_line (Some (some.0, some.1)) p.part p.with_cr w)) u,
          )
    ]
