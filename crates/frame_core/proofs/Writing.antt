use Rattle.std.proofs.Common.{◌≡◌, ◌≢◌, ◌<◌, ◌+◌, ◌^◌, ℕ, List, [], ◌∷◌, ◌++◌, true, false, Option, Some, None, MatchOption, length, take, get_or, decimal, flat_map, inl, inr, refl, sym, ap, subst, ◌∙◌, append_assoc, length-append, arith}
use Rattle.std.specs.List.{AllByRecursion}
use Rattle.std.specs.Str.{IsUtf8}
use Rattle.std.proofs.lemmas.Bool.{cases_eq, ne_eqb, cases_Bool}
use Rattle.std.proofs.lemmas.Fmt.{decimal_is_IsNumeral}
use Rattle.std.proofs.lemmas.List.{take_more, flat_map_more}
use Rattle.escape_core.specs.Escapes.{escaped}
use Rattle.escape_core.specs.Escapes as Escape
use Rattle.escape_core.proofs.Reading.{unescaped-escaped}
use Rattle.frame_core.specs.declared.frame.Frame.{Frame}
use Rattle.frame_core.specs.declared.frame.Verb.{Verb}
use Rattle.frame_core.specs.Verbs.{name_of, is_raw}
use Rattle.frame_core.specs.Heads.{IsInLine, HeaderLine, meaning, IsHeaderOf, HeaderLines, IsHead}
use Rattle.frame_core.specs.Spelling.{IsNumber, announced, Spells}
use Rattle.frame_core.specs.Writable.{HasNoNul, IsOneLine, IsHeader, IsRawHeader, Writable}
use Rattle.frame_core.specs.Written.{IsText, code, written_header, written_head, written}
use Rattle.frame_core.proofs.Lists.{all_append, all_push, all_weaker, all_both}

-- one header line more is written
pub line_written : (verb : Verb) (headers : List (List ℕ × List ℕ)) (i : ℕ) (h : List ℕ × List ℕ) (name value old so_far bytes : List ℕ) → i < length headers → h ≡ get_or headers i h
    → name ≡ h.0 → value ≡ h.1 → so_far ≡ old ++ flat_map (written_header verb) (take i headers) → bytes ≡ so_far ++ written_header verb (name, value)
    → bytes ≡ old ++ flat_map (written_header verb) (take (i + 1) headers)
line_written verb headers i h name value old so_far bytes lt is n v before e =
    let line : written_header verb (name, value) ≡ written_header verb h = rw (n, v) refl in
    let more : take (i + 1) headers ≡ take i headers ++ h ∷ [] = take_more headers i h lt ∙ ap (λ x. take i headers ++ x ∷ []) (sym is) in
    e ∙ rw (before, line, more) (flat_map_more (written_header verb) old (take i headers) h)

-- one header more is UTF-8
pub text_written : (headers : List (List ℕ × List ℕ)) (i : ℕ) (h : List ℕ × List ℕ) (name value : List ℕ) → i < length headers → h ≡ get_or headers i h
    → name ≡ h.0 → value ≡ h.1 → IsUtf8 name → IsUtf8 value → AllByRecursion IsText (take i headers) → AllByRecursion IsText (take (i + 1) headers)
text_written headers i h name value lt is n v name_utf8 value_utf8 before =
    let more : take (i + 1) headers ≡ take i headers ++ h ∷ [] = take_more headers i h lt ∙ ap (λ x. take i headers ++ x ∷ []) (sym is) in
    rw more (all_push IsText (take i headers) h before (subst IsUtf8 n name_utf8, subst IsUtf8 v value_utf8))

-- may stand in a name
abbrev IsInName : ℕ → Type 0
IsInName b = IsInLine b × (b ≢ 58)

-- the code of a byte but NUL may stand in a name
code_of_in_name : (b : ℕ) → b ≢ 0 → AllByRecursion IsInName (Escape.code_of b)
code_of_in_name b no_nul =
    elim (cases_eq b 13) [
      | inl e ↦ let P : ℕ → Type 0 = λ x. AllByRecursion IsInName (Escape.code_of x) in subst P (sym e) pair_r
      | inr no_cr ↦ elim (cases_eq b 10) [
        | inl e ↦ let P : ℕ → Type 0 = λ x. AllByRecursion IsInName (Escape.code_of x) in subst P (sym e) pair_n
        | inr no_lf ↦ elim (cases_eq b 58) [
          | inl e ↦ let P : ℕ → Type 0 = λ x. AllByRecursion IsInName (Escape.code_of x) in subst P (sym e) pair_c
          | inr no_colon ↦ elim (cases_eq b 92) [
            | inl e ↦ let P : ℕ → Type 0 = λ x. AllByRecursion IsInName (Escape.code_of x) in subst P (sym e) pair_b
            | inr no_backslash ↦ rw (ne_eqb b 13 no_cr, ne_eqb b 10 no_lf, ne_eqb b 58 no_colon, ne_eqb b 92 no_backslash) (((no_nul, no_lf, no_cr), no_colon), tt)
          ]
        ]
      ]
    ]
  where
    backslash : IsInName 92
    backslash = ((λ e. omega arith, λ e. omega arith, λ e. omega arith), λ e. omega arith)

    pair_r : AllByRecursion IsInName (92 ∷ 114 ∷ [])
    pair_r = (backslash, (((λ e. omega arith, λ e. omega arith, λ e. omega arith), λ e. omega arith), tt))

    pair_n : AllByRecursion IsInName (92 ∷ 110 ∷ [])
    pair_n = (backslash, (((λ e. omega arith, λ e. omega arith, λ e. omega arith), λ e. omega arith), tt))

    pair_c : AllByRecursion IsInName (92 ∷ 99 ∷ [])
    pair_c = (backslash, (((λ e. omega arith, λ e. omega arith, λ e. omega arith), λ e. omega arith), tt))

    pair_b : AllByRecursion IsInName (92 ∷ 92 ∷ [])
    pair_b = (backslash, (backslash, tt))

pub escaped_in_name : (text : List ℕ) → HasNoNul text → AllByRecursion IsInName (escaped text)
escaped_in_name [] h = tt
escaped_in_name (b ∷ text) h = all_append IsInName (Escape.code_of b) (escaped text) (code_of_in_name b h.0) (escaped_in_name text h.1)

code_of_some : (b : ℕ) → 0 < length (Escape.code_of b)
code_of_some b =
    elim (cases_eq b 13) [
      | inl e ↦ let P : ℕ → Type 0 = λ x. 0 < length (Escape.code_of x) in subst P (sym e) (omega arith)
      | inr no_cr ↦ elim (cases_eq b 10) [
        | inl e ↦ let P : ℕ → Type 0 = λ x. 0 < length (Escape.code_of x) in subst P (sym e) (omega arith)
        | inr no_lf ↦ elim (cases_eq b 58) [
          | inl e ↦ let P : ℕ → Type 0 = λ x. 0 < length (Escape.code_of x) in subst P (sym e) (omega arith)
          | inr no_colon ↦ elim (cases_eq b 92) [
            | inl e ↦ let P : ℕ → Type 0 = λ x. 0 < length (Escape.code_of x) in subst P (sym e) (omega arith)
            | inr no_backslash ↦ rw (ne_eqb b 13 no_cr, ne_eqb b 10 no_lf, ne_eqb b 58 no_colon, ne_eqb b 92 no_backslash) (omega arith)
          ]
        ]
      ]
    ]

pub escaped_some : (text : List ℕ) → 0 < length text → 0 < length (escaped text)
escaped_some [] h = absurd (omega arith)
escaped_some (b ∷ text) h = omega (arith, length-append (Escape.code_of b) (escaped text), code_of_some b)

-- what is written under a command means the text again
pub meaning-code : (verb : Verb) (text : List ℕ) → meaning verb (code verb text) ≡ Some text
meaning-code verb text =
    elim (cases_Bool (is_raw verb)) [ inl e ↦ rw e refl | inr e ↦ rw e (unescaped-escaped text) ]

code_some : (verb : Verb) (text : List ℕ) → 0 < length text → 0 < length (code verb text)
code_some verb text h = elim (cases_Bool (is_raw verb)) [ inl e ↦ rw e h | inr e ↦ rw e (escaped_some text h) ]

code_in_name : (verb : Verb) (text : List ℕ) → HasNoNul text → (is_raw verb ≡ true → IsOneLine text × AllByRecursion (λ b. b ≢ 58) text) → AllByRecursion IsInName (code verb text)
code_in_name verb text no_nul raw =
    elim (cases_Bool (is_raw verb)) [
      | inl e ↦ rw e (all_both _ _ IsInName (λ b p q. (p, q)) text (all_both _ _ IsInLine (λ b p q. (p, q.0, q.1)) text no_nul (raw e).0) (raw e).1)
      | inr e ↦ rw e (escaped_in_name text no_nul)
    ]

code_in_line : (verb : Verb) (text : List ℕ) → HasNoNul text → (is_raw verb ≡ true → IsOneLine text) → AllByRecursion IsInLine (code verb text)
code_in_line verb text no_nul raw =
    elim (cases_Bool (is_raw verb)) [
      | inl e ↦ rw e (all_both _ _ IsInLine (λ b p q. (p, q.0, q.1)) text no_nul (raw e))
      | inr e ↦ rw e (all_weaker IsInName IsInLine (λ b p. p.0) (escaped text) (escaped_in_name text no_nul))
    ]

-- a header as it is written
abbrev written_line : Verb → List ℕ × List ℕ → HeaderLine
written_line verb h = record { name = code verb h.0; value = code verb h.1; with_cr = false }

header_written : (verb : Verb) (h : List ℕ × List ℕ) → IsHeader h → (is_raw verb ≡ true → IsRawHeader h) → IsText h → IsHeaderOf verb (written_line verb h) h
header_written verb h is_header raw text = record {
  form = record {
    named = code_some verb h.0 is_header.named;
    name = code_in_name verb h.0 is_header.name (λ e. ((raw e).name, (raw e).no_colon));
    value = code_in_line verb h.1 is_header.value (λ e. (raw e).value);
  };
  name = meaning-code verb h.0;
  value = meaning-code verb h.1;
  name_utf8 = text.0;
  value_utf8 = text.1;
}

pub headers_written : (verb : Verb) (headers : List (List ℕ × List ℕ)) → AllByRecursion IsHeader headers → (is_raw verb ≡ true → AllByRecursion IsRawHeader headers) → AllByRecursion IsText headers
    → HeaderLines verb (flat_map (written_header verb) headers) headers
headers_written verb [] are raw texts = refl
headers_written verb (h ∷ headers) are raw texts =
    (written_line verb h, flat_map (written_header verb) headers, header_written verb h are.0 (λ e. (raw e).0) texts.0, refl, headers_written verb headers are.1 (λ e. (raw e).1) texts.1)

pub head_written : (verb : Verb) (headers : List (List ℕ × List ℕ)) → AllByRecursion IsHeader headers → (is_raw verb ≡ true → AllByRecursion IsRawHeader headers) → AllByRecursion IsText headers
    → IsHead verb headers (written_head verb headers)
head_written verb headers are raw texts =
    let lines = flat_map (written_header verb) headers in
    record {
      with_cr = false;
      lines = name_of verb ++ (10 ∷ lines);
      whole = sym (append_assoc (name_of verb) (10 ∷ lines) (10 ∷ []));
      begins = record { with_cr = false; lines = lines; whole = sym (append_assoc (name_of verb) (10 ∷ []) lines); each = headers_written verb headers are raw texts };
    }

ends_written : (o : Option (List ℕ)) (body : List ℕ) → length body < 2 ^ 64 → MatchOption o (HasNoNul body) (λ text. text ≡ decimal (length body)) → MatchOption o (HasNoNul body) (λ text. IsNumber text (length body))
ends_written None body small h = h
ends_written (Some text) body small h =
    let P : List ℕ → Type 0 = λ t. IsNumber t (length body) in
    subst P (sym h) (decimal_is_IsNumeral (length body) small)

-- a frame that can be written is spelled by what is written
pub written_spells : (f : Frame) → Writable f → AllByRecursion IsText f.headers → length f.body < 2 ^ 64 → Spells (written f) f
written_spells f can texts small = record {
  head = written_head f.verb f.headers;
  whole = refl;
  is_head = head_written f.verb f.headers can.headers can.raw texts;
  has_body = record { ends = ends_written (announced f.headers) f.body small can.ends; allowed = can.body };
}
