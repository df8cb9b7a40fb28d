use Rattle.std.proofs.Common.{◌≡◌, ◌≢◌, ◌<◌, ◌≤◌, ◌+◌, ◌-◌, ℕ, List, [], ◌∷◌, ◌++◌, Bool, true, false, cond, eqb, inl, inr, length, take, drop, refl, sym, ap, ◌∙◌, subst, arith, append_assoc, length-append}
use Rattle.std.specs.List.{AllByRecursion}
use Rattle.std.proofs.lemmas.Bool.{cases_eq, ne_eqb}
use Rattle.std.proofs.lemmas.List.{append-nil, drop_at, take_at}
use Rattle.frame_core.specs.declared.reader.Section.{Section}
use Rattle.frame_core.specs.declared.reader.Section.TheVariants.{Command, HeaderLines, Body}
use Rattle.frame_core.specs.Heads.{IsInLine, eol}
use Rattle.frame_core.specs.Parts.{IsBegun, IsPartOfHead}
use Rattle.frame_core.specs.Partials.{IsLine, IsAt, IsInHead}
use Rattle.frame_core.specs.Streams.{Frames}
use Rattle.frame_core.proofs.Lists.{all_push, all_append}

-- what of its end stands behind an unfinished line
abbrev pub tail : Bool → List ℕ
tail cr = cond cr (13 ∷ []) []

length-tail : (cr : Bool) → length (tail cr) ≡ cond cr 1 0
length-tail true = refl
length-tail false = refl

-- the LF completes it
pub tail-eol : (cr : Bool) → tail cr ++ (10 ∷ []) ≡ eol cr
tail-eol true = refl
tail-eol false = refl

pub length-head : (head : List ℕ) (line : ℕ) (cr : Bool) (lines : List ℕ) (l : IsLine head line cr lines) → length head ≡ line + length l.part + cond cr 1 0
length-head head line cr lines l =
    let e : length head ≡ length lines + (length l.part + length (tail cr)) =
    ap length l.whole ∙ length-append lines (l.part ++ tail cr) ∙ ap (λ n. length lines + n) (length-append l.part (tail cr)) in
    omega (arith, e, l.start, length-tail cr)

-- the bytes from the line's beginning to its text's end are the text
pub text_is : (head : List ℕ) (line : ℕ) (cr : Bool) (lines : List ℕ) (l : IsLine head line cr lines) (end : ℕ) → end ≡ length head - cond cr 1 0 → take (end - line) (drop line head) ≡ l.part
text_is head line cr lines l end e =
    let d : drop line head ≡ l.part ++ tail cr = ap (drop line) l.whole ∙ drop_at lines (l.part ++ tail cr) line l.start in
    let n : length l.part ≡ end - line = omega (arith, length-head head line cr lines l) in
    ap (take (end - line)) d ∙ take_at l.part (tail cr) (end - line) n

-- the head with its LF is its lines, the text and its end
pub with_lf : (head : List ℕ) (line : ℕ) (cr : Bool) (lines : List ℕ) (l : IsLine head line cr lines) → head ++ 10 ∷ [] ≡ lines ++ (l.part ++ eol cr)
with_lf head line cr lines l =
    ap (λ x. x ++ 10 ∷ []) l.whole ∙ append_assoc lines (l.part ++ tail cr) (10 ∷ [])
    ∙ ap (λ x. lines ++ x) (append_assoc l.part (tail cr) (10 ∷ []) ∙ ap (λ x. l.part ++ x) (tail-eol cr))

more_line : (head : List ℕ) (line : ℕ) (lines : List ℕ) (b : ℕ) → IsLine head line false lines → IsInLine b → length head < 8192 → IsLine (head ++ b ∷ []) line false lines
more_line head line lines b l in_line room = record {
  part = l.part ++ b ∷ [];
  whole = ap (λ x. x ++ b ∷ []) l.whole ∙ simp (append_assoc, append-nil);
  start = l.start;
  each = all_push IsInLine l.part b l.each in_line;
  size = omega (arith, length-append head (b ∷ []));
}

cr_line : (head : List ℕ) (line : ℕ) (lines : List ℕ) → IsLine head line false lines → length head < 8192 → IsLine (head ++ 13 ∷ []) line true lines
cr_line head line lines l room = record {
  part = l.part;
  whole = ap (λ x. x ++ 13 ∷ []) l.whole ∙ simp (append_assoc, append-nil);
  start = l.start;
  each = l.each;
  size = omega (arith, length-append head (13 ∷ []));
}

byte_line : (head : List ℕ) (line : ℕ) (cr : Bool) (lines : List ℕ) (b : ℕ) → IsLine head line cr lines → cr ≡ false → b ≢ 10 → b ≢ 0 → length head < 8192
    → IsLine (head ++ b ∷ []) line (eqb b 13) lines
byte_line head line cr lines b l no_cr no_lf no_nul room =
    let P : Bool → Type 0 = λ x. IsLine head line x lines in
    let open_line : IsLine head line false lines = subst P no_cr l in
    elim (cases_eq b 13) [
      | inl e ↦ let Q : ℕ → Type 0 = λ x. IsLine (head ++ x ∷ []) line (eqb x 13) lines in subst Q (sym e) (cr_line head line lines open_line room)
      | inr ne ↦ let Q : Bool → Type 0 = λ x. IsLine (head ++ b ∷ []) line x lines in subst Q (sym (ne_eqb b 13 ne)) (more_line head line lines b open_line (no_nul, no_lf, ne) room)
    ]

-- a byte of a line is kept
pub byte_kept : (section : Section) (head : List ℕ) (line : ℕ) (cr : Bool) (headers : List (List ℕ × List ℕ)) (body : List ℕ) (b : ℕ) → IsInHead section → IsAt section head line cr headers body
    → cr ≡ false → b ≢ 10 → b ≢ 0 → length head < 8192 → IsAt section (head ++ b ∷ []) line (eqb b 13) headers body
byte_kept Command head line cr headers body b i h no_cr no_lf no_nul room = (byte_line head line cr [] b h.0 no_cr no_lf no_nul room, h.1, h.2)
byte_kept (HeaderLines verb) head line cr headers body b i h no_cr no_lf no_nul room = (h.0, byte_line head line cr h.0 b h.1 no_cr no_lf no_nul room, h.2, h.3, h.4)
byte_kept (Body verb plan) head line cr headers body b i h no_cr no_lf no_nul room = absurd i

-- a head that isn't whole has no body
pub no_body : (section : Section) (head : List ℕ) (line : ℕ) (cr : Bool) (headers : List (List ℕ × List ℕ)) (body : List ℕ) → IsInHead section → IsAt section head line cr headers body → body ≡ []
no_body Command head line cr headers body i h = h.2
no_body (HeaderLines verb) head line cr headers body i h = h.4
no_body (Body verb plan) head line cr headers body i h = absurd i

open_line : (section : Section) (head : List ℕ) (line : ℕ) (cr : Bool) (headers : List (List ℕ × List ℕ)) (body : List ℕ) → IsInHead section → IsAt section head line cr headers body
    → (lines : List ℕ) × IsLine head line cr lines × IsBegun lines
open_line Command head line cr headers body i h = ([], h.0, inl refl)
open_line (HeaderLines verb) head line cr headers body i h = (h.0, h.1, inr (verb, headers, h.2, h.3))
open_line (Body verb plan) head line cr headers body i h = absurd i

pub part_of_head : (section : Section) (head : List ℕ) (line : ℕ) (cr : Bool) (headers : List (List ℕ × List ℕ)) (body : List ℕ) → IsInHead section → IsAt section head line cr headers body
    → (p : IsPartOfHead head) × (p.with_cr ≡ cr)
part_of_head section head line cr headers body i h =
    let o = open_line section head line cr headers body i h in
    (record { lines = o.0; part = o.1.part; with_cr = cr; whole = o.1.whole; begun = o.2; each = o.1.each; size = o.1.size }, refl)

-- a byte more of a head is a byte more of the unfinished frame
pub byte_reads : (head body : List ℕ) (b : ℕ) → body ≡ [] → Frames ((head ++ body) ++ b ∷ []) [] ((head ++ b ∷ []) ++ body)
byte_reads head body b e =
    let P : List ℕ → Type 0 = λ x. Frames ((head ++ x) ++ b ∷ []) [] ((head ++ b ∷ []) ++ x) in
    subst P (sym e) ([], ap (λ x. x ++ b ∷ []) (append-nil head) ∙ sym (append-nil (head ++ b ∷ [])))

-- bytes of a line more
more_run : (head : List ℕ) (line : ℕ) (lines run : List ℕ) → IsLine head line false lines → AllByRecursion IsInLine run → length head + length run ≤ 8192 → IsLine (head ++ run) line false lines
more_run head line lines run l in_line room = record {
  part = l.part ++ run;
  whole = ap (λ x. x ++ run) l.whole ∙ simp (append_assoc, append-nil);
  start = l.start;
  each = all_append IsInLine l.part run l.each in_line;
  size = omega (arith, length-append head run);
}

pub run_kept : (section : Section) (head : List ℕ) (line : ℕ) (cr : Bool) (headers : List (List ℕ × List ℕ)) (body run : List ℕ) → IsInHead section → IsAt section head line cr headers body
    → cr ≡ false → AllByRecursion IsInLine run → length head + length run ≤ 8192 → IsAt section (head ++ run) line false headers body
run_kept Command head line cr headers body run i h no_cr in_line room =
    let P : Bool → Type 0 = λ x. IsLine head line x [] in
    (more_run head line [] run (subst P no_cr h.0) in_line room, h.1, h.2)
run_kept (HeaderLines verb) head line cr headers body run i h no_cr in_line room =
    let P : Bool → Type 0 = λ x. IsLine head line x h.0 in
    (h.0, more_run head line h.0 run (subst P no_cr h.1) in_line room, h.2, h.3, h.4)
run_kept (Body verb plan) head line cr headers body run i h no_cr in_line room = absurd i

pub run_reads : (head body run : List ℕ) → body ≡ [] → Frames ((head ++ body) ++ run) [] ((head ++ run) ++ body)
run_reads head body run e =
    let P : List ℕ → Type 0 = λ x. Frames ((head ++ x) ++ run) [] ((head ++ run) ++ x) in
    subst P (sym e) ([], ap (λ x. x ++ run) (append-nil head) ∙ sym (append-nil (head ++ run)))
