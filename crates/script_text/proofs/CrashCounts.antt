-- A number of calls in a line.
use Rattle.std.proofs.Common.{◌≡◌, ◌-◌, ◌++◌, List, ℕ, Some, None, Result, Ok, Err, arith, codes, drop, take, true, length, length-append, sym, ◌∙◌, ap, subst}
use Rattle.std.proofs.Transfers.{drop-appended}
use Rattle.std.proofs.lemmas.List.{take-append-drop}
use Rattle.std.proofs.lemmas.Slice.Eq.{bytes_eq-Decides}
use Rattle.std.specs.Fmt.{decimal}
use Rattle.std.specs.Str.{IsUtf8, bytes_eq}
use Rattle.std.specs.Str.Parse.{ParsesUnsigned}
use Rattle.std.proofs.lemmas.Fmt.{IsAscii-decimal, parse-decimal}
use Rattle.std.proofs.lemmas.Str.{IsUtf8-from_ascii}
use Rattle.script_text.specs.ScriptLines.{IsCountAndFill, IsNoCount, IsNoCountAndFill, IsNoCrash}

pub of_no_text : (text : List ℕ) → (IsUtf8 text → ⊥) → IsNoCount text
of_no_text text bad k small e = bad (subst IsUtf8 (sym e) (IsUtf8-from_ascii (decimal k) (IsAscii-decimal k small)))

pub of_no_number : {E : Type 0} (text digits : List ℕ) (r : Result ℕ E) (x : E) → digits ≡ text → ParsesUnsigned 64 10 digits r → r ≡ Err x → IsNoCount text
of_no_number text digits r x same parses is k small e = let ok : r ≡ Ok k = parse-decimal 64 k digits r small small (same ∙ e) parses in cc

pub of_other_number : {E : Type 0} (text digits : List ℕ) (n : ℕ) (r : Result ℕ E) → digits ≡ text → ParsesUnsigned 64 10 digits r → r ≡ Ok n → (digits ≡ decimal n → ⊥) → IsNoCount text
of_other_number text digits n r same parses is other k small e =
    let ok : r ≡ Ok k = parse-decimal 64 k digits r small small (same ∙ e) parses in
    let one : n ≡ k = cc in
    other (same ∙ e ∙ ap decimal (sym one))

-- the last three bytes
pub tail_of : (text front tail : List ℕ) → text ≡ front ++ tail → length tail ≡ 3 → drop (length text - 3) text ≡ tail
tail_of text front tail is three =
    let n : length text - 3 ≡ length front = omega (arith, ap (λ (t : List ℕ). length t) is, length-append front tail, three) in
    ap (λ k. drop k text) n ∙ drop-appended front text tail is

-- what stands behind a prefix
pub prefix_of : (line front text : List ℕ) → bytes_eq (take (length front) line) front ≡ true → text ≡ drop (length front) line → line ≡ front ++ text
prefix_of line front text same rest =
    sym (take-append-drop (length front) line) ∙ ap (λ x. x ++ drop (length front) line) ((bytes_eq-Decides (take (length front) line) front).0 same) ∙ ap (λ x. front ++ x) (sym rest)

pub of_no_crash : (line text : List ℕ) → line ≡ codes "crash " ++ text → IsNoCountAndFill text → IsNoCount text → IsNoCrash line
of_no_crash line text is filled bare k None said =
    let whole : codes "crash " ++ text ≡ codes "crash " ++ said.0 = sym is ∙ said.1 in
    let same : text ≡ said.0 = cc in
    bare k said.2.0 (same ∙ said.2.1)
of_no_crash line text is filled bare k (Some b) said =
    let whole : codes "crash " ++ text ≡ codes "crash " ++ said.0 = sym is ∙ said.1 in
    let same : text ≡ said.0 = cc in
    filled k b (subst (λ t. IsCountAndFill t k b) (sym same) said.2)
