-- The forms of lines are told apart by their first bytes, and lines by their LFs.
use Rattle.std.proofs.Common.{◌≡◌, ◌+◌, ◌/◌, ◌%◌, ◌<◌, ◌≤◌, List, [], ◌∷◌, ◌++◌, ℕ, Option, Some, None, codes, refl, ap, sym, ◌∙◌, arith, inl, inr}
use Rattle.std.specs.Fmt.{decimal}
use Rattle.std.specs.List.{AllByRecursion}
use Rattle.std.proofs.lemmas.Bool.{cases_lt}
use Rattle.std.proofs.lemmas.Fmt.{decimal_injective}
use Rattle.claim_core.specs.declared.limits.TheConstants.{SEATS}
use Rattle.script_text.specs.ScriptLines.{IsLoss, IsCrash}
use Rattle.engine_core.specs.Scripts.{HasNoLf, IsLine, text_of_lines}
use Rattle.script_text.proofs.ConnectionNumbers.{one_digit, two_digits}

-- the first byte of a line, and 0 of an empty one
abbrev pub first_of : List ℕ → ℕ
first_of [] = 0
first_of (b ∷ line) = b

pub blank_first : (line : List ℕ) → line ≡ [] → first_of line ≡ 0
blank_first line is = ap first_of is

pub open_first : (line : List ℕ) → line ≡ codes "open" → first_of line ≡ 111
open_first line is = ap first_of is

pub flush_first : (line : List ℕ) → line ≡ codes "flush" → first_of line ≡ 102
flush_first line is = ap first_of is

pub loss_first : (line : List ℕ) (n : ℕ) → IsLoss line n → first_of line ≡ 108
loss_first line n is = ap first_of is.1

pub crash_first : (line : List ℕ) (k : ℕ) (fill : Option ℕ) → IsCrash line k fill → first_of line ≡ 99
crash_first line k None is = ap first_of is.1
crash_first line k (Some b) is = ap first_of is.1

-- the line begins with a digit
abbrev pub BeginsWithDigit : List ℕ → Type 0
BeginsWithDigit line = (48 ≤ first_of line) × (first_of line ≤ 57)

pub text_first : (line text : List ℕ) (n : ℕ) → n < SEATS → line ≡ decimal n ++ 32 ∷ text → BeginsWithDigit line
text_first line text n small is = elim (cases_lt n 10) [
  | inl low ↦ (let one : first_of line ≡ 48 + n = ap first_of (is ∙ one_digit n (32 ∷ text) low) in omega arith)
  | inr high ↦ (let two : first_of line ≡ 48 + n / 10 = ap first_of (is ∙ two_digits n (32 ∷ text) high (omega arith)) in omega arith)
]

-- a loss is of one connection
pub one_loss : (line : List ℕ) (n m : ℕ) → IsLoss line n → IsLoss line m → n ≡ m
one_loss line n m is also =
    let both : codes "lost " ++ decimal n ≡ codes "lost " ++ decimal m = sym is.1 ∙ also.1 in
    let same : decimal n ≡ decimal m = cc in
    decimal_injective n m (omega (arith, is.0)) (omega (arith, also.0)) same

-- a connection's number and what it receives
abbrev pub AreOne : ℕ → ℕ → List ℕ → List ℕ → Type 0
AreOne n m text other = (n ≡ m) × (text ≡ other)

both_short : (n m : ℕ) (text other : List ℕ) → (48 + n) ∷ 32 ∷ text ≡ (48 + m) ∷ 32 ∷ other → AreOne n m text other
both_short n m text other e =
    let digit : 48 + n ≡ 48 + m = cc in
    let rest : text ≡ other = cc in
    (omega (arith, digit), rest)

short_and_long : (n m : ℕ) (text other : List ℕ) → m < SEATS → (48 + n) ∷ 32 ∷ text ≡ (48 + m / 10) ∷ (48 + m % 10) ∷ 32 ∷ other → ⊥
short_and_long n m text other small e = let second : 32 ≡ 48 + m % 10 = cc in omega (arith, second)

both_long : (n m : ℕ) (text other : List ℕ) → (48 + n / 10) ∷ (48 + n % 10) ∷ 32 ∷ text ≡ (48 + m / 10) ∷ (48 + m % 10) ∷ 32 ∷ other → AreOne n m text other
both_long n m text other e =
    let tens : 48 + n / 10 ≡ 48 + m / 10 = cc in
    let units : 48 + n % 10 ≡ 48 + m % 10 = cc in
    let rest : text ≡ other = cc in
    (omega (arith, tens, units), rest)

pub one_receiver : (n m : ℕ) (text other : List ℕ) → n < SEATS → m < SEATS → decimal n ++ 32 ∷ text ≡ decimal m ++ 32 ∷ other → AreOne n m text other
one_receiver n m text other small less e = elim (cases_lt n 10) [
  | inl low ↦ elim (cases_lt m 10) [
    | inl lower ↦ both_short n m text other (sym (one_digit n (32 ∷ text) low) ∙ e ∙ one_digit m (32 ∷ other) lower)
    | inr higher ↦ absurd (short_and_long n m text other less (sym (one_digit n (32 ∷ text) low) ∙ e ∙ two_digits m (32 ∷ other) higher (omega arith)))
  ]
  | inr high ↦ elim (cases_lt m 10) [
    | inl lower ↦ absurd (short_and_long m n other text small (sym (one_digit m (32 ∷ other) lower) ∙ sym e ∙ two_digits n (32 ∷ text) high (omega arith)))
    | inr higher ↦ both_long n m text other (sym (two_digits n (32 ∷ text) high (omega arith)) ∙ e ∙ two_digits m (32 ∷ other) higher (omega arith))
  ]
]

-- bytes are lines in one way
abbrev AreSame : List ℕ → List ℕ → List ℕ → List ℕ → Type 0
AreSame line other behind after = (line ≡ other) × (behind ≡ after)

one_line : (line other behind after : List ℕ) → HasNoLf line → HasNoLf other → (line ++ 10 ∷ []) ++ behind ≡ (other ++ 10 ∷ []) ++ after → AreSame line other behind after
one_line [] [] behind after none free e = (refl, cc)
one_line [] (b ∷ other) behind after none free e = absurd (free.0 cc)
one_line (a ∷ line) [] behind after none free e = absurd (none.0 cc)
one_line (a ∷ line) (b ∷ other) behind after none free e =
    let first : a ≡ b = cc in
    let rest : (line ++ 10 ∷ []) ++ behind ≡ (other ++ 10 ∷ []) ++ after = cc in
    let same = one_line line other behind after none.1 free.1 rest in
    (ap (λ x. x ∷ line) first ∙ ap (λ x. b ∷ x) same.0, same.1)

no_lines : (line behind : List ℕ) → [] ≡ (line ++ 10 ∷ []) ++ behind → ⊥
no_lines [] behind e = cc
no_lines (b ∷ line) behind e = cc

pub same_lines : (lines others : List (List ℕ)) → AllByRecursion IsLine lines → AllByRecursion IsLine others → text_of_lines lines ≡ text_of_lines others → lines ≡ others
same_lines [] [] each all e = refl
same_lines [] (other ∷ others) each all e = absurd (no_lines other (text_of_lines others) e)
same_lines (line ∷ lines) [] each all e = absurd (no_lines line (text_of_lines lines) (sym e))
same_lines (line ∷ lines) (other ∷ others) each all e =
    let first = one_line line other (text_of_lines lines) (text_of_lines others) each.0.no_lf all.0.no_lf e in
    ap (λ x. x ∷ lines) first.0 ∙ ap (λ x. other ∷ x) (same_lines lines others each.1 all.1 first.1)
