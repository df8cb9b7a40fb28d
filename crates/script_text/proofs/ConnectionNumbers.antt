-- How a line begins that names a connection.
use Rattle.std.proofs.Common.{◌≡◌, ◌≢◌, ℕ, ◌+◌, ◌-◌, ◌/◌, ◌%◌, ◌<◌, ◌≤◌, ◌^◌, List, [], ◌∷◌, ◌++◌, length, take, drop, refl, ap, sym, ◌∙◌, arith, inl, inr, subst}
use Rattle.std.specs.Fmt.{decimal}
use Rattle.std.proofs.lemmas.Fmt.{decimal_digit, decimal_step}
use Rattle.std.proofs.lemmas.Bool.{cases_lt}
use Rattle.claim_core.specs.declared.limits.TheConstants.{SEATS}
use Rattle.script_text.specs.ScriptLines.{IsOfNoForm, IsNoCrash, IsNoLoss, IsNumber, IsNoNumber, IsDigit, AreDigits, AreNoDigits, HasDigit, HasNoDigit, HasDigits, HasNoDigits}
use Rattle.std.specs.Prelude.{codes, Option, Some, None, MatchOption, slice_index}
use Rattle.std.proofs.Common.{take_all, length-drop, false, ◌==◌}
use Rattle.std.specs.Str.{bytes_eq}

pub one_digit : (n : ℕ) (s : List ℕ) → n < 10 → decimal n ++ s ≡ (48 + n) ∷ s
one_digit n s small = rw (decimal_digit n small)

pub two_digits : (n : ℕ) (s : List ℕ) → 10 ≤ n → n < 100 → decimal n ++ s ≡ (48 + n / 10) ∷ (48 + n % 10) ∷ s
two_digits n s low high =
    let tens : n / 10 < 10 = omega arith in
    let wide : n < 2 ^ 64 = omega arith in
    rw (decimal_step n low wide, decimal_digit (n / 10) tens)

pub of_no_form : (line : List ℕ) → line ≢ [] → line ≢ codes "flush" → line ≢ codes "open" → IsNoCrash line → IsNoLoss line → HasNoDigit line → HasNoDigits line → IsOfNoForm line
of_no_form line some other shut whole stays one two = record {
  not_blank = some;
  not_flush = other;
  not_open = shut;
  not_crash = whole;
  not_lost = stays;
  not_received = λ n text small e. elim (cases_lt n 10) [ inl low ↦ one n text low (e ∙ one_digit n (32 ∷ text) low) | inr high ↦ two n text high small (e ∙ two_digits n (32 ∷ text) high (omega arith)) ];
}

pub received_digit : (line : List ℕ) (n : ℕ) → HasDigit line n → (n < SEATS) × (line ≡ decimal n ++ 32 ∷ take (length line - 2) (drop 2 line))
received_digit line n h =
    let all : take (length line - 2) (drop 2 line) ≡ drop 2 line = take_all (length line - 2) (drop 2 line) (omega (arith, length-drop 2 line)) in
    (omega arith, rw (all) (h.2 ∙ sym (one_digit n (32 ∷ drop 2 line) h.0)))

pub received_digits : (line : List ℕ) (n : ℕ) → HasDigits line n → (n < SEATS) × (line ≡ decimal n ++ 32 ∷ take (length line - 3) (drop 3 line))
received_digits line n h =
    let all : take (length line - 3) (drop 3 line) ≡ drop 3 line = take_all (length line - 3) (drop 3 line) (omega (arith, length-drop 3 line)) in
    (h.1, rw (all) (h.3 ∙ sym (two_digits n (32 ∷ drop 3 line) h.0 (omega arith))))

pub not_empty : (line : List ℕ) → (length line == 0) ≡ false → line ≢ []
not_empty [] h e = cc
not_empty (x ∷ s) h e = cc

pub not_flush : (line : List ℕ) → bytes_eq line (codes "flush") ≡ false → line ≢ codes "flush"
not_flush line h e = let g : bytes_eq (codes "flush") (codes "flush") ≡ false = subst (λ l. bytes_eq l (codes "flush") ≡ false) e h in cc

pub not_open : (line : List ℕ) → bytes_eq line (codes "open") ≡ false → line ≢ codes "open"
not_open line h e = let g : bytes_eq (codes "open") (codes "open") ≡ false = subst (λ l. bytes_eq l (codes "open") ≡ false) e h in cc

one_digit_alone : (n : ℕ) → n < 10 → decimal n ≡ (48 + n) ∷ []
one_digit_alone n small = decimal_digit n small

two_digits_alone : (n : ℕ) → 10 ≤ n → n < SEATS → decimal n ≡ (48 + n / 10) ∷ (48 + n % 10) ∷ []
two_digits_alone n low high =
    let tens : n / 10 < 10 = omega arith in
    let wide : n < 2 ^ 64 = omega arith in
    rw (decimal_step n low wide, decimal_digit (n / 10) tens) refl

no_digit : (b n : ℕ) → (IsDigit b → ⊥) → n < 10 → b ∷ [] ≢ (48 + n) ∷ []
no_digit b n none small e = let same : b ≡ 48 + n = cc in none (omega (arith, same), omega (arith, same))

no_digits : (tens units n : ℕ) → AreNoDigits tens units → 10 ≤ n → n < SEATS → tens ∷ units ∷ [] ≢ (48 + n / 10) ∷ (48 + n % 10) ∷ []
no_digits tens units n none low high e =
    let first : tens ≡ 48 + n / 10 = cc in
    let second : units ≡ 48 + n % 10 = cc in
    none n (low, high, first, second)

-- a text of one byte
pub of_one : (text : List ℕ) (found : Option ℕ) → length text ≡ 1 → MatchOption found (IsDigit (slice_index text 0) → ⊥) (λ d. (slice_index text 0 ≡ 48 + d) × (d < 10)) → MatchOption found (IsNoNumber text) (IsNumber text)
of_one [] found short h = absurd (omega (arith, short))
of_one (b ∷ []) None short h = λ n small e. elim (cases_lt n 10) [ inl low ↦ no_digit b n h low (e ∙ one_digit_alone n low) | inr high ↦ let two = two_digits_alone n high small in cc ]
of_one (b ∷ []) (Some d) short h = (omega (arith, h.1), rw (h.0) (sym (one_digit_alone d h.1)))
of_one (b ∷ c ∷ text) found short h = absurd (omega (arith, short))

-- a text of two bytes
pub of_two : (text : List ℕ) (found : Option ℕ) → length text ≡ 2 → MatchOption found (AreNoDigits (slice_index text 0) (slice_index text 1)) (AreDigits (slice_index text 0) (slice_index text 1)) → MatchOption found (IsNoNumber text) (IsNumber text)
of_two [] found short h = absurd (omega (arith, short))
of_two (b ∷ []) found short h = absurd (omega (arith, short))
of_two (b ∷ c ∷ []) None short h = λ n small e. elim (cases_lt n 10) [ inl low ↦ (let one = one_digit_alone n low in cc) | inr high ↦ no_digits b c n h high small (e ∙ two_digits_alone n high small) ]
of_two (b ∷ c ∷ []) (Some n) short h = (h.1, rw (h.2, h.3) (sym (two_digits_alone n h.0 h.1)))
of_two (b ∷ c ∷ d ∷ text) found short h = absurd (omega (arith, short))

-- a text of fewer or more
pub of_others : (text : List ℕ) → length text ≢ 1 → length text ≢ 2 → IsNoNumber text
of_others text one two n small e = elim (cases_lt n 10) [
  | inl low ↦ one (ap length (e ∙ one_digit_alone n low))
  | inr high ↦ two (ap length (e ∙ two_digits_alone n high small))
]
