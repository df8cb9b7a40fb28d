-- The number that a text is in decimal.
use Rattle.std.proofs.Common.{◌≡◌, ◌≢◌, ℕ, ◌<◌, ◌≤◌, ◌^◌, ◌&&◌, ◌∙◌, Bool, true, false, cond, List, [], ◌∷◌, Option, Some, None, Err, length, get_or, refl, ap, sym, subst, arith, rules, nat_lt, zero, suc}
use Rattle.std.specs.Fmt.{decimal}
use Rattle.std.specs.Str.{bytes_eq}
use Rattle.std.specs.Str.Parse.{AllDigits, IsNumeral, ParsesUnsigned, digits_value, without_leading_plus}
use Rattle.std.proofs.lemmas.Cmp.{nat_list_eq_equiv}
use Rattle.std.proofs.lemmas.Fmt.{decimal-digits_value, decimal_digit, decimal_nonempty, digits_value-decimal, first_decimal, parse-decimal}
use Rattle.std.proofs.lemmas.Slice.Eq.{bytes_eq-Decides}
use Rattle.std.proofs.lemmas.Str.Parse.{IsNumeralModel, numerals_by_value, tells_digits, without_leading_plus_none}
use Rattle.session_core.specs.Numbers.{decimal_value}

own : IsNumeralModel (AllDigits 10) (digits_value 10)
own = numerals_by_value (AllDigits 10) tells_digits

pub has_value : (text : List ℕ) (n : ℕ) → n < 2 ^ 64 → text ≡ decimal n → decimal_value text ≡ Some n
has_value text n small e =
    let value : digits_value 10 text ≡ n = ap (digits_value 10) e ∙ digits_value-decimal own n small in
    let same : bytes_eq (decimal n) text ≡ true = ap (bytes_eq (decimal n)) e ∙ nat_list_eq_equiv.refl (decimal n) in
    let below : nat_lt n (2 ^ 64) ≡ true = search (rules, small) in
    rw (value, below, same) refl

picked : (b c : Bool) (v n : ℕ) (text : List ℕ) → (b ≡ true → v < 2 ^ 64) → (c ≡ true → decimal v ≡ text) → cond (b && c) (Some v) None ≡ Some n → (n < 2 ^ 64) × (text ≡ decimal n)
picked true true v n text below same e = let is : v ≡ n = cc in (subst (λ k. k < 2 ^ 64) is (below refl), sym (same refl) ∙ ap decimal is)
picked true false v n text below same e = cc
picked false c v n text below same e = cc

pub is_value : (text : List ℕ) (n : ℕ) → decimal_value text ≡ Some n → (n < 2 ^ 64) × (text ≡ decimal n)
is_value text n e =
    let v = digits_value 10 text in
    picked (nat_lt v (2 ^ 64)) (bytes_eq (decimal v) text) v n text (λ b. search (rules, b)) (λ c. (bytes_eq-Decides (decimal v) text).0 c) e

none_if : (o : Option ℕ) → ((n : ℕ) → o ≡ Some n → ⊥) → o ≡ None
none_if None h = refl
none_if (Some n) h = absurd (h n refl)

pub no_value : (text : List ℕ) → ((n : ℕ) → n < 2 ^ 64 → text ≡ decimal n → ⊥) → decimal_value text ≡ None
no_value text h = none_if (decimal_value text) (λ n e. let is = is_value text n e in h n is.0 is.1)

-- a decimal begins with a digit, and with `0` only where it is `0`
zero_text : decimal 0 ≡ 48 ∷ []
zero_text = decimal_digit 0 (omega arith)

pub not_empty : (text : List ℕ) → length text ≡ 0 → decimal_value text ≡ None
not_empty text none = no_value text (λ n small e. let some : 0 < length text = rw e (decimal_nonempty n small) in omega arith)

no_plus : (text : List ℕ) → get_or text 0 0 ≡ 43 → (n : ℕ) → n < 2 ^ 64 → text ≡ decimal n → ⊥
no_plus text first zero small e = let is : get_or text 0 0 ≡ 48 = ap (λ t. get_or t 0 0) (e ∙ zero_text) in omega arith
no_plus text first (suc n) small e = let above : 48 < get_or text 0 0 = rw e (first_decimal (suc n) (omega arith) small) in omega arith

pub plus_first : (text : List ℕ) → get_or text 0 0 ≡ 43 → decimal_value text ≡ None
plus_first text first = no_value text (no_plus text first)

no_zeros : (text : List ℕ) → get_or text 0 0 ≡ 48 → 1 < length text → (n : ℕ) → n < 2 ^ 64 → text ≡ decimal n → ⊥
no_zeros text first long zero small e = let one : length text ≡ 1 = ap (λ (t : List ℕ). length t) (e ∙ zero_text) in omega arith
no_zeros text first long (suc n) small e = let above : 48 < get_or text 0 0 = rw e (first_decimal (suc n) (omega arith) small) in omega arith

pub zero_first : (text : List ℕ) → get_or text 0 0 ≡ 48 → 1 < length text → decimal_value text ≡ None
zero_first text first long = no_value text (no_zeros text first long)

pub not_parsed : {E : Type 0} (text : List ℕ) (e : E) → ParsesUnsigned 64 10 text (Err e) → decimal_value text ≡ None
not_parsed {E} text e refused = no_value text (λ n small is. let ok = parse-decimal {E = E} 64 n text (Err e) small small is refused in cc)

pub parsed : (text : List ℕ) (n : ℕ) → get_or text 0 0 ≢ 43 → (get_or text 0 0 ≡ 48 → length text ≤ 1)
    → (IsNumeral 10 (without_leading_plus text) × (digits_value 10 (without_leading_plus text) < 2 ^ 64)) × (n ≡ digits_value 10 (without_leading_plus text)) → Some n ≡ decimal_value text
parsed text n plus zeros ok =
    let same : without_leading_plus text ≡ text = without_leading_plus_none text plus in
    let is = subst (λ (t : List ℕ). (IsNumeral 10 t × (digits_value 10 t < 2 ^ 64)) × (n ≡ digits_value 10 t)) same ok in
    let whole = decimal-digits_value own text is.0.0.1 is.0.0.0 (λ z. omega (arith, zeros z, is.0.0.0)) is.0.1 in
    sym (has_value text n (subst (λ k. k < 2 ^ 64) (sym is.1) is.0.1) (sym whole ∙ ap decimal (sym is.1)))
