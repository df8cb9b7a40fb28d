use Rattle.std.proofs.Common.{◌≡◌, ◌<◌, ◌≤◌, ◌^◌, ℕ, List, [], ◌∷◌, Some, false, eqb, length, refl, arith}
use Rattle.std.specs.List.{slice_get}
use Rattle.std.specs.Option.{option_eq}
use Rattle.std.specs.Str.Parse.{IsNumeral, digits_value, without_leading_plus}
use Rattle.std.proofs.Math.Nat.{pow-le-pow_right}
use Rattle.std.proofs.lemmas.Int.Digits.{digits_value-lt}

-- where no plus stands first there is none to leave out
pub no_plus : (text : List ℕ) → option_eq eqb (slice_get text 0) (Some 43) ≡ false → without_leading_plus text ≡ text
no_plus [] h = refl
no_plus (b ∷ text) h = let no : eqb b 43 ≡ false = h in rw no refl

-- ten digits are a number below 2 ^ 64
pub short_number : (text : List ℕ) → IsNumeral 10 text → length text ≤ 10 → digits_value 10 text < 2 ^ 64
short_number text numeral short =
    let below = digits_value-lt 10 text numeral.1 in
    let power : 10 ^ length text ≤ 10 ^ 10 = pow-le-pow_right {n = 10} (omega arith) short in
    omega (arith, below, power)

pub no_number : (text : List ℕ) → option_eq eqb (slice_get text 0) (Some 43) ≡ false → length text ≤ 10
    → (IsNumeral 10 (without_leading_plus text) × (digits_value 10 (without_leading_plus text) < 2 ^ 64) → ⊥) → IsNumeral 10 text → ⊥
no_number text plus short refused numeral =
    let same = no_plus text plus in
    refused (rw same (numeral, short_number text numeral short))
