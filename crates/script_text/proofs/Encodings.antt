-- Bytes as `percent_encode` writes them are bytes as the script shows them.
use Rattle.std.proofs.Common.{◌≡◌, ℕ, ◌≤◌, true, false, ◌||◌, ◌==◌, nat_lt, List, [], ◌∷◌, refl, arith, inl, inr}
use Rattle.std.specs.List.{flat_map}
use Rattle.std.proofs.lemmas.Bool.{cases_lt, agree_below, agree_below_at}
use Rattle.std.proofs.Math.Bool.{or-true}
use Rattle.std.proofs.lemmas.Bool.Decides.{nat_tests}
use Rattle.percent_encoding.specs.Percent.{percent_encode, encode_byte}
use Rattle.percent_encoding.specs.AsciiSet.{should_percent_encode}
use Rattle.script_text.specs.declared.percent.TheConstants.{ESCAPED}
use Rattle.script_text.specs.PercentTexts.{is_encoded, encoded}

all_agree : agree_below (should_percent_encode ESCAPED) is_encoded 128 ≡ true
unfolding should_percent_encode
all_agree = refl

outside : (b : ℕ) → 128 ≤ b → should_percent_encode ESCAPED b ≡ is_encoded b
unfolding should_percent_encode
outside b h =
    let p : nat_lt b 128 ≡ false = grind (arith, nat_tests) in
    let q : nat_lt 126 b ≡ true = grind (arith, nat_tests) in
    rw (p, q, or-true (nat_lt b 32 || b == 37)) refl

agrees : (b : ℕ) → should_percent_encode ESCAPED b ≡ is_encoded b
agrees b = elim (cases_lt b 128) [ inl low ↦ agree_below_at (should_percent_encode ESCAPED) is_encoded 128 b all_agree low | inr high ↦ outside b high ]

each : (bytes : List ℕ) → flat_map (encode_byte ESCAPED) bytes ≡ encoded bytes
each [] = refl
each (b ∷ bytes) = rw (agrees b, each bytes) refl

pub encodes : (bytes : List ℕ) → percent_encode ESCAPED bytes ≡ encoded bytes
unfolding percent_encode
encodes bytes = each bytes
