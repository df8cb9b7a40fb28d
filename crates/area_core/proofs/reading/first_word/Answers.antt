use Rattle.std.proofs.Common.{◌/◌, ◌%◌, ◌^◌, ℕ, refl, ◌∙◌, ap, arith, inl, inr}
use Rattle.std.specs.Int.{w64, to_be_bytes}
use Rattle.area_core.proofs.reading.first_word.Goals as goal

pub returns-in_default-clause-refused : goal.returns-in_default-clause-refused
returns-in_default-clause-refused g c honest = (
  refl,
  record {
    high = c.in_ok-word.word / 2 ^ 56;
    count = c.in_ok-word.word % 2 ^ 56;
    told = c.in_ok-word.ensures.number honest ∙ ap (λ (n : ℕ). to_be_bytes w64 n) (omega arith);
    byte = omega arith;
    seven = omega arith;
    bad = inl (c.in_default.ensures.none refl);
  },
)

pub returns-then-length-size-clause-refused : goal.returns-then-length-size-clause-refused
returns-then-length-size-clause-refused g c honest = (
  refl,
  record {
    high = c.in_ok-word.word / 2 ^ 56;
    count = c.in_ok-word.word % 2 ^ 56;
    told = c.in_ok-word.ensures.number honest ∙ ap (λ (n : ℕ). to_be_bytes w64 n) (omega arith);
    byte = omega arith;
    seven = omega arith;
    bad = inr (omega (arith, c.if-length-size.true));
  },
)
