-- The lowest bit of a word of calls.
use Rattle.std.proofs.Common.{◌≡◌, ◌<◌, ◌≤◌, ◌-◌, ◌*◌, ◌+◌, ◌^◌, ◌%◌, ℕ, arith, min, refl}
use Rattle.std.specs.Int.{bit_at, trailing_zeros, w64}
use Rattle.std.proofs.lemmas.Nat.{one_shl}
use Rattle.std.proofs.lemmas.Nat.Bits.{bit_at-trailing_zeros, bit_at_above}
use Rattle.wakeups.specs.Called.{IsNextCall}
use Rattle.wakeups.specs.declared.mailbox.Called.{Called}

-- a number with that bit is no less than the bit alone
reaches : (n k : ℕ) → bit_at n k ≡ 1 → 2 ^ k ≤ n
reaches n k has =
    let none : n < 2 ^ k → bit_at n k ≡ 0 = λ less. bit_at_above n k k less (omega arith) in
    grind (arith, has, none)

module _ (n : ℕ) (some : 0 < n) (fits : n < 2 ^ 64) where
  pub alone : 1 * 2 ^ trailing_zeros w64 n % 2 ^ 64 ≡ 2 ^ trailing_zeros w64 n
  alone = one_shl (trailing_zeros w64 n) 64 (bit_at-trailing_zeros w64 n some fits).0

  pub not_more : 1 * 2 ^ trailing_zeros w64 n % 2 ^ 64 ≤ n
  not_more =
      let is = alone in
      let reached = reaches n (trailing_zeros w64 n) (bit_at-trailing_zeros w64 n some fits).1 in
      omega (arith, is, reached)

pub next_call : (old : Called) → 0 < old.bits → old.bits < 2 ^ 64 → (client : ℕ) → client ≡ min (old.first + trailing_zeros w64 old.bits) (2 ^ 64 - 1)
    → IsNextCall old (record old { bits = old.bits - 1 * 2 ^ trailing_zeros w64 old.bits % 2 ^ 64 }) client
next_call old some fits client is =
    let at = bit_at-trailing_zeros w64 old.bits some fits in
    let one = alone old.bits some fits in
    let within = not_more old.bits some fits in
    record {
      place = trailing_zeros w64 old.bits;
      within = at.0;
      client_is = is;
      called = at.1;
      bits = omega (arith, one, within);
      first = refl;
    }
