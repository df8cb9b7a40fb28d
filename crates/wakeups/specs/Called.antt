-- The bits of a desk's clients, by which they are called for.
use Rattle.std.specs.Prelude.{◌≡◌, ◌<◌, ◌+◌, ◌-◌, ◌*◌, ◌^◌, ℕ, min}
use Rattle.std.specs.Int.{bit_at}
use Rattle.wakeups.specs.declared.mailbox.Called.{Called}
use Rattle.wakeups.specs.declared.mailbox.TheConstants.{BITS}

-- in that word this number has the bit of that client, and no other
pub record IsBitOf (client word bit : ℕ) : Type 0 where
  pub place : ℕ
  pub within : place < BITS
  pub client_is : client ≡ word * BITS + place
  pub bit_is : bit ≡ 2 ^ place

-- that client was called for, and the others still are
pub record IsNextCall (old new : Called) (client : ℕ) : Type 0 where
  pub place : ℕ
  pub within : place < BITS
  pub client_is : client ≡ min (old.first + place) (2 ^ 64 - 1)
  pub called : bit_at old.bits place ≡ 1
  pub bits : new.bits + 2 ^ place ≡ old.bits
  pub first : new.first ≡ old.first
