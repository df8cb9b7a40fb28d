-- How bytes are frames of a client (RFC 6455, section 5.2).
use Rattle.std.specs.Prelude.{◌≡◌, ◌==◌, ◌+◌, ◌++◌, ◌*◌, ◌-◌, ◌^◌, ◌%◌, ℕ, Bool, true, false, List, [], ◌∷◌, cond, length, min, nat_lt}
use Rattle.clients.specs.declared.read_budget.FrameProgress.{FrameProgress}
use Rattle.clients.specs.declared.read_budget.FrameProgress.TheVariants.{Front, Second, Length, Payload}

-- a number of 64 bits, or the greatest of them
abbrev capped : ℕ → ℕ
capped n = min n (2 ^ 64 - 1)

-- the length of a payload is in the second byte, or in the two or eight after it; a mask of four bytes comes between
abbrev pub behind_second : ℕ → FrameProgress
behind_second n = cond (n == 126) (Length 2 0) (cond (n == 127) (Length 8 0) (Payload (4 + n)))

-- a length with one byte more
abbrev grown : ℕ → ℕ → ℕ
grown before byte = capped (capped (before * 256) + byte)

-- one byte later
abbrev pub step : FrameProgress → ℕ → FrameProgress
step Front byte = Second
step Second byte = behind_second (byte % 128)
step (Length count before) byte = cond (nat_lt 1 count) (Length (count - 1) (grown before byte)) (Payload (capped (grown before byte + 4)))
step (Payload count) byte = cond (nat_lt 1 count) (Payload (count - 1)) Front

-- a frame has just ended
abbrev pub is_front : FrameProgress → Bool
is_front Front = true
is_front Second = false
is_front (Length count before) = false
is_front (Payload count) = false

-- after these bytes
abbrev pub passed : FrameProgress → List ℕ → FrameProgress
passed place [] = place
passed place (byte ∷ bytes) = passed (step place byte) bytes

-- how many frames end in these bytes
abbrev pub ended : FrameProgress → List ℕ → ℕ
ended place [] = 0
ended place (byte ∷ bytes) = cond (is_front (step place byte)) 1 0 + ended (step place byte) bytes

-- so many of these bytes were passed; before them so many frames could still end, and now so many can
pub record Passes (old new : FrameProgress) (before left : ℕ) (bytes : List ℕ) (count : ℕ) : Type 0 where
  pub front : List ℕ
  pub rest : List ℕ
  pub whole : bytes ≡ front ++ rest
  pub count_is : count ≡ length front
  pub place : new ≡ passed old front
  pub ends : ended old front + left ≡ before
