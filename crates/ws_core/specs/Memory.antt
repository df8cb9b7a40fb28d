-- What a link in memory holds, and what its calls do.
use Rattle.std.specs.Prelude.{◌≡◌, ℕ, List, [], ◌∷◌, ◌++◌, ◌-◌, Bool, true, false, drop, flat_map, length, take}
use Rattle.ws_core.specs.declared.link.LinkFault.{LinkFault}
use Rattle.ws_core.specs.declared.link.LinkFault.TheVariants as faults
use Rattle.ws_core.specs.declared.link.Received.{Received}
use Rattle.ws_core.specs.declared.link.Received.TheVariants.{Bytes, Skipped, Nothing, Failed, Closed}

-- The messages that are still to be received, those that were sent, the bytes of those that were received, and whether the link
-- is over.
pub record Remembered : Type 0 where
  pub coming : List (List ℕ)
  pub sent : List (List ℕ)
  pub received : List ℕ
  pub over : Bool

abbrev pub remembered : List (List ℕ) → List (List ℕ) → List ℕ → Bool → Remembered
remembered coming sent received over = record { coming = coming; sent = sent; received = received; over = over }

-- of all messages, these are the last
abbrev pub IsRest : List (List ℕ) → List (List ℕ) → Type 0
IsRest all rest = (before : List (List ℕ)) × (all ≡ before ++ rest)

-- the bytes of the messages in front of these
unfoldable pub joined_before : List (List ℕ) → List (List ℕ) → List ℕ
joined_before all rest = flat_map (λ message. message) (take (length all - length rest) all)

-- the next message, nothing if there is none left, and Closed once the link is over
abbrev pub Recalls : Remembered → Remembered → Received → Type 0
Recalls old new (Bytes v) =
    (old.over ≡ false) × (old.coming ≡ v.items ∷ new.coming) × (new ≡ remembered new.coming old.sent (old.received ++ v.items) false)
Recalls old new Skipped = ⊥
Recalls old new Failed = ⊥
Recalls old new Nothing = (old.over ≡ false) × (old.coming ≡ []) × (new ≡ old)
Recalls old new Closed = (old.over ≡ true) × (new ≡ old)

-- one message more was sent
abbrev pub with_sent : Remembered → List ℕ → Remembered
with_sent old bytes = remembered old.coming (old.sent ++ bytes ∷ []) old.received old.over

-- it is over
abbrev pub ended : Remembered → Remembered
ended old = remembered old.coming old.sent old.received true

-- a refusal leaves the same link: one that is over if it is gone, or one that goes on
abbrev pub Forgoes : Remembered → Remembered → LinkFault → Type 0
Forgoes old new faults.Gone = (old.over ≡ true) × (new ≡ old)
Forgoes old new faults.Memory = (old.over ≡ false) × (new ≡ old)
