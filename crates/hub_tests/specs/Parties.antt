-- What a test has of a hub.
use Rattle.std.specs.Prelude.{◌≡◌, ◌+◌, ℕ, List, All, false, length}
use Rattle.atomic_table.specs.Seated.{TableId}
use Rattle.claim_core.specs.Seats.{SessionSeatValue}
use Rattle.flush_core.specs.Flusher.{Flushed}
use Rattle.engine_core.specs.Hubs.{HubValue}

-- each of these seats is of that ring
abbrev pub AreAt : TableId → List SessionSeatValue → Type 0
AreAt ring seats = All (λ (seat : SessionSeatValue). seat.ring ≡ ring) seats

-- so many seats and the flusher are of the hub's ring, and the hub has all other seats of it
abbrev pub AreTogether : {D : Type 0} → ℕ → HubValue D → List SessionSeatValue → Flushed D → Type 0
AreTogether count hub seats flusher = AreAt hub.ring seats × (flusher.seat.ring ≡ hub.ring) × (length seats ≡ count) × (count + length hub.seats ≡ flusher.seat.seats)

-- a flusher of that ring may turn
abbrev pub MayFlush : {D : Type 0} → TableId → Flushed D → Type 0
MayFlush ring f = (f.seat.ring ≡ ring) × (f.broken ≡ false → f.executed ≡ f.stored)
