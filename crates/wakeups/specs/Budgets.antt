-- Who is given up if all clients together hold more memory than they may.
use Rattle.std.specs.Prelude.{◌≡◌, ◌<◌, ◌≤◌, ◌+◌, ◌-◌, ◌*◌, ◌^◌, ◌⊎◌, ℕ, List, cond, eqb, length, min, nat_lt}
use Rattle.std.specs.List.{All, slice_index_or, sum_by}
use Rattle.wakeups.specs.declared.memory.DeskHolds.{DeskHolds}
use Rattle.wakeups.specs.declared.memory.Holdings.{Holdings}

-- nobody here holds more than the one at that place
abbrev pub IsMost : List ℕ → ℕ → Type 0
IsMost here at = (at < length here) × All (λ held. held ≤ slice_index_or here at 0) here

-- how many bytes each of some clients holds, and the place of one that holds most
pub record ClientBytesValue : Type 0 where
  pub bytes : List ℕ
  pub most : ℕ

-- it is no less than a fair share, the budget divided by the number of clients
abbrev pub HasFairShare : Holdings → ℕ → Type 0
HasFairShare h held = h.budget ≤ held * h.clients

-- The client at that place is given up. All together hold more than the budget, and nobody holds more than it, here or elsewhere. It
-- holds no less than a fair share.
pub record IsGivenUp (h : Holdings) (here : List ℕ) (at : ℕ) : Type 0 where
  pub over : h.budget < h.total
  pub most : IsMost here at
  pub elsewhere : h.elsewhere ≤ slice_index_or here at 0
  pub fair : HasFairShare h (slice_index_or here at 0)

-- how many clients all desks have
abbrev pub count_clients : List DeskHolds → ℕ
count_clients desks = sum_by (λ (desk : DeskHolds). desk.clients) desks

-- For how many bytes the client counts that holds most at the desk of a number, if another desk decides: for a byte more than it holds if its
-- desk has the lower number. A desk leaves out its own.
abbrev pub counts_for : (decides at : ℕ) → DeskHolds → ℕ
counts_for decides at holds = cond (eqb at decides) 0 (cond (nat_lt at decides) (min (holds.most + 1) (2 ^ 64 - 1)) holds.most)

-- for how many that of the desk of that number counts among these
abbrev pub counts_there : (decides at : ℕ) → List DeskHolds → ℕ
counts_there decides at desks = counts_for decides at (slice_index_or desks at (record { clients = 0; most = 0 }))

-- at no other desk a client counts for more bytes than that, and at one of them a client counts for as many, unless that is 0
pub record IsMostElsewhere (decides : ℕ) (desks : List DeskHolds) (most : ℕ) : Type 0 where
  pub least : (at : ℕ) → at < length desks → counts_there decides at desks ≤ most
  pub reached : (most ≡ 0) ⊎ ((at : ℕ) × (at < length desks) × (most ≡ counts_there decides at desks))

-- the desk of that number knows that of all clients, if the desks tell this
pub record IsKnownBy (decides : ℕ) (h : Holdings) (desks : List DeskHolds) : Type 0 where
  pub clients : h.clients ≡ min (count_clients desks) (2 ^ 64 - 1)
  pub elsewhere : IsMostElsewhere decides desks h.elsewhere
