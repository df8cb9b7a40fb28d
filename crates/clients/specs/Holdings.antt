-- What is kept for a connection, and counts as its memory.
use Rattle.std.specs.Prelude.{◌≡◌, ◌≤◌, ◌+◌, ◌-◌, ◌^◌, ℕ, true, false, Option, Some, None, min}
use Rattle.clients.specs.Connections.{connection_of, kept_in}
use Rattle.clients.specs.Weights.{op_weight}
use Rattle.outbox_core.specs.Boxes.{TakerValue}
use Rattle.outbox_core.specs.Weights.{most_waiting}
use Rattle.clients.specs.Boxes.{BoxEntry}
use Rattle.clients.specs.declared.desk.Seated.{Seated}
use Rattle.clients.specs.declared.client.Client.{Client}
use Rattle.clients.specs.Places.{has_no_link}

-- what an entry counts for that waits for room
abbrev pub entry_weight : Option BoxEntry → ℕ
entry_weight None = 0
entry_weight (Some entry) = op_weight entry.command.op entry.command.receipt

-- what is kept of what its client said, with the entry that waits for room
abbrev pub kept_by : {B : Type 0} → Client B → ℕ
kept_by client = kept_in (connection_of client) + entry_weight client.waiting

-- so many bytes may wait in an outbox, if there is one
abbrev pub MayWait : Option TakerValue → ℕ → Type 0
MayWait None bytes = bytes ≡ 0
MayWait (Some taker) bytes = bytes ≤ most_waiting taker.size

-- So many bytes are kept for a client whose link keeps so many: these, what it said, and what waits in its outbox; or 2^64 - 1 if
-- they are more.
pub record IsKept {B : Type 0} (client : Client B) (linked bytes : ℕ) : Type 0 where
  pub waiting : ℕ
  pub waits : MayWait client.outbox waiting
  pub sum : bytes ≡ min (waiting + kept_by client + linked) (2 ^ 64 - 1)

-- So many bytes are kept for one who sits there: nothing once its link is over, since then it is being let go.
pub record IsHeld {B L : Type 0} (keeps : L → ℕ → Type 0) (seated : Seated B L) (bytes : ℕ) : Type 0 where
  pub left : has_no_link seated.client.stage ≡ true → bytes ≡ 0
  pub stays : has_no_link seated.client.stage ≡ false → (linked : ℕ) × keeps seated.link linked × IsKept seated.client linked bytes

-- so many bytes are kept for a place: nothing if nobody sits there
abbrev pub HeldAt : {B L : Type 0} → (L → ℕ → Type 0) → Option (Seated B L) → ℕ → Type 0
HeldAt keeps None bytes = bytes ≡ 0
HeldAt keeps (Some seated) bytes = IsHeld keeps seated bytes
