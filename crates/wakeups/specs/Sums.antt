-- The sum of what all clients hold.
use Rattle.std.specs.Prelude.{ℕ, Bool, true, false, List, ◌+◌, ◌-◌, ◌≤◌, cond, nat_lt, slice_set}
use Rattle.clients.specs.declared.wakers.TheConstants.{CLIENTS}
use Rattle.wakeups.specs.declared.memory.Change.{Change}
use Rattle.wakeups.specs.declared.memory.Change.TheVariants.{Same, More, Less}

-- the sum once it has changed so
abbrev pub changed : Change → ℕ → ℕ
changed Same total = total
changed (More bytes) total = total + bytes
changed (Less bytes) total = total - bytes

-- no more is taken off a sum than it is
abbrev pub Applies : Change → ℕ → Type 0
Applies Same total = Unit {0}
Applies (More bytes) total = Unit {0}
Applies (Less bytes) total = bytes ≤ total

-- the sum is more than it was
abbrev pub is_more : Change → Bool
is_more Same = false
is_more (More bytes) = true
is_more (Less bytes) = false

-- what each client holds once the one at that place holds so much; nothing changes if there is no such place
abbrev pub counted : ℕ → ℕ → List ℕ → List ℕ
counted at holds bytes = cond (nat_lt at CLIENTS) (slice_set bytes at holds) bytes
