-- What a worker's clock counts.
use Rattle.std.specs.Prelude.{ℕ, ◌+◌, cond, min, nat_lt}
use Rattle.clients.specs.declared.deadlines.TheConstants.{SPARE}

-- How much of the time that has passed counts, if so long a wait was allowed: all of it; or of what was allowed a second at most, if the time
-- was longer by more than a second: then the process stood still.
abbrev pub counted : ℕ → ℕ → ℕ
counted allowed passed = cond (nat_lt (allowed + SPARE) passed) (min allowed SPARE) passed
