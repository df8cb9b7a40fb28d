-- What the word of a place reads.
use Rattle.std.specs.Prelude.{ℕ, ◌+◌, ◌*◌}

-- the place is free for the ticket t
abbrev pub free_for : ℕ → ℕ
free_for t = 3 * t

-- the entry of the ticket t is ready there
abbrev pub ready_at : ℕ → ℕ
ready_at t = 3 * t + 1

-- the flusher has that entry out, and has not freed the place yet
abbrev pub taken_at : ℕ → ℕ
taken_at t = 3 * t + 2
