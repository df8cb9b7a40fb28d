-- The lines in which a worker's clients stand, by their numbers, the first ones first.
use Rattle.std.specs.Prelude.{◌≡◌, ℕ, ◌≤◌, ◌&&◌, Bool, false, List, [], ◌∷◌, ◌++◌, Option, Some, None, cond, eqb, nat_lt, count_by, drop, slice_get, slice_index_or, slice_set}
use Rattle.clients.specs.declared.wakers.TheConstants.{CLIENTS}

-- how often a number stands in a line
abbrev pub times : ℕ → List ℕ → ℕ
times n line = count_by (λ other. eqb n other) line

-- a line of clients' numbers, each of which stands in it once at most
pub record IsLine (line : List ℕ) : Type 0 where
  pub once : (n : ℕ) → times n line ≤ 1
  pub numbers : (n : ℕ) → CLIENTS ≤ n → times n line ≡ 0

-- that number may join: it is a client's, and does not stand there
abbrev pub may_join : ℕ → List ℕ → Bool
may_join n line = nat_lt n CLIENTS && nat_lt (times n line) 1

-- the line once it has joined behind all others; a client that stands there keeps its place
abbrev pub joined : ℕ → List ℕ → List ℕ
joined n line = cond (may_join n line) (line ++ n ∷ []) line

-- the line once it has joined before all others; a client that stands there keeps its place
abbrev pub joined_first : ℕ → List ℕ → List ℕ
joined_first n line = cond (may_join n line) (n ∷ line) line

-- A line of those that wait for a mark, and the mark over which each waits for one, or waited last, by their numbers.
pub record WaitingValue : Type 0 where
  pub line : List ℕ
  pub marks : List ℕ

-- a mark is over the one that this client waits for; none waits for any
abbrev pub is_over_its : ℕ → List ℕ → Option ℕ → Bool
is_over_its mark marks None = false
is_over_its mark marks (Some n) = nat_lt (slice_index_or marks n 0) mark

-- the first in line is to go on at this mark
abbrev pub is_over : ℕ → WaitingValue → Bool
is_over mark w = is_over_its mark w.marks (slice_get w.line 0)

-- the marks once that client waits for one over this; a client that waits keeps its own
abbrev pub marks_with : ℕ → ℕ → WaitingValue → List ℕ
marks_with n mark w = cond (may_join n w.line) (slice_set w.marks n mark) w.marks

-- that client waits for a mark over this behind all others; a client that waits keeps its place and its mark
abbrev pub waiting : ℕ → ℕ → WaitingValue → WaitingValue
waiting n mark w = record { line = joined n w.line; marks = marks_with n mark w }

-- that client waits for a mark over this before all others; a client that waits keeps its place and its mark
abbrev pub waiting_first : ℕ → ℕ → WaitingValue → WaitingValue
waiting_first n mark w = record { line = joined_first n w.line; marks = marks_with n mark w }

-- the first waits no more
abbrev pub without_first : WaitingValue → WaitingValue
without_first w = record w { line = drop 1 w.line }
