-- When a worker's clients are to be looked at.
use Rattle.std.specs.Prelude.{ℕ, List, ◌≤◌, ◌<◌, cond, length, min, nat_lt, slice_set}
use Rattle.std.specs.List.{All, fold, slice_index_or}
use Rattle.clients.specs.declared.timers.TheConstants.{NEVER}

-- the moments of clients, by their numbers, and one before which none of them is
pub record TimersValue : Type 0 where
  pub all : List ℕ
  pub earliest : ℕ

-- none of these moments is before that one
abbrev pub Earliest : ℕ → List ℕ → Type 0
Earliest first all = All (λ at. first ≤ at) all

-- the first of moments; if there are none, one that does not come
abbrev pub first_of : List ℕ → ℕ
first_of all = fold (λ first at. min first at) NEVER all

-- that client's moment has come
abbrev pub IsDue : ℕ → ℕ → List ℕ → Type 0
IsDue now client all = (client < length all) × (slice_index_or all client 0 ≤ now)

-- no client's moment has come
abbrev pub IsNotDue : ℕ → List ℕ → Type 0
IsNotDue now all = All (λ at. now < at) all

-- the moments once a client has this one
abbrev pub with_moment : ℕ → ℕ → TimersValue → TimersValue
with_moment client at t = cond (nat_lt client (length t.all)) (record { all = slice_set t.all client at; earliest = min t.earliest at }) t

-- the same, unless its moment comes before that
abbrev pub with_earlier : ℕ → ℕ → TimersValue → TimersValue
with_earlier client at t = with_moment client (min at (slice_index_or t.all client NEVER)) t

-- the moments once no client has one that has come: the first of them is known again if it was not
abbrev pub looked_through : ℕ → TimersValue → TimersValue
looked_through now t = cond (nat_lt now t.earliest) t (record t { earliest = first_of t.all })
