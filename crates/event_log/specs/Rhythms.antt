-- When counts are reported, and how a server does. Moments are in milliseconds.
use Rattle.std.specs.Prelude.{ℕ, Bool, ◌+◌, ◌-◌, ◌^◌, cond, min, nat_lt, not}
use Rattle.event_log.specs.declared.rhythm.Rhythm.{Rhythm}
use Rattle.event_log.specs.declared.rhythm.TheConstants.{COUNTS, DOING}

-- so many milliseconds later, or the last moment that there is
abbrev pub later : ℕ → ℕ → ℕ
later now millis = min (now + millis) (2 ^ 64 - 1)

-- a server has started now
abbrev pub begun : ℕ → Rhythm
begun now = record { counts = now; doing = later now DOING }

-- counts may be reported, since they were last reported a second ago or before
abbrev pub counts_due : ℕ → Rhythm → Bool
counts_due now r = not (nat_lt now r.counts)

abbrev pub with_counts : ℕ → Rhythm → Rhythm
with_counts now r = cond (counts_due now r) (record r { counts = later now COUNTS }) r

-- how the server does is reported, since that was last reported a minute ago or before
abbrev pub doing_due : ℕ → Rhythm → Bool
doing_due now r = not (nat_lt now r.doing)

abbrev pub with_doing : ℕ → Rhythm → Rhythm
with_doing now r = cond (doing_due now r) (record r { doing = later now DOING }) r

-- For so long nothing is to be reported, a minute at most: until it is reported how the server does, and if there are counts, until these may be.
abbrev pub rest_of : Bool → ℕ → Rhythm → ℕ
rest_of has_counts now r = min (cond has_counts (min r.counts r.doing) r.doing - now) DOING
