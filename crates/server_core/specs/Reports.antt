-- What a server reports of itself.
use Rattle.std.specs.Prelude.{◌≡◌, ◌<◌, ◌*◌, ◌/◌, ◌-◌, ◌^◌, ℕ, Bool, true, max, min}
use Rattle.broker_state.specs.declared.limits.Held.{Held}
use Rattle.broker_state.specs.declared.limits.TheConstants.{MOST_BYTES, MOST_MESSAGES}

-- a compaction has left more than three quarters of an area used
pub record LeavesLittle (has_compacted : Bool) (used area : ℕ) : Type 0 where
  pub compacted : has_compacted ≡ true
  pub used_is : area / 4 < used / 3

-- how many whole tenths are held of what may be: of the messages or of the bytes, whichever are more
abbrev pub tenths : Held → ℕ
tenths held = max (min (held.messages * 10) (2 ^ 64 - 1) / MOST_MESSAGES) (min (held.bytes * 10) (2 ^ 64 - 1) / MOST_BYTES)
