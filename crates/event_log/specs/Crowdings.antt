-- When it is reported that nearly all is held that may be. Moments are in milliseconds.
use Rattle.std.specs.Prelude.{ℕ, Bool, false, true, ◌+◌, ◌-◌, ◌^◌, ◌&&◌, cond, min, nat_le, nat_lt, not}
use Rattle.event_log.specs.declared.rhythm.Crowding.{Crowding}
use Rattle.event_log.specs.declared.rhythm.TheConstants.{CROWD, FEW, MANY}

-- nothing was reported until now
abbrev pub roomy : ℕ → Crowding
roomy now = record { was_told = false; next = now }

-- It is reported if so many tenths are held: nine or more, of which nothing was said since they were fewer than eight, and the last report
-- is a second old.
abbrev pub crowd_due : (tenths now : ℕ) → Crowding → Bool
crowd_due tenths now c = nat_le MANY tenths && (not c.was_told && nat_le c.next now)

-- then it is not reported again before fewer than eight tenths are held, and not within a second
abbrev pub with_crowd : (tenths now : ℕ) → Crowding → Crowding
with_crowd tenths now c =
    cond (crowd_due tenths now c) (record { was_told = true; next = min (now + CROWD) (2 ^ 64 - 1) })
    (cond (nat_lt tenths FEW) (record c { was_told = false }) c)
