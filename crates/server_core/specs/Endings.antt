-- When a server that was asked to end has stored what was claimed by then.
use Rattle.std.specs.Prelude.{◌+◌, ◌-◌, ◌*◌, ◌^◌, ℕ, min}
use Rattle.claim_core.specs.declared.limits.TheConstants.{PLACES}

-- A number over all that is claimed, once so much is published: as much more as the ring has places, and as the flusher may have taken.
abbrev pub over_all : ℕ → ℕ
over_all mark = min (mark + 2 * PLACES) (2 ^ 64 - 1)
