-- When a server looks at the file of its journal.
use Rattle.std.specs.Prelude.{ℕ, ◌+◌, ◌-◌, ◌^◌, Option, Some, None, min}
use Rattle.disk_core.specs.declared.loss.DeviceCause.{DeviceCause}
use Rattle.disk_core.specs.declared.loss.DeviceCause.TheVariants.{Refused}

-- in milliseconds, or at the last moment that there is
abbrev pub a_second_after : ℕ → ℕ
a_second_after now = min (now + 1000) (2 ^ 64 - 1)

-- what a look found, or else what the disk kept
abbrev pub reported_cause : Option DeviceCause → Option DeviceCause → DeviceCause
reported_cause (Some cause) _ = cause
reported_cause None (Some cause) = cause
reported_cause None None = Refused
