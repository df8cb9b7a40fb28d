-- How many bytes a snapshot has, as eight bytes can count them.
use Rattle.std.specs.Prelude.{◌-◌, ◌^◌, ℕ, min}

-- a count, or the greatest number of eight bytes if there are more
abbrev pub counted_in_eight : ℕ → ℕ
counted_in_eight n = min n (2 ^ 64 - 1)
