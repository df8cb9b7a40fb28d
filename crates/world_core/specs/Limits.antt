-- The limits of a world.
use Rattle.std.specs.Prelude.{ℕ, ◌^◌}

-- a seat that saw a mark this high claims nothing more
abbrev pub far : ℕ
far = 2 ^ 60

-- a life begins with no number over this
abbrev pub most_counted : ℕ
most_counted = 2 ^ 61
