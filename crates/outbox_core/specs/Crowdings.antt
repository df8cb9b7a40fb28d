-- How long a box that fills is waited for.
use Rattle.std.specs.Prelude.{◌==◌, ◌-◌, ℕ, Bool, true, false, nat_lt, if◌then◌else◌}
use Rattle.outbox_core.specs.declared.boxes.Crowding.{Crowding}

-- how a box that is not over half full begins
abbrev pub unhurried : Crowding
unhurried = record { looks = 50; patience = 20; room = 0 }

-- how much patience is left at a look that finds room for so many: all of it if something was taken, or else one look's less
abbrev pub patience_at : Crowding → ℕ → ℕ
patience_at c room = if nat_lt c.room room then 20 else c.patience - 1

-- whether a box over half full is waited for, and what is known of it then: at 50 looks at most, while patience is left
abbrev pub looked : Crowding → ℕ → Bool → Bool × Crowding
looked c room is_over_half =
    if is_over_half
    then (if c.looks == 0
    then (false, c)
    else (if patience_at c room == 0
    then (false, record { looks = c.looks; patience = 0; room = room })
    else (true, record { looks = c.looks - 1; patience = patience_at c room; room = room })))
    else (false, unhurried)
