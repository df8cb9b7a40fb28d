use Rattle.std.specs.Prelude.{◌==◌, ◌&&◌, ℕ, Bool}
use Rattle.waiting_order.specs.declared.waiters.Key.{Key}

-- whether two keys are the same
abbrev pub key_eq : Key → Key → Bool
key_eq a b = a.session == b.session && a.slot == b.slot

-- the key of a session's slot
abbrev pub key_of : ℕ → ℕ → Key
key_of session slot = record { session = session; slot = slot }
