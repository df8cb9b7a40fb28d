-- What a client waits for after its turns, if its next command had no room.
use Rattle.std.specs.Prelude.{ℕ, Bool, true, false, min}
use Rattle.clients.specs.declared.turned.Next.{Next}
use Rattle.clients.specs.declared.turned.Next.TheVariants.{Room, Mark}

-- Room is waited for over the mark when its turns began. If the client waits with a dear command, it stands after its neighbours, with those
-- that wait for the mark alone.
abbrev pub since : (waits : Bool) → (mark : ℕ) → Next → Next
since true mark (Room over) = Mark (min over mark)
since false mark (Room over) = Room (min over mark)
since _ mark next = next
