-- What comes of turns, and of clients that do nothing.
use Rattle.std.specs.Prelude.{◌&&◌, ◌||◌, Bool, true, false}
use Rattle.clients.specs.declared.turned.Turned.{Turned}
use Rattle.clients.specs.declared.turned.Next.{Next}
use Rattle.clients.specs.declared.turned.Next.TheVariants.{Go, Read, Write, Room, Mark, Memory, Close, Over}
use Rattle.clients.specs.declared.deadlines.Opening.{Opening}
use Rattle.clients.specs.declared.deadlines.Opening.TheVariants.{Greeting, Unopened, Open}
use Rattle.event_log.specs.declared.event.Kind.{Kind}
use Rattle.event_log.specs.declared.event.Kind.TheVariants as kinds

-- a client has nothing more to do at once, and waits for its peer, its neighbours, the disk or memory
abbrev pub waits : Next → Bool
waits Read = true
waits (Room mark) = true
waits (Mark mark) = true
waits Memory = true
waits Go = false
waits Write = false
waits Close = false
waits (Over ended) = false

-- there may be more to do at once
abbrev pub goes : Next → Bool
goes Go = true
goes Read = false
goes Write = false
goes (Room mark) = false
goes (Mark mark) = false
goes Memory = false
goes Close = false
goes (Over ended) = false

-- a client has another turn at once: its last one put a command into the ring, and left more to do
abbrev pub goes_on : Turned → Bool
goes_on turned = turned.appended && goes turned.next

-- what turns came to and one more
abbrev pub together : Turned → Turned → Turned
together turns last = record { appended = turns.appended || last.appended; heard = turns.heard || last.heard; next = last.next }

-- why a client is given up that has come so far
abbrev pub why_given_up : Opening → (takes_nothing : Bool) → Kind
why_given_up Open true = kinds.TakesNothing
why_given_up Open false = kinds.Silent
why_given_up Greeting takes_nothing = kinds.Unopened
why_given_up Unopened takes_nothing = kinds.Unopened
