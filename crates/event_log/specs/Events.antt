-- What is reported to an operator.
use Rattle.std.specs.Prelude.{ℕ, List, [], ◌∷◌, ◌++◌, ◌+◌, ◌-◌, ◌^◌, codes, cond, min, nat_lt, string_bytes}
use Rattle.std.specs.Fmt.{decimal}
use Rattle.event_log.specs.declared.event.Crowd.{Crowd}
use Rattle.event_log.specs.declared.event.Event.{Event}
use Rattle.event_log.specs.declared.event.Event.TheVariants as events
use Rattle.event_log.specs.declared.event.Figures.{Figures}
use Rattle.event_log.specs.declared.event.Start.{Start}
use Rattle.event_log.specs.declared.event.Kind.{Kind}
use Rattle.event_log.specs.declared.event.Kind.TheVariants.{Malformed, OtherProtocol, Foreign, Method, NoUpgrade, Version, TooLarge, Full, Silent, TakesNothing, Unopened, TookMost, LongNames, FullOutbox, NotAccepted, LeftOut}

-- the place of a kind among all
abbrev pub place_of : Kind → ℕ
place_of Malformed = 0
place_of OtherProtocol = 1
place_of Foreign = 2
place_of Method = 3
place_of NoUpgrade = 4
place_of Version = 5
place_of TooLarge = 6
place_of Full = 7
place_of Silent = 8
place_of TakesNothing = 9
place_of Unopened = 10
place_of TookMost = 11
place_of LongNames = 12
place_of FullOutbox = 13
place_of NotAccepted = 14
place_of LeftOut = 15

-- the words before a count, and after it
abbrev pub before_count : Kind → List ℕ
before_count Malformed = codes "refused "
before_count OtherProtocol = codes "refused "
before_count Foreign = codes "refused "
before_count Method = codes "refused "
before_count NoUpgrade = codes "refused "
before_count Version = codes "refused "
before_count TooLarge = codes "refused "
before_count Full = codes "refused "
before_count Silent = codes "gave up "
before_count TakesNothing = codes "gave up "
before_count Unopened = codes "gave up "
before_count TookMost = codes "gave up "
before_count LongNames = codes "gave up "
before_count FullOutbox = codes "gave up "
before_count NotAccepted = codes "failed to accept "
before_count LeftOut = codes "left out "

abbrev pub behind_count : Kind → List ℕ
behind_count Malformed = codes " malformed requests (400)"
behind_count OtherProtocol = codes " requests without subprotocol v12.stomp (400)"
behind_count Foreign = codes " pages of other origins (403)"
behind_count Method = codes " requests by another method than GET (405)"
behind_count NoUpgrade = codes " requests for no WebSocket (426)"
behind_count Version = codes " requests for another version of WebSocket (426)"
behind_count TooLarge = codes " requests with too large a head (431)"
behind_count Full = codes " clients over the most that are taken (503)"
behind_count Silent = codes " clients that answered no ping or close"
behind_count TakesNothing = codes " clients that took nothing for 60 s"
behind_count Unopened = codes " clients that opened no session in time"
behind_count TookMost = codes " clients that took the most memory"
behind_count LongNames = codes " clients whose names have no room beside the others'"
behind_count FullOutbox = codes " clients whose outbox was full"
behind_count NotAccepted = codes " clients: out of descriptors or memory"
behind_count LeftOut = codes " lines that nobody read in time"

-- with what a server starts
abbrev pub start_text : Start → List ℕ
start_text s = codes "started: journal of version 2, areas of " ++ (decimal s.area ++ (codes " bytes, " ++ (decimal s.messages ++ (codes " messages held, " ++ (decimal s.clients ++ (codes " clients allowed, " ++ (decimal s.memory ++ codes " bytes of memory for them")))))))

-- how it does if so many ERRORs more were sent, each of which is a frame
abbrev pub with_errors : ℕ → Figures → Figures
with_errors more f = record f { frames = min (f.frames + more) (2 ^ 64 - 1); refused = min (f.refused + more) (2 ^ 64 - 1) }

-- what clients do
abbrev pub traffic_text : Figures → List ℕ
traffic_text f =
    decimal f.connections ++ (codes " connections, " ++ (decimal f.memory ++ (codes " bytes of memory for them, "
    ++ (decimal f.commands ++ (codes " commands, " ++ (decimal f.frames ++ (codes " frames out, " ++ (decimal f.refused ++ codes " ERRORs"))))))))

-- what the broker and its journal hold
abbrev pub stock_text : Figures → List ℕ
stock_text f =
    decimal f.messages ++ (codes " messages held, " ++ (decimal f.held ++ (codes " bytes held, " ++ (decimal f.dead ++ (codes " dead letters, "
    ++ (decimal f.used ++ (codes " bytes used, " ++ (decimal f.to_repeat ++ codes " commands to repeat"))))))))

-- how it does
abbrev pub figures_text : Figures → List ℕ
figures_text f = codes "doing: " ++ (traffic_text f ++ (codes ", " ++ stock_text f))

-- that nearly all is held that may be, and where most of it waits
abbrev pub crowd_text : Crowd → List ℕ
crowd_text c =
    codes "nearly full: " ++ (decimal c.messages ++ (codes " of 4096 messages held, " ++ (decimal c.held ++ (codes " of 16777216 bytes, "
    ++ (decimal c.most ++ (codes " of them in " ++ (string_bytes c.place ++ codes " (E12 is near)")))))))

-- the words of an event
abbrev pub event_text : Event → List ℕ
event_text (events.Started start) = start_text start
event_text (events.Small area needed) = codes "journal small: areas of " ++ (decimal area ++ (codes " bytes, " ++ (decimal needed ++ codes " are wanted (J4 is possible)")))
event_text (events.Compacted won millis) =
    cond (nat_lt millis 100) (codes "compacted: ") (codes "compacted slowly: ") ++ (decimal won ++ (codes " bytes won in " ++ (decimal millis ++ codes " ms")))
event_text (events.Crowded crowd) = crowd_text crowd
event_text (events.NearlyFull used area) = codes "journal nearly full: " ++ (decimal used ++ (codes " of " ++ (decimal area ++ codes " bytes are used after a compaction (J4 is near)")))
event_text (events.Doing figures) = figures_text figures
event_text (events.Counted kind count) = before_count kind ++ (decimal count ++ behind_count kind)
event_text (events.Errors code count) = codes "sent " ++ (decimal count ++ (codes " ERRORs (E" ++ (decimal code ++ codes ")")))
event_text events.Ending = codes "ending: asked to"

-- the line of an event that came at that moment
abbrev pub line_of : List ℕ → Event → List ℕ
line_of moment event = codes "stompd: " ++ (moment ++ (codes " " ++ (event_text event ++ 10 ∷ [])))
