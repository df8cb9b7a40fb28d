-- What is reported to an operator, as JSON objects.
use Rattle.std.specs.Prelude.{ℕ, List, [], ◌++◌, codes, cond, nat_lt, string_bytes}
use Rattle.json.specs.Token.{Token}
use Rattle.json_line.specs.Objects.{line_of as line_of_object, number_member, object_of, text_member}
use Rattle.event_log.specs.Events.{line_of}
use Rattle.event_log.specs.declared.event.Crowd.{Crowd}
use Rattle.event_log.specs.declared.event.Event.{Event}
use Rattle.event_log.specs.declared.event.Event.TheVariants as events
use Rattle.event_log.specs.declared.event.Figures.{Figures}
use Rattle.event_log.specs.declared.event.Start.{Start}
use Rattle.event_log.specs.declared.event.Kind.{Kind}
use Rattle.event_log.specs.declared.event.Kind.TheVariants.{Malformed, OtherProtocol, Foreign, Method, NoUpgrade, Version, TooLarge, Full, Silent, TakesNothing, Unopened, TookMost, LongNames, FullOutbox, NotAccepted, LeftOut}
use Rattle.event_log.specs.declared.object.Form.{Form}
use Rattle.event_log.specs.declared.object.Form.TheVariants.{Text, Object}

-- what was done so often
abbrev pub deed_of : Kind → List ℕ
deed_of Malformed = codes "refused"
deed_of OtherProtocol = codes "refused"
deed_of Foreign = codes "refused"
deed_of Method = codes "refused"
deed_of NoUpgrade = codes "refused"
deed_of Version = codes "refused"
deed_of TooLarge = codes "refused"
deed_of Full = codes "refused"
deed_of Silent = codes "gave_up"
deed_of TakesNothing = codes "gave_up"
deed_of Unopened = codes "gave_up"
deed_of TookMost = codes "gave_up"
deed_of LongNames = codes "gave_up"
deed_of FullOutbox = codes "gave_up"
deed_of NotAccepted = codes "not_accepted"
deed_of LeftOut = codes "left_out"

-- and why
abbrev pub reason_of : Kind → List ℕ
reason_of Malformed = codes "malformed"
reason_of OtherProtocol = codes "other_protocol"
reason_of Foreign = codes "other_origin"
reason_of Method = codes "other_method"
reason_of NoUpgrade = codes "no_websocket"
reason_of Version = codes "other_version"
reason_of TooLarge = codes "large_head"
reason_of Full = codes "full"
reason_of Silent = codes "silent"
reason_of TakesNothing = codes "takes_nothing"
reason_of Unopened = codes "no_session"
reason_of TookMost = codes "most_memory"
reason_of LongNames = codes "long_names"
reason_of FullOutbox = codes "outbox_full"
reason_of NotAccepted = codes "no_descriptors_or_memory"
reason_of LeftOut = codes "unread"

-- the member `kind` of an event
abbrev pub kind_of : Event → List ℕ
kind_of (events.Started _) = codes "started"
kind_of (events.Small _ _) = codes "journal_small"
kind_of (events.Compacted _ millis) = cond (nat_lt millis 100) (codes "compacted") (codes "compacted_slowly")
kind_of (events.Crowded _) = codes "nearly_full"
kind_of (events.NearlyFull _ _) = codes "journal_nearly_full"
kind_of (events.Doing _) = codes "doing"
kind_of (events.Counted kind _) = deed_of kind
kind_of (events.Errors _ _) = codes "errors"
kind_of events.Ending = codes "ending"

-- two members that are numbers
abbrev pub two_members : List ℕ → ℕ → List ℕ → ℕ → List Token
two_members name n other m = number_member name n ++ number_member other m

abbrev pub size_members : Start → List Token
size_members s = two_members (codes "area_bytes") s.area (codes "messages") s.messages ++ two_members (codes "clients") s.clients (codes "memory_bytes") s.memory

-- with what a server starts
abbrev pub start_members : Start → List Token
start_members s = number_member (codes "version") 2 ++ size_members s

-- what clients do
abbrev pub work_members : Figures → List Token
work_members f = number_member (codes "commands") f.commands ++ two_members (codes "frames") f.frames (codes "errors") f.refused

abbrev pub traffic_members : Figures → List Token
traffic_members f = two_members (codes "connections") f.connections (codes "memory_bytes") f.memory ++ work_members f

-- what the broker and its journal hold
abbrev pub journal_members : Figures → List Token
journal_members f = number_member (codes "dead_letters") f.dead ++ two_members (codes "used_bytes") f.used (codes "commands_to_repeat") f.to_repeat

abbrev pub stock_members : Figures → List Token
stock_members f = two_members (codes "messages") f.messages (codes "bytes") f.held ++ journal_members f

abbrev pub figures_members : Figures → List Token
figures_members f = traffic_members f ++ stock_members f

-- what is held, with its limits
abbrev pub limited_members : Crowd → List Token
limited_members c = two_members (codes "messages") c.messages (codes "messages_limit") 4096 ++ two_members (codes "bytes") c.held (codes "bytes_limit") 16777216

-- how many messages wait in the place that has most, and what it is called
abbrev pub place_members : Crowd → List Token
place_members c = number_member (codes "most") c.most ++ text_member (codes "place") (string_bytes c.place)

abbrev pub crowd_members : Crowd → List Token
crowd_members c = limited_members c ++ place_members c

abbrev pub counted_members : Kind → ℕ → List Token
counted_members kind count = text_member (codes "why") (reason_of kind) ++ number_member (codes "count") count

-- the members that only events of its kind have
abbrev pub members_of : Event → List Token
members_of (events.Started start) = start_members start
members_of (events.Small area needed) = two_members (codes "area_bytes") area (codes "needed_bytes") needed
members_of (events.Compacted won millis) = two_members (codes "won_bytes") won (codes "millis") millis
members_of (events.Crowded crowd) = crowd_members crowd
members_of (events.NearlyFull used area) = two_members (codes "used_bytes") used (codes "area_bytes") area
members_of (events.Doing figures) = figures_members figures
members_of (events.Counted kind count) = counted_members kind count
members_of (events.Errors code count) = two_members (codes "code") code (codes "count") count
members_of events.Ending = []

-- when it came, and what it is
abbrev pub head_members : List ℕ → List ℕ → List Token
head_members moment kind = text_member (codes "time") moment ++ text_member (codes "kind") kind

-- the object of an event that came at that moment
abbrev pub event_object : List ℕ → Event → List Token
event_object moment event = object_of (head_members moment (kind_of event) ++ members_of event)

-- its line in a form
abbrev pub line_in : Form → List ℕ → Event → List ℕ
line_in Text moment event = line_of moment event
line_in Object moment event = line_of_object (event_object moment event)
