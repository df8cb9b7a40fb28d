-- What a journal shows of itself, as a JSON object.
use Rattle.std.specs.Prelude.{◌++◌, List, ℕ, Option, codes}
use Rattle.json.specs.Token.{Token}
use Rattle.recover_core.specs.declared.seen.Seen.{Seen}
use Rattle.recover_core.specs.Seen.{IsSeen}
use Rattle.json_line.specs.Objects.{WritesLine, number_member, object_of}

-- its version, its live area, and how much of that is used
abbrev pub area_members : Seen → List Token
area_members seen = number_member (codes "version") seen.version ++ (number_member (codes "area") seen.area ++ number_member (codes "used") seen.used)

-- how many commands were carried out, and how many messages are held
abbrev pub state_members : Seen → List Token
state_members seen = number_member (codes "count") seen.count ++ number_member (codes "held") seen.held.messages

abbrev pub seen_object : Seen → List Token
seen_object seen = object_of (area_members seen ++ state_members seen)

-- what some journal shows of itself was written
abbrev pub ShowsObject : Option (List ℕ) → Option (List ℕ) → Type 0
ShowsObject before after = (seen : Seen) × WritesLine (seen_object seen) before after

-- what the journal of this content shows of itself was written
abbrev pub ShowsObjectOf : List ℕ → Option (List ℕ) → Option (List ℕ) → Type 0
ShowsObjectOf content before after = (seen : Seen) × IsSeen seen content × WritesLine (seen_object seen) before after
