-- What a desk has under way, and where it stands in line.
use Rattle.std.specs.Prelude.{ℕ, List, cond, min, nat_eq, nat_lt, slice_set, sum_by}
use Rattle.std.specs.List.{slice_index_or}
use Rattle.work_share.specs.Counts.{most}
use Rattle.work_share.specs.declared.load.Load.{Load}
use Rattle.work_share.specs.declared.load.TheConstants.{CHEAP}

-- nothing is under way, and nobody stands in line
abbrev pub none : Load
none = record { asked = 0; last = 0; sum = 0; holder = 0; line = 0 }

-- once a desk has asked about a command that costs so much: a cheap one counts for nothing
abbrev pub asked : ℕ → Load → Load
asked cost load = record load { asked = cond (nat_lt CHEAP cost) cost 0 }

-- once a command of that client has that number in line
abbrev pub with_number : (client number : ℕ) → Load → Load
with_number client number load = record load { holder = client; line = number }

-- once that client's command was appended or given up: it stands in line no more, and a neighbour's number stays
abbrev pub without : ℕ → Load → Load
without client load = record load { line = cond (nat_eq client load.holder) 0 load.line }

-- Once the command that it asked about has that ticket, with which all under way cost `sum`: it stands in line no more. A cheap one changes nothing
-- else.
abbrev pub appended : (client ticket sum : ℕ) → Load → Load
appended client ticket sum load = cond (nat_lt 0 load.asked) (record (without client load) { last = ticket; sum = sum }) (without client load)

-- the number in line that a command of that client has, or 0
abbrev pub number_of : ℕ → Load → ℕ
number_of client load = cond (nat_eq client load.holder) load.line 0

-- what a desk's commands cost that are under way at a mark: nothing once the last one is under that
abbrev pub left_at : ℕ → Load → ℕ
left_at mark load = cond (nat_lt load.last mark) 0 load.sum

-- what the commands of all these desks cost that are under way at a mark
abbrev pub all_under_way : ℕ → List Load → ℕ
all_under_way mark loads = min most (sum_by (left_at mark) loads)

-- the load of the desk at that place
abbrev pub load_at : ℕ → List Load → Load
load_at desk loads = slice_index_or loads desk none

-- all that stands in line besides that client of that desk
abbrev pub others_than : (client desk : ℕ) → List Load → List Load
others_than client desk loads = slice_set loads desk (without client (load_at desk loads))
