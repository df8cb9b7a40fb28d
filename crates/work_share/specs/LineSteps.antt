-- What a desk's load is after any steps, and who waits then. The latest step stands first.
use Rattle.std.specs.Prelude.{◌≡◌, ◌≢◌, ◌⊎◌, ℕ, List, [], ◌∷◌, ⊤}
use Rattle.work_share.specs.Loads.{appended, asked, none, with_number, without}
use Rattle.work_share.specs.declared.load.Load.{Load}
use Rattle.work_share.specs.declared.load.LineStep.{LineStep}
use Rattle.work_share.specs.declared.load.LineStep.TheVariants.{Asks, Counts, Stands, Appends, Leaves}

-- a load after one step more
abbrev pub load_with : LineStep → Load → Load
load_with (Asks cost) load = asked cost load
load_with (Counts sum) load = record load { sum = sum }
load_with (Stands client number) load = with_number client number load
load_with (Appends client ticket sum) load = appended client ticket sum load
load_with (Leaves client) load = without client load

-- the load after these steps
abbrev pub load_after : List LineStep → Load
load_after [] = none
load_after (step ∷ earlier) = load_with step (load_after earlier)

-- whoever gets a number gets one, and only while its desk has none
abbrev pub IsFree : LineStep → Load → Type 0
IsFree (Stands client number) load = (number ≢ 0) × (load.line ≡ 0)
IsFree _ load = ⊤

abbrev pub TakeTurns : List LineStep → Type 0
TakeTurns [] = ⊤
TakeTurns (step ∷ earlier) = IsFree step (load_after earlier) × TakeTurns earlier

-- that client has got a number, and since then it has neither appended a command nor left
abbrev pub Waits : ℕ → List LineStep → Type 0
Waits client [] = ⊥
Waits client (Asks cost ∷ earlier) = Waits client earlier
Waits client (Counts sum ∷ earlier) = Waits client earlier
Waits client (Stands other number ∷ earlier) = (client ≡ other) ⊎ Waits client earlier
Waits client (Appends other ticket sum ∷ earlier) = (client ≢ other) × Waits client earlier
Waits client (Leaves other ∷ earlier) = (client ≢ other) × Waits client earlier
