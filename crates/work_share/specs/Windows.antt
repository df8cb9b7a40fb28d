-- Whether a desk may have one more command under way.
use Rattle.std.specs.Prelude.{◌≡◌, ◌⊎◌, ◌≤◌, ◌<◌, ◌+◌, ℕ, List}
use Rattle.work_share.specs.Lines.{standing}
use Rattle.work_share.specs.Loads.{all_under_way, load_at, number_of, others_than}
use Rattle.work_share.specs.declared.load.Load.{Load}
use Rattle.work_share.specs.declared.costs.TheConstants.{BUDGET, GREEDY, SHARE, WIDEST}
use Rattle.work_share.specs.declared.costs.Standing.{Standing}
use Rattle.work_share.specs.declared.costs.Standing.TheVariants.{Alone, First, Behind}

-- a dear command, which no share holds, finds room in the whole budget
abbrev pub FitsBudget : (cost all : ℕ) → Type 0
FitsBudget cost all = (SHARE < cost) × (all + cost ≤ BUDGET)

-- what the room of all allows beyond a desk's share: while nobody waits what all want together, to the first in line the budget, and nothing
-- to those behind it
abbrev pub FitsAll : Standing → (cost all : ℕ) → Type 0
FitsAll Alone cost all = (all + cost ≤ GREEDY) ⊎ FitsBudget cost all
FitsAll First cost all = FitsBudget cost all
FitsAll Behind cost all = ⊥

-- A command may go that costs so much, beside those of its desk under way that cost `own`, and of all desks that cost `all`: it keeps to its
-- desk's share, or all have room for it.
abbrev pub MayGo : (cost own all : ℕ) → Standing → Type 0
MayGo cost own all standing = (own + cost ≤ SHARE) ⊎ FitsAll standing cost all

-- a command that may go finds the widest window, and any other none
abbrev pub IsWindow : (cost own all : ℕ) → Standing → ℕ → Type 0
IsWindow cost own all standing window = (MayGo cost own all standing × (window ≡ WIDEST)) ⊎ (¬ (MayGo cost own all standing) × (window ≡ 0))

-- That is its window, if the desks have these loads at that mark, and a client of that desk asks for a command that costs so much: beside all others,
-- in the place in line that its number gives it.
abbrev pub IsWindowAmong : (desk client cost mark : ℕ) → List Load → ℕ → Type 0
IsWindowAmong desk client cost mark loads window =
    IsWindow cost (load_at desk loads).sum (all_under_way mark (others_than client desk loads))
    (standing (number_of client (load_at desk loads)) (others_than client desk loads)) window

-- a dear command that may not go gets a number in line for its desk, if that has none
abbrev pub TakesNumber : (window cost line : ℕ) → Type 0
TakesNumber window cost line = (window ≡ 0) × (SHARE < cost) × (line ≡ 0)
