-- What desks are granted while another waits in line.
use Rattle.std.specs.Prelude.{◌+◌, ◌≤◌, ◌<◌, ℕ, List, [], ◌∷◌, ⊤, cond, nat_eq}
use Rattle.std.specs.List.{AllByRecursion}
use Rattle.work_share.specs.declared.costs.TheConstants.{SHARE}

-- a command that was granted, with its desk and what it costs
pub record Grant : Type 0 where
  pub desk : ℕ
  pub cost : ℕ

-- what that desk was granted
abbrev pub granted_to : ℕ → List Grant → ℕ
granted_to desk [] = 0
granted_to desk (grant ∷ others) = cond (nat_eq grant.desk desk) grant.cost 0 + granted_to desk others

-- what all desks were granted
abbrev pub granted : List Grant → ℕ
granted [] = 0
granted (grant ∷ others) = grant.cost + granted others

-- the latest stands first, and each kept to its desk's share beside all that this was granted before
abbrev pub KeepShares : List Grant → Type 0
KeepShares [] = ⊤
KeepShares (last ∷ earlier) = (granted_to last.desk earlier + last.cost ≤ SHARE) × KeepShares earlier

-- they went to desks under that number
abbrev pub AreOf : ℕ → List Grant → Type 0
AreOf desks grants = AllByRecursion (λ (grant : Grant). grant.desk < desks) grants
