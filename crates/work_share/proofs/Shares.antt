-- What desks are granted that keep to their shares.
use Rattle.std.proofs.Common.{◌≡◌, ◌≤◌, ◌<◌, ◌+◌, ◌*◌, ℕ, suc, zero, Bool, true, false, List, [], ◌∷◌, cond, length, nat_eq, nat_lt, refl, ap, ◌∙◌, arith}
use Rattle.std.specs.List.{AllByRecursion}
use Rattle.std.proofs.lemmas.Bool.{eqb-true, eqb-false, ltb-true, ltb-false}
use Rattle.work_share.specs.declared.costs.TheConstants.{GREEDY, SHARE}
use Rattle.work_share.specs.declared.load.TheConstants.{CHEAP}
use Rattle.work_share.specs.Grants.{AreOf, Grant, KeepShares, granted, granted_to}

-- no desk was granted more than its share
pub share : (desk : ℕ) (grants : List Grant) → KeepShares grants → granted_to desk grants ≤ SHARE
share desk [] keeps = omega arith
share desk (g ∷ earlier) keeps = by (nat_eq g.desk desk) refl (share desk earlier keeps.1)
  where
    by : (b : Bool) → nat_eq g.desk desk ≡ b → granted_to desk earlier ≤ SHARE → cond b g.cost 0 + granted_to desk earlier ≤ SHARE
    by true e kept =
        let same : granted_to g.desk earlier ≡ granted_to desk earlier = ap (λ d. granted_to d earlier) (eqb-true g.desk desk e) in
        omega (arith, keeps.0, same)
    by false e kept = omega (arith, kept)

-- what desks under that number were granted
abbrev under : ℕ → List Grant → ℕ
under desks [] = 0
under desks (g ∷ others) = cond (nat_lt g.desk desks) g.cost 0 + under desks others

none : (grants : List Grant) → under 0 grants ≡ 0
none [] = refl
none (g ∷ others) = by (nat_lt g.desk 0) refl (none others)
  where
    by : (b : Bool) → nat_lt g.desk 0 ≡ b → under 0 others ≡ 0 → cond b g.cost 0 + under 0 others ≡ 0
    by true e rest = omega (arith, ltb-true g.desk 0 e)
    by false e rest = omega (arith, rest)

-- one desk more
one_more : (desks : ℕ) (grants : List Grant) → under (desks + 1) grants ≡ under desks grants + granted_to desks grants
one_more desks [] = refl
one_more desks (g ∷ others) = by (nat_lt g.desk (desks + 1)) (nat_lt g.desk desks) (nat_eq g.desk desks) refl refl refl (one_more desks others)
  where
    by : (a b c : Bool) → nat_lt g.desk (desks + 1) ≡ a → nat_lt g.desk desks ≡ b → nat_eq g.desk desks ≡ c → under (desks + 1) others ≡ under desks others + granted_to desks others → cond a g.cost 0 + under (desks + 1) others ≡ (cond b g.cost 0 + under desks others) + (cond c g.cost 0 + granted_to desks others)
    by true true true la lb e rest = omega (arith, ltb-true g.desk desks lb, eqb-true g.desk desks e)
    by true true false la lb e rest = omega (arith, rest)
    by true false true la lb e rest = omega (arith, rest)
    by true false false la lb e rest = absurd (eqb-false g.desk desks e (omega (arith, ltb-true g.desk (desks + 1) la, ltb-false g.desk desks lb)))
    by false true c la lb e rest = omega (arith, ltb-false g.desk (desks + 1) la, ltb-true g.desk desks lb)
    by false false true la lb e rest = omega (arith, ltb-false g.desk (desks + 1) la, eqb-true g.desk desks e)
    by false false false la lb e rest = omega (arith, rest)

bounded : (desks : ℕ) (grants : List Grant) → KeepShares grants → under desks grants ≤ desks * SHARE
bounded zero grants keeps = omega (arith, none grants)
bounded (suc n) grants keeps = omega (arith, step, share n grants keeps, bounded n grants keeps)
  where
    step : under (suc n) grants ≡ under n grants + granted_to n grants
    step = ap (λ k. under k grants) (omega arith) ∙ one_more n grants

-- all that was granted was granted to them
whole : (desks : ℕ) (grants : List Grant) → AreOf desks grants → under desks grants ≡ granted grants
whole desks [] are = refl
whole desks (g ∷ others) are = by (nat_lt g.desk desks) refl (whole desks others are.1)
  where
    by : (b : Bool) → nat_lt g.desk desks ≡ b → under desks others ≡ granted others → cond b g.cost 0 + under desks others ≡ g.cost + granted others
    by true e rest = omega (arith, rest)
    by false e rest = omega (arith, ltb-false g.desk desks e, are.0)

pub all : (grants : List Grant) → KeepShares grants → AreOf 64 grants → granted grants ≤ GREEDY
all grants keeps are = omega (arith, whole 64 grants are, bounded 64 grants keeps)

each : (grants : List Grant) → AllByRecursion (λ (grant : Grant). CHEAP < grant.cost) grants → length grants * (CHEAP + 1) ≤ granted grants
each [] dear = omega arith
each (g ∷ others) dear = omega (arith, dear.0, each others dear.1)

pub count : (grants : List Grant) → KeepShares grants → AreOf 64 grants → AllByRecursion (λ (grant : Grant). CHEAP < grant.cost) grants → length grants ≤ 1024
count grants keeps are dear = omega (arith, all grants keeps are, each grants dear)
