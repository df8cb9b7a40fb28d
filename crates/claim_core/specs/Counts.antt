-- How often tickets stand in views.
use Rattle.std.specs.Prelude.{ℕ, ◌+◌, ◌==◌, nat_lt, if◌then◌else◌, List, [], ◌∷◌, length, Option, Some, None}
use Rattle.command_core.specs.Commands.{CommandValue}
use Rattle.claim_core.specs.declared.views.Claimer.{Claimer}
use Rattle.claim_core.specs.declared.views.View.{View}
use Rattle.claim_core.specs.declared.views.View.TheVariants.{Owns, Claims, Spent}

-- a ticket and the command that it was claimed for
abbrev pub Pair : Type 0
Pair = ℕ × CommandValue

-- f of each item, added up
abbrev pub sum_of : {A : Type 0} → (A → ℕ) → List A → ℕ
sum_of f [] = 0
sum_of f (x ∷ xs) = f x + sum_of f xs

-- 1 if they are equal
abbrev pub same : ℕ → ℕ → ℕ
same a b = if a == b then 1 else 0

-- 1 if b is a or more
abbrev pub from : ℕ → ℕ → ℕ
from a b = if nat_lt b a then 0 else 1

-- how often t stands as a ticket
abbrev pub times : ℕ → List Pair → ℕ
times t own = sum_of (λ (p : Pair). same t p.0) own

-- how many tickets are not under m
abbrev pub above : ℕ → List Pair → ℕ
above m own = sum_of (λ (p : Pair). from m p.0) own

-- the tickets that are not under m
abbrev pub open_of : ℕ → List Pair → List ℕ
open_of m [] = []
open_of m (p ∷ ps) = if nat_lt p.0 m then open_of m ps else p.0 ∷ open_of m ps

-- 1 if t is the pending ticket
abbrev pub pends : ℕ → Option ℕ → ℕ
pends t None = 0
pends t (Some p) = same t p

-- the same over what a view knows; an owner speaks for the seats that it has taken back
abbrev pub times_of : ℕ → View → ℕ
times_of t (Owns o) = sum_of (λ (c : Claimer). times t c.own) o.joined
times_of t (Claims c) = times t c.own
times_of t Spent = 0

abbrev pub above_of : ℕ → View → ℕ
above_of m (Owns o) = sum_of (λ (c : Claimer). above m c.own) o.joined
above_of m (Claims c) = above m c.own
above_of m Spent = 0

abbrev pub pends_of : ℕ → View → ℕ
pends_of t (Owns o) = 0
pends_of t (Claims c) = pends t c.pending
pends_of t Spent = 0

-- how many sessions' seats a view speaks for
abbrev pub heads : View → ℕ
heads (Owns o) = length o.joined
heads (Claims c) = 1
heads Spent = 0
