-- How a line is kept: its order, and whether each number stands there.
use Rattle.std.specs.Prelude.{◌≡◌, ℕ, ◌≤◌, Bool, false, List, cond, count_by, length, slice_index_or}
use Rattle.clients.specs.Lines.{times}
use Rattle.clients.specs.declared.wakers.TheConstants.{CLIENTS}

-- once if it stands there, else not at all
abbrev pub reported : ℕ → List Bool → ℕ
reported n stands = cond (slice_index_or stands n false) 1 0

-- Each number stands there as often as is told, so there is room for all.
pub record IsKept (order : List ℕ) (stands : List Bool) (capacity : ℕ) : Type 0 where
  pub all : length stands ≡ CLIENTS
  pub each : (n : ℕ) → times n order ≡ reported n stands
  pub count : length order ≡ count_by (λ b. b) stands
  pub room : CLIENTS ≤ capacity
