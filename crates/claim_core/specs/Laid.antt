-- The words of a new ring.
use Rattle.std.specs.Prelude.{◌≡◌, ℕ, ◌+◌, ◌%◌, ◌<◌, List, length, slice_index_or}
use Rattle.claim_core.specs.Places.{free_for}

-- the next ticket and the mark are the base, and the first i of the n places are free for the first i tickets
abbrev pub IsLaid : List ℕ → ℕ → ℕ → ℕ → Type 0
IsLaid row n base i = (length row ≡ n + 3) × (slice_index_or row 0 0 ≡ base) × (slice_index_or row 1 0 ≡ base) × (slice_index_or row 2 0 ≡ 0) × ((j : ℕ) → j < i → slice_index_or row ((base + j) % n + 3) 0 ≡ free_for (base + j))
