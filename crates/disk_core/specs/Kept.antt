-- How a disk in memory is kept.
use Rattle.std.specs.Prelude.{◌≡◌, ◌≤◌, ℕ, List, length, Option, Vec, vec_capacity}
use Rattle.std.specs.declared.alloc.Global.{Global}
use Rattle.disk_core.specs.declared.span.Span.{Span}
use Rattle.disk_core.specs.Spans.{IsCover}

-- each byte has a place to be held, there is room for a range, and all that is held lies in the
-- ranges
pub record IsKept (bytes : List ℕ) (held : List (Option ℕ)) (written : Vec Span Global) : Type 0 where
  pub sizes : length held ≡ length bytes
  pub room : 1 ≤ vec_capacity written
  pub cover : IsCover written.items held
