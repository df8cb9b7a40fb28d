-- The area that is held, on the disk.
use Rattle.std.specs.Prelude.{◌≡◌, ◌≤◌, ◌+◌, ◌*◌, ℕ, List, length}
use Rattle.command_core.specs.Commands.{CommandValue}
use Rattle.area_core.specs.declared.area.Area.{Area}
use Rattle.area_core.specs.Areas.{front}
use Rattle.area_core.specs.Journals.{Reads, is_odd, start}

-- The live area is the one that is held, and its gate is the first closed one.
pub record IsAt (area : Area) (snapshot : List ℕ) (blocks : List (List CommandValue)) (image : List ℕ) : Type 0 where
  pub reads : Reads area.version area.size area.selector snapshot blocks image
  pub gate : area.gate ≡ length (front area.version snapshot blocks)

-- the disk has both areas
abbrev pub LiesOn : Area → List ℕ → Type 0
LiesOn area content = 32 + 2 * area.size ≤ length content

-- where on the disk the area's gate is
abbrev pub gate_at : Area → ℕ
gate_at area = start area.size (is_odd area.selector) + area.gate
