-- Each image of the disk has the area that is held.
use Rattle.std.specs.Prelude.{ℕ, List}
use Rattle.command_core.specs.Commands.{CommandValue}
use Rattle.area_core.specs.declared.area.Area.{Area}
use Rattle.area_core.specs.Held.{IsAt}
use Rattle.area_core.specs.Puts.{Each}

pub record Sound (images : List ℕ → Type 0) (area : Area) : Type 0 where
  pub snapshot : List ℕ
  pub blocks : List (List CommandValue)
  pub held : Each images (IsAt area snapshot blocks)

abbrev pub IsSound : (List ℕ → Type 0) → Area → Type 0
IsSound images area = ∥ Sound images area ∥₁
