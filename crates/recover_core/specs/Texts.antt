-- The texts of the faults, for the user.
use Rattle.std.specs.Prelude.{List, ℕ, codes}
use Rattle.area_core.specs.Texts.{area_text, read_text}
use Rattle.recover_core.specs.declared.faults.OpenFault.{OpenFault}
use Rattle.recover_core.specs.declared.faults.OpenFault.TheVariants.{Read, CountTooLarge, Area}

-- of a journal that was not opened
abbrev pub open_text : OpenFault → List ℕ
open_text (Read fault) = read_text fault
open_text CountTooLarge = codes "J5 count too large"
open_text (Area fault) = area_text fault
