-- The texts of the faults, for the user.
use Rattle.std.specs.Prelude.{List, ◌++◌, ℕ, codes}
use Rattle.std.specs.Fmt.{decimal}
use Rattle.area_core.specs.declared.faults.AreaFault.{AreaFault}
use Rattle.area_core.specs.declared.faults.AreaFault.TheVariants as areas
use Rattle.area_core.specs.declared.faults.ReadFault.{ReadFault}
use Rattle.area_core.specs.declared.faults.ReadFault.TheVariants as reads
use Rattle.area_core.specs.declared.faults.FormatFault.{FormatFault}
use Rattle.area_core.specs.declared.faults.FormatFault.TheVariants as formats

-- of an area that was not written
abbrev pub area_text : AreaFault → List ℕ
area_text areas.Device = codes "J3 device failed"
area_text areas.Full = codes "J4 journal full"
area_text areas.Broken = codes "J6 store broken"
area_text (areas.Memory refused) = codes "no memory"

-- of a disk that was not read as a journal
abbrev pub read_text : ReadFault → List ℕ
read_text reads.NotAJournal = codes "J1 not a journal"
read_text (reads.Damaged place) = codes "J2 damaged at " ++ decimal place
read_text reads.Device = codes "J3 device failed"
read_text reads.UnknownVersion = codes "J7 unknown version"
read_text reads.TooSmall = codes "J8 disk too small"
read_text (reads.Memory refused) = codes "no memory"

-- of a journal that was not made
abbrev pub format_text : FormatFault → List ℕ
format_text formats.TooSmall = codes "J8 disk too small"
format_text formats.Device = codes "J3 device failed"
format_text (formats.Memory refused) = codes "no memory"
