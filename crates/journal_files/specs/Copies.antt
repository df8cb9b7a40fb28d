-- What a copy of a journal is.
use Rattle.std.specs.Prelude.{List, ℕ, codes}
use Rattle.area_core.specs.declared.faults.FormatFault.TheVariants as formats
use Rattle.area_core.specs.declared.formatting.MakeFault.{MakeFault}
use Rattle.area_core.specs.declared.formatting.MakeFault.TheVariants as makes
use Rattle.area_core.specs.Texts.{format_text}
use Rattle.broker_core.specs.States.{State}
use Rattle.recover_core.specs.Standing.{StandFor, Stands}
use Rattle.journal_files.specs.JournalFiles.{show_text}
use Rattle.journal_files.specs.declared.copying.CopyFault.{CopyFault}
use Rattle.journal_files.specs.declared.copying.CopyFault.TheVariants.{Format, Full, Read}

-- each of these images stands for the state for which that content stands
abbrev pub Copies : List ℕ → (List ℕ → Type 0) → Type 0
Copies content images = (s : State) × Stands content s × StandFor images s

-- the image stands for the state for which that content stands
abbrev pub IsCopy : List ℕ → List ℕ → Type 0
IsCopy content image = (s : State) × Stands content s × Stands image s

-- if nothing was written, by this fault, this holds
abbrev pub IsUntouchedBy : CopyFault → Type 0 → Type 0
IsUntouchedBy (Read fault) P = P
IsUntouchedBy Full P = P
IsUntouchedBy (Format formats.TooSmall) P = P
IsUntouchedBy (Format _) P = Unit {0}

-- what refuses a copy that is not made
abbrev pub fault_of : MakeFault → CopyFault
fault_of makes.TooSmall = Format formats.TooSmall
fault_of makes.Full = Full
fault_of makes.Device = Format formats.Device
fault_of (makes.Memory refused) = Format (formats.Memory refused)

-- the text for the user
abbrev pub copy_text : CopyFault → List ℕ
copy_text (Read fault) = show_text fault
copy_text Full = codes "the copy is too small for what the journal holds"
copy_text (Format fault) = format_text fault
