-- Why the disk of a server failed.
use Rattle.std.specs.Prelude.{List, ℕ, ◌++◌, codes}
use Rattle.disk_core.specs.declared.loss.DeviceCause.{DeviceCause}
use Rattle.disk_core.specs.declared.loss.DeviceCause.TheVariants.{Removed, Replaced, Cut, Overwritten, NoSpace, InputOutput, Refused}

-- what the user reads of a cause
abbrev pub cause_text : DeviceCause → List ℕ
cause_text Removed = codes "the file was removed"
cause_text Replaced = codes "the file was replaced"
cause_text Cut = codes "the file was cut"
cause_text Overwritten = codes "the file was overwritten"
cause_text NoSpace = codes "no space left"
cause_text InputOutput = codes "input/output error"
cause_text Refused = codes "the system refused a call"

-- and of a disk that failed so
abbrev pub device_text : DeviceCause → List ℕ
device_text cause = codes "J3 device failed: " ++ cause_text cause
