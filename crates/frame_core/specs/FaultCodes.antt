use Rattle.std.specs.Prelude.{ℕ}
use Rattle.frame_core.specs.declared.fault.FrameFault.{FrameFault}
use Rattle.frame_core.specs.declared.fault.FrameFault.TheVariants.{Malformed, TooLarge, UndefinedEscape, UnknownCommand, BodyNotAllowed, BadHeaderValue}

-- the number of each fault
abbrev pub code_of : FrameFault → ℕ
code_of Malformed = 1
code_of TooLarge = 2
code_of UndefinedEscape = 3
code_of UnknownCommand = 4
code_of BodyNotAllowed = 19
code_of BadHeaderValue = 20
