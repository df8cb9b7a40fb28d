use Rattle.std.proofs.Common.{rules}
use Rattle.command_line.proofs.program.Failure.status.Goals as goal

pub returns-in-Script : goal.returns-in-Script
returns-in-Script c = search rules

pub returns-in-Script-2 : goal.returns-in-Script-2
returns-in-Script-2 c = search rules

pub returns-in-Script-3 : goal.returns-in-Script-3
returns-in-Script-3 c = search rules

pub returns-in-CommandLine : goal.returns-in-CommandLine
returns-in-CommandLine c = search rules

pub returns-in-CommandLine-2 : goal.returns-in-CommandLine-2
returns-in-CommandLine-2 c = search rules
