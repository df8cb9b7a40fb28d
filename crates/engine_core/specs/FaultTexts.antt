use Rattle.std.specs.Prelude.{List, ◌++◌, ℕ, codes}
use Rattle.std.specs.Fmt.{decimal}
use Rattle.flush_core.specs.Faults.{flush_text}
use Rattle.recover_core.specs.Texts.{open_text}
use Rattle.engine_core.specs.declared.fault.ScriptFault.{ScriptFault}
use Rattle.engine_core.specs.declared.fault.ScriptFault.TheVariants.{Memory, NotUnderstood, CountTooLarge, Opening, Storing, Input, Output}

-- the text of a fault for the user
abbrev pub fault_text : ScriptFault → List ℕ
fault_text (Memory refused) = codes "no memory"
fault_text (NotUnderstood k) = codes "line " ++ decimal k ++ codes " not understood"
fault_text CountTooLarge = codes "J5 count too large"
fault_text (Opening fault) = open_text fault
fault_text (Storing fault) = flush_text fault
fault_text Input = codes "input or output failed"
fault_text Output = codes "input or output failed"
