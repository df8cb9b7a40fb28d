use Rattle.engine_core.specs.declared.fault.QueueFault.{QueueFault}
use Rattle.engine_core.specs.declared.fault.QueueFault.TheVariants as queue
use Rattle.engine_core.specs.declared.fault.ScriptFault.{ScriptFault}
use Rattle.engine_core.specs.declared.fault.ScriptFault.TheVariants.{Memory, CountTooLarge, Opening, Storing}

-- a fault of the queue as a fault of the script
abbrev pub of_queue : QueueFault → ScriptFault
of_queue (queue.Memory refused) = Memory refused
of_queue queue.CountTooLarge = CountTooLarge
of_queue (queue.Opening fault) = Opening fault
of_queue (queue.Storing fault) = Storing fault

-- memory was refused
abbrev pub IsMemory : QueueFault → Type 0
IsMemory (queue.Memory refused) = Unit {0}
IsMemory _ = ⊥
