-- The flusher's faults, by the faults of what it stands on.
use Rattle.std.specs.Prelude.{List, Result, Ok, Err, ℕ, codes, ◌≡◌}
use Rattle.disk_core.specs.Faults.{IsOneMore}
use Rattle.area_core.specs.declared.faults.AreaFault.{AreaFault}
use Rattle.area_core.specs.declared.faults.AreaFault.TheVariants as area
use Rattle.broker_core.specs.declared.broker.BrokerFault.{BrokerFault}
use Rattle.broker_core.specs.declared.broker.BrokerFault.TheVariants as broker
use Rattle.flush_core.specs.declared.faults.FlushFault.{FlushFault}
use Rattle.flush_core.specs.declared.faults.FlushFault.TheVariants.{Device, Full, Broken, Memory}

-- the text for the user, of commands that were not stored
abbrev pub flush_text : FlushFault → List ℕ
flush_text Device = codes "J3 device failed"
flush_text Full = codes "J4 journal full"
flush_text Broken = codes "J6 store broken"
flush_text (Memory refused) = codes "no memory"

-- what the store's fault is reported as
abbrev pub of_area : AreaFault → FlushFault
of_area area.Device = Device
of_area area.Full = Full
of_area area.Broken = Broken
of_area (area.Memory refused) = Memory refused

-- what the broker's fault is reported as
abbrev pub of_broker : BrokerFault → FlushFault
of_broker (broker.Memory refused) = Memory refused
of_broker broker.Broken = Broken

-- the disk failed just if that is the answer
abbrev pub IsFlushCaused : {T : Type 0} → ℕ → ℕ → Result T FlushFault → Type 0
IsFlushCaused before now (Ok _) = now ≡ before
IsFlushCaused before now (Err Device) = IsOneMore before now
IsFlushCaused before now (Err Full) = now ≡ before
IsFlushCaused before now (Err Broken) = now ≡ before
IsFlushCaused before now (Err (Memory _)) = now ≡ before

-- if memory was refused, this holds
abbrev pub IfMemory : {T : Type 0} → Result T FlushFault → Type 0 → Type 0
IfMemory (Err (Memory _)) P = P
IfMemory _ P = Unit {0}

-- a step that reaches no disk fails because memory is refused, or because a step failed before
abbrev pub NeedsNoDisk : {T : Type 0} → Result T FlushFault → Type 0
NeedsNoDisk (Ok _) = Unit {0}
NeedsNoDisk (Err Device) = ⊥
NeedsNoDisk (Err Full) = ⊥
NeedsNoDisk (Err Broken) = Unit {0}
NeedsNoDisk (Err (Memory _)) = Unit {0}

-- a step fails only because memory is refused
abbrev pub IsMemory : {T : Type 0} → Result T FlushFault → Type 0
IsMemory (Ok _) = Unit {0}
IsMemory (Err Device) = ⊥
IsMemory (Err Full) = ⊥
IsMemory (Err Broken) = ⊥
IsMemory (Err (Memory _)) = Unit {0}
