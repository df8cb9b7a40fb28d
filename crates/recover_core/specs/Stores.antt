-- What a store shows.
use Rattle.std.specs.Prelude.{◌+◌, ℕ, Bool, Option}
use Rattle.disk_core.specs.declared.disk.Disk.{Ghosts}
use Rattle.area_core.specs.Journals.{is_odd, other, start}
use Rattle.broker_core.specs.States.{BrokerValue}
use Rattle.recover_core.specs.declared.store.Store.{Store}

-- the disk that it stands on
abbrev pub disk_of : {D : Type 0} {disk : Ghosts D} → Store D disk → D
disk_of store = store.disk

-- how many bytes each of its two areas has
abbrev pub size_of : {D : Type 0} {disk : Ghosts D} → Store D disk → ℕ
size_of store = store.area.size

-- how many bytes of the live area are used: those up to its first closed gate, and that gate
abbrev pub used_of : {D : Type 0} {disk : Ghosts D} → Store D disk → ℕ
used_of store = store.area.gate + 1

-- where the area that is not live begins
abbrev pub idle_of : {D : Type 0} {disk : Ghosts D} → Store D disk → ℕ
idle_of store = start store.area.size (other (is_odd store.area.selector))

-- whether a step failed
abbrev pub is_broken : {D : Type 0} {disk : Ghosts D} → Store D disk → Bool
is_broken store = store.area.broken

-- the broker that was opened, until it is handed out
abbrev pub opened_by : {D : Type 0} {disk : Ghosts D} → Store D disk → Option BrokerValue
opened_by store = store.opened
