-- What opening a journal leaves, by its answer.
use Rattle.std.specs.Prelude.{◌≡◌, ◌≤◌, ◌+◌, ◌*◌, ◌^◌, ℕ, List, false, length, IfSome, IsSome}
use Rattle.disk_core.specs.declared.disk.Disk.{Ghosts}
use Rattle.disk_core.specs.Calls.{Lasts, Throughout}
use Rattle.command_core.specs.Commands.{CommandValue}
use Rattle.broker_core.specs.Operations.{restarted}
use Rattle.broker_core.specs.States.{BrokerValue, State}
use Rattle.area_core.specs.declared.area.Area.{Area}
use Rattle.area_core.specs.Areas.{number}
use Rattle.area_core.specs.Held.{IsAt}
use Rattle.area_core.specs.Puts.{Each}
use Rattle.recover_core.specs.declared.faults.OpenFault.{OpenFault}
use Rattle.recover_core.specs.declared.store.Store.{Store}
use Rattle.recover_core.specs.Opens.{HasRestarted, HoldsOnlySnapshot, IsRestartOf, IsUnwritten, KeepsEither, KeepsHeader, KeepsRestart}
use Rattle.recover_core.specs.Reads.{IsCounted}
use Rattle.recover_core.specs.Sound.{IsSound}
use Rattle.recover_core.specs.Standing.{StandFor, Stands}
use Rattle.recover_core.specs.Stores.{disk_of, is_broken, opened_by, size_of, used_of}
use Rattle.recover_core.specs.Told.{IfFull, IfRead, IsCausedBy, IsOpenTold, IsTooLongFor, IsWriteTold}

-- while what a restart leaves is written, an image stands for the state or for its restart, and keeps its header
pub record IsRestarting (images : List ℕ → Type 0) (area : Area) (s : State) (c : List ℕ) : Type 0 where
  pub either : KeepsEither images area s c
  pub header : KeepsHeader images c

-- If each image had an area, each now has a snapshot of the restart alone. The broker has the restart too. Area and broker are whole, and
-- the area is of the second version.
pub record Restarts {D : Type 0} (disk : Ghosts D) (old new : Area) (before after : D) (s : State) (broker : BrokerValue) : Type 0 where
  pub written : disk.honest before → (snapshot : List ℕ) (blocks : List (List CommandValue)) → Each (disk.images before) (IsAt old snapshot blocks) → HasRestarted (disk.images after) new s
  pub state : broker.state ≡ restarted s
  pub broker_whole : broker.broken ≡ false
  pub area_whole : new.broken ≡ false
  pub version : number new.version ≡ 2

-- What the fault says of writing the restart is true, and if the snapshot doesn't fit, nothing was written.
pub record RefusesRestart {D : Type 0} (size : ℕ) (s : State) (before after : D) (fault : OpenFault) : Type 0 where
  pub told : IsWriteTold fault size s
  pub full : IfFull fault (after ≡ before)

-- while a journal is opened, an image restarts as before, and keeps its header
pub record IsOpening (images : List ℕ → Type 0) (c : List ℕ) : Type 0 where
  pub restart : KeepsRestart images c
  pub header : KeepsHeader images c

-- The broker has the restart of the state that the content stood for. Each image now stands for that restart, by its snapshot alone.
pub record IsRestarted {D : Type 0} (disk : Ghosts D) (old new : D) (size used : ℕ) (broker : BrokerValue) : Type 0 where
  pub state : disk.honest old → (s : State) → Stands (disk.content old) s → broker.state ≡ restarted s
  pub stood : disk.honest old → IsRestartOf (disk.content old) broker.state
  pub stands : disk.honest old → StandFor (disk.images new) broker.state
  pub alone : disk.honest old → Each (disk.images new) (HoldsOnlySnapshot size used broker.state)
  pub counted : IsCounted broker

-- The area is of the second version and whole, the disk has both, and each image has it.
pub record OpensArea {D : Type 0} (disk : Ghosts D) (old new : D) (area : Area) (broker : BrokerValue) : Type 0 where
  pub version : number area.version ≡ 2
  pub whole : area.broken ≡ false
  pub room : 32 + 2 * area.size ≤ length (disk.content new)
  pub sound : disk.honest old → IsSound (disk.images new) area
  pub restarted : IsRestarted disk old new area.size (area.gate + 1) broker

-- What the fault says of the content is true, and it is not that what is left doesn't fit.
pub record RefusesToRead {D : Type 0} (disk : Ghosts D) (old : D) (fault : OpenFault) : Type 0 where
  pub told : disk.honest old → IsOpenTold fault (disk.content old)
  pub full : IfFull fault ⊥

-- What the fault says of the content is true. It reports a snapshot that doesn't fit only if the disk has room for areas that are too
-- small. If what was read is the reason, nothing was written.
pub record RefusesToOpen {D : Type 0} (disk : Ghosts D) (old new : D) (fault : OpenFault) : Type 0 where
  pub told : disk.honest old → IsOpenTold fault (disk.content old)
  pub full : IfFull fault (IsTooLongFor (length (disk.content old)))
  pub unwritten : disk.honest old → IfRead fault (IsUnwritten disk old new)

-- A store was opened: it is whole, with a broker to be handed out. The broker has the restart of the state that the content stood for. Each
-- image now stands for that restart, by its snapshot alone. At each moment an image restarted as before, and kept its header.
pub record Opens {D : Type 0} (disk : Ghosts D) (old : D) (store : Store D disk) : Type 0 where
  pub any_moment : Throughout disk old (disk_of store) (KeepsRestart (disk.images old))
  pub header : Throughout disk old (disk_of store) (KeepsHeader (disk.images old))
  pub state : disk.honest old → IfSome (opened_by store) (λ broker. (s : State) → Stands (disk.content old) s → broker.state ≡ restarted s)
  pub stood : disk.honest old → IfSome (opened_by store) (λ broker. IsRestartOf (disk.content old) broker.state)
  pub stands : disk.honest old → IfSome (opened_by store) (λ broker. StandFor (disk.images (disk_of store)) broker.state)
  pub compact : disk.honest old → IfSome (opened_by store) (λ broker. Each (disk.images (disk_of store)) (HoldsOnlySnapshot (size_of store) (used_of store) broker.state))
  pub opened : IsSome (opened_by store)
  pub small : IfSome (opened_by store) (λ broker. (broker.state.count ≤ 2 ^ 61) × (broker.broken ≡ false))
  pub whole : is_broken store ≡ false
  pub cause : disk.failures (disk_of store) ≡ disk.failures old
  pub lasts : Lasts disk old (disk_of store)

-- The disk comes back, with the fault. At each moment an image restarted as before, and kept its header. What the fault says of the content
-- is true, and if what was read is the reason, nothing was written.
pub record HandsBack {D : Type 0} (disk : Ghosts D) (old new : D) (fault : OpenFault) : Type 0 where
  pub any_moment : Throughout disk old new (KeepsRestart (disk.images old))
  pub header : Throughout disk old new (KeepsHeader (disk.images old))
  pub refused : disk.honest old → IsOpenTold fault (disk.content old)
  pub full : IfFull fault (IsTooLongFor (length (disk.content old)))
  pub unwritten : disk.honest old → IfRead fault (IsUnwritten disk old new)
  pub cause : IsCausedBy fault (disk.failures old) (disk.failures new)
  pub lasts : Lasts disk old new
