-- In which order a sync asks an open file, its folder and its path.
use Rattle.std.specs.Prelude.{◌≡◌, ◌⊎◌, ◌++◌, ◌∷◌, [], ◌↔◌, ℕ, Bool, true, false, List, Option, Some, None, Result, IfOk, IsErr, IsTrue, OnErr, OnOk}
use Rattle.disk_core.specs.declared.loss.DeviceCause.{DeviceCause}
use Rattle.disk_core.specs.declared.loss.Known.{Known}
use Rattle.disk_core.specs.declared.loss.Node.{Node}
use Rattle.disk_core.specs.declared.naming.Look.{Look}
use Rattle.disk_core.specs.declared.naming.Noted.{Noted}
use Rattle.disk_core.specs.declared.synced_file.FileEvent.{FileEvent}
use Rattle.disk_core.specs.declared.synced_file.FileEvent.TheVariants.{FolderIs, PathIs, SizeIs, Synced, WrittenAt, WroteBack}
use Rattle.disk_core.specs.declared.file.SyncKept.{SyncKept}
use Rattle.disk_core.specs.declared.synced_file.SyncedFile.{Ghosts}
use Rattle.disk_core.specs.Faults.{IsOneMore}
use Rattle.disk_core.specs.Losses.{IsJudged}
use Rattle.disk_core.specs.Naming.{IsCounted, IsOf, StandsFor}

-- what is written back, if nothing was since the opening
abbrev pub written_back : Bool → List FileEvent
written_back true = WroteBack ∷ []
written_back false = []

-- What the path names, by these answers. Without a watched folder, the path is asked. If the last look stands for the folder's change, the path
-- is not asked, and names the file. Otherwise the path is asked after the folder, and the file's time after both; this is the new last look.
pub data Names (node : Node) (old new : Option Look) (answers : List FileEvent) (named : Option Node) : Type 0 where
  is_unwatched : answers ≡ FolderIs None ∷ PathIs named ∷ [] → new ≡ old → Names node old new answers named
  is_spared : (changed : Noted) → StandsFor old changed → IsCounted true old new → answers ≡ FolderIs (Some changed) ∷ [] → named ≡ Some node → Names node old new answers named
  is_looked_at : (changed written : Noted) (is_named : Bool) (look : Look) → (StandsFor old changed → ⊥) → (IsTrue is_named ↔ named ≡ Some node) → IsOf changed written is_named look → new ≡ Some look → answers ≡ FolderIs (Some changed) ∷ PathIs named ∷ WrittenAt written ∷ [] → Names node old new answers named

-- What is stale was written back, then all was made stable, then the file was measured, and then it was asked what the path names. These answers
-- decide whether the file is lost.
pub record HasSynced {T : Type 0} (before after : List FileEvent) (known : Known) (old new : SyncKept) (result : Result T DeviceCause) : Type 0 where
  pub size : ℕ
  pub named : Option Node
  pub answers : List FileEvent
  pub names : Names known.node old.last new.last answers named
  pub asked : after ≡ before ++ (written_back old.is_stale ++ Synced ∷ SizeIs size ∷ answers)
  pub fresh : new.is_stale ≡ false
  pub judged : IsJudged (record { named = named; size = size; header = known.header; last = known.last }) known result

-- A sync was made so, with no failure; or a call failed, and so does the sync.
abbrev pub SyncsBy : {F T : Type 0} → Ghosts F → F → F → Known → SyncKept → SyncKept → Result T DeviceCause → Type 0
SyncsBy file old new known kept_old kept_new result = (HasSynced (file.events old) (file.events new) known kept_old kept_new result × (file.failures new ≡ file.failures old)) ⊎ (IsErr result × IsOneMore (file.failures old) (file.failures new))

-- What is stale was written back, with no failure; or the call failed.
pub record WritesBack {F T : Type 0} (file : Ghosts F) (old new : F) (was_stale is_stale : Bool) (result : Result T DeviceCause) : Type 0 where
  pub ok : OnOk result (file.honest new × (file.events new ≡ file.events old ++ written_back was_stale) × (is_stale ≡ false) × (file.failures new ≡ file.failures old))
  pub err : OnErr result (IsOneMore (file.failures old) (file.failures new))

-- It was asked what the path names, with no failure; or a call failed.
pub record AsksPath {F : Type 0} (file : Ghosts F) (old new : F) (node : Node) (last now : Option Look) (result : Result (Option Node) DeviceCause) : Type 0 where
  pub ok : IfOk result (λ named. (answers : List FileEvent) × Names node last now answers named × (file.events new ≡ file.events old ++ answers) × (file.failures new ≡ file.failures old))
  pub err : OnErr result (IsOneMore (file.failures old) (file.failures new))
