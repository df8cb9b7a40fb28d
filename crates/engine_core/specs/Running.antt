-- A script while its disk runs: what its connections receive, and how they are gone.
use Rattle.std.specs.Prelude.{◌≡◌, List, [], ℕ, Some, true, unwrap_or}
use Rattle.std.specs.BTreeMap.{insert_entry, is_at}
use Rattle.std.specs.List.{fold}
use Rattle.std.specs.Map.{lookup, remove_entry}
use Rattle.std.specs.Ordering.{nat_cmp}
use Rattle.disk_core.specs.Memory.{Memory}
use Rattle.broker_core.specs.States.{State}
use Rattle.session_core.specs.Sessions.{Hearing, Hears, loss_of}
use Rattle.session_core.specs.declared.session.Act.{Act}
use Rattle.engine_core.specs.Connections.{new_connection}
use Rattle.engine_core.specs.Queues.{QueueOnDisk, QueueValue, Progress, ComeTo, IsTooFar, acted, acted_on, progress_of}
use Rattle.engine_core.specs.declared.running_script.ScriptConnection.{ScriptConnection}

-- a script while its disk runs: its connections by rising number, the queue, and the disk
pub record ScriptValue : Type 0 where
  pub connections : List (ℕ × ScriptConnection)
  pub queue : QueueValue
  pub disk : Memory

-- the queue of a script, with the disk
abbrev pub on_disk : ScriptValue → QueueOnDisk
on_disk s = record { queue = s.queue; disk = s.disk }

-- the script whose journal of this state was just opened on this disk: nobody is connected, and nothing waits
abbrev pub beginning : State → Memory → ScriptValue
beginning state disk = record { connections = []; queue = record { waiting = []; openers = []; state = state; durable = true }; disk = disk }

-- a connection, new if there is none
abbrev pub connection_at : ℕ → ScriptValue → ScriptConnection
connection_at n s = unwrap_or (lookup (is_at (nat_cmp n)) s.connections) new_connection

-- the script with a connection as it is now
abbrev pub with_connection : ℕ → ScriptConnection → List (ℕ × ScriptConnection) → List (ℕ × ScriptConnection)
with_connection n connection connections = insert_entry nat_cmp (remove_entry (is_at (nat_cmp n)) connections) n connection

-- A connection receives bytes: its session hears them, and what they ask for is done, act by act. None of it is a command that
-- comes once as many have been carried out as may be.
pub record Receives (s : ScriptValue) (n : ℕ) (bytes printed : List ℕ) (t : ScriptValue) : Type 0 where
  pub acts : List Act
  pub session : Hearing
  pub hears : Hears (connection_at n s).session bytes acts session
  pub within : ComeTo n IsTooFar (progress_of (connection_at n s).number s.queue []) acts → ⊥
  pub progress : Progress
  pub done : progress ≡ fold (acted n) (progress_of (connection_at n s).number s.queue []) acts
  pub same_text : printed ≡ progress.text
  pub after : t ≡ record { connections = with_connection n (record { session = session; number = progress.number }) s.connections; queue = progress.queue; disk = t.disk }

-- A connection acts on bytes: its session hears them, and what they ask for is done, act by act, and adds to a text. None of it is a
-- command that comes once as many have been carried out as may be.
pub record ActsOn (n : ℕ) (bytes : List ℕ) (old : ScriptConnection) (before : QueueValue) (text : List ℕ) (new : ScriptConnection) (after : QueueValue) (printed : List ℕ) : Type 0 where
  pub acts : List Act
  pub hears : Hears old.session bytes acts new.session
  pub within : ComeTo n IsTooFar (progress_of old.number before text) acts → ⊥
  pub done : progress_of new.number after printed ≡ fold (acted n) (progress_of old.number before text) acts

-- a connection's session hears bytes of which one asks for such an act
pub record HearsSuch (Such : ℕ → QueueValue → Act → Type 0) (n : ℕ) (bytes : List ℕ) (connection : ScriptConnection) (queue : QueueValue) (text : List ℕ) : Type 0 where
  pub acts : List Act
  pub session : Hearing
  pub hears : Hears connection.session bytes acts session
  pub come : ComeTo n Such (progress_of connection.number queue text) acts

-- a connection receives bytes of which one asks for such an act
abbrev pub ReceivesSuch : (ℕ → QueueValue → Act → Type 0) → ScriptValue → ℕ → List ℕ → Type 0
ReceivesSuch Such s n bytes = HearsSuch Such n bytes (connection_at n s) s.queue []

-- a connection is gone, and the end of its session is such an act
pub record LosesSuch (Such : ℕ → QueueValue → Act → Type 0) (s : ScriptValue) (n : ℕ) : Type 0 where
  pub act : Act
  pub is_loss : loss_of (connection_at n s).session.phase ≡ Some act
  pub such : Such n s.queue act

-- A connection is gone: the end of its session is done, if one is to come, and it is none of the connections any more. That end does
-- not come once as many commands have been carried out as may be.
pub record Loses (s : ScriptValue) (n : ℕ) (printed : List ℕ) (t : ScriptValue) : Type 0 where
  pub within : LosesSuch IsTooFar s n → ⊥
  pub progress : Progress
  pub done : progress ≡ acted_on n (progress_of (connection_at n s).number s.queue []) (loss_of (connection_at n s).session.phase)
  pub same_text : printed ≡ progress.text
  pub after : t ≡ record { connections = remove_entry (is_at (nat_cmp n)) s.connections; queue = progress.queue; disk = t.disk }
