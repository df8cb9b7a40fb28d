use Rattle.session_core.specs.Sessions.{fresh}
use Rattle.engine_core.specs.declared.running_script.ScriptConnection.{ScriptConnection}

-- a connection that has received nothing
abbrev pub new_connection : ScriptConnection
new_connection = record { session = fresh; number = 0 }
