use Rattle.std.specs.Prelude.{Option}
use Rattle.command_core.specs.Commands.{CommandValue}

-- a command, and the box that the outputs go to of the session that it opens
pub record EntryValue (B : Type 0) : Type 0 where
  pub command : CommandValue
  pub outbox : Option B
