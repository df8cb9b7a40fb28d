use Rattle.std.specs.Prelude.{◌≡◌, ℕ, List, Option, None}
use Rattle.command_core.specs.declared.command.End.TheVariants.{Lost}
use Rattle.command_core.specs.declared.command.Op.{Op}
use Rattle.command_core.specs.declared.command.Op.TheVariants.{Open, End}
use Rattle.command_core.specs.Operations.{IsOp}

-- which session asks for what, and the receipt that it asks for
pub record CommandValue : Type 0 where
  pub session : ℕ
  pub op : Op
  pub receipt : Option (List ℕ)

-- the form of a session and a receipt beside an operation
abbrev pub Fits : Op → ℕ → Option (List ℕ) → Type 0
Fits (Open _) session receipt = (session ≡ 0) × (receipt ≡ None)
Fits (End Lost) session receipt = receipt ≡ None
Fits _ session receipt = Unit {0}

-- the form of a command
pub record IsCommand (c : CommandValue) : Type 0 where
  pub op : IsOp c.op
  pub fits : Fits c.op c.session c.receipt
