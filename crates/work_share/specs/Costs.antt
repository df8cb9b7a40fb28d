-- What operations cost, and what contracts see of that.
use Rattle.std.specs.Prelude.{◌*◌, ◌+◌, ℕ, length}
use Rattle.command_core.specs.declared.command.Op.{Op}
use Rattle.command_core.specs.declared.command.Op.TheVariants.{Commit}
use Rattle.work_share.specs.declared.audiences.TheConstants.{OPERATION}

-- what it costs if nobody listens: a transaction as much as its members
abbrev pub least_cost : Op → ℕ
least_cost (Commit members) = OPERATION * (1 + length members)
least_cost op = OPERATION

-- how many desks there are, and in how many places the audiences of topics are counted
pub record CostsValue : Type 0 where
  pub desks : ℕ
  pub places : ℕ
