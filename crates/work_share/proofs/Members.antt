-- What the first members of a transaction show.
use Rattle.std.proofs.Common.{◌≡◌, ◌≢◌, List, [], ℕ, Option, Some, None}
use Rattle.std.specs.List.{AllByRecursion}
use Rattle.command_core.specs.declared.command.Member.{Member}
use Rattle.work_share.specs.Counts.{SendsTo}

-- these send to that one place, if there are any
abbrev pub SendTo : List Member → Option ℕ → Type 0
SendTo first None = first ≡ []
SendTo first (Some place) = (first ≢ []) × AllByRecursion (SendsTo place) first
