use Rattle.std.proofs.Common.{◌≡◌, take}
use Rattle.std.specs.List.{sum_by}
use Rattle.line_core.specs.Messages.{header_size}
use Rattle.line_core.proofs.message.headers_size.Given as goal

abbrev pub invariant-loop-name : goal.invariant-loop-name
invariant-loop-name l = l.size ≡ sum_by header_size (take l.name-index l.headers)
