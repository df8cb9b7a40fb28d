use Rattle.std.proofs.Common.{◌≡◌}
use Rattle.command_core.specs.Sendings.{kept_headers}
use Rattle.session_core.proofs.requests.kept_headers.Given as goal

abbrev pub invariant-loop-name : goal.invariant-loop-name
invariant-loop-name l = l.kept.items ≡ kept_headers l.yielded
