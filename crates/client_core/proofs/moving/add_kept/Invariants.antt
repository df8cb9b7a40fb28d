use Rattle.std.proofs.Common.{◌≡◌, ◌++◌, drop}
use Rattle.client_core.specs.Moving.{kept_headers}
use Rattle.client_core.proofs.moving.add_kept.Given as goal

abbrev pub invariant-loop-name : goal.invariant-loop-name
invariant-loop-name l = l.headers.items ++ kept_headers (drop l.name-index l.given) ≡ l.fn.headers.items ++ kept_headers l.given
