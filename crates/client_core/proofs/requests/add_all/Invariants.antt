use Rattle.std.proofs.Common.{◌≡◌, ◌++◌, drop}
use Rattle.client_core.specs.Requests.{texts}
use Rattle.client_core.proofs.requests.add_all.Given as goal

abbrev pub invariant-loop-name : goal.invariant-loop-name
invariant-loop-name l = l.headers.items ++ texts (drop l.name-index l.given) ≡ l.fn.headers.items ++ texts l.given
