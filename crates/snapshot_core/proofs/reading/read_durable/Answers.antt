use Rattle.std.proofs.Common.{List, ℕ}
use Rattle.std.proofs.lemmas.Result.{err_from_is_err_and}
use Rattle.broker_core.specs.Names.{Name}
use Rattle.snapshot_core.proofs.EntryParts.{entry_is, fails_in_bound, fails_in_name}
use Rattle.snapshot_core.proofs.reading.read_durable.Goals as goal

pub returns-in_err-name : goal.returns-in_err-name
returns-in_err-name c =
    let p = err_from_is_err_and c.from_residual.result c.from_residual.ensures.1 in
    rw (p.1, p.2) (fails_in_name c.args.bytes.now c.in_err-name.field-0.0 c.in_err-name.ensures)

pub returns-in_err-bound : goal.returns-in_err-bound
returns-in_err-bound c =
    let name : Name × List ℕ = (c.in_ok-name.name, c.in_ok-name.rest.now) in
    let p = err_from_is_err_and c.from_residual-in_err-bound.result c.from_residual-in_err-bound.ensures.1 in
    rw (p.1, p.2) (fails_in_bound c.args.bytes.now name c.in_ok-name.ensures c.in_err-bound.field-0.0 c.in_err-bound.ensures)

pub returns : goal.returns
returns c =
    let name : Name × List ℕ = (c.in_ok-name.name, c.in_ok-name.rest.now) in
    entry_is c.args.bytes.now name c.in_ok-name.ensures (c.in_ok-bound.bound, c.in_ok-bound.rest.now) c.in_ok-bound.ensures
