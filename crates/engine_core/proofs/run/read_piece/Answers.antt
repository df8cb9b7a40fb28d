use Rattle.std.proofs.Common.{◌≡◌, ◌<◌, arith, ap, take, length}
use Rattle.std.proofs.lemmas.Result.{err_from_is_err_and}
use Rattle.engine_core.proofs.Turns.{stopped_at_end, stopped_by_reader, turned_kept}
use Rattle.engine_core.proofs.run.read_piece.Goals as goal

pub returns-in_err-end-in-Ok-eq0-clause-err : goal.returns-in_err-end-in-Ok-eq0-clause-err
returns-in_err-end-in-Ok-eq0-clause-err g c =
    let p = err_from_is_err_and c.from_residual.result c.from_residual.ensures.1 in
    let read = c.in-Ok-eq0.ensures.bytes in
    let told = c.in_err-end-in-Ok-eq0.ensures.err in
    let none : c.in-Ok-eq0.field-0 ≡ 0 = c.in-Ok-eq0.field-0-test in
    let room : 0 < length c.read.new.buf = omega (arith, c.read.auto.buf, c.requires.piece) in
    rw (p.1, p.2) (stopped_at_end c.in_err-end-in-Ok-eq0.field-0.0 c.args.run.now (take c.in-Ok-eq0.field-0 c.read.new.buf) _ _ _ c.requires.begun read.0 (ap (λ k. take k c.read.new.buf) none) (read.1 none room) told.0 told.1)

pub returns-else-ne-clause-ok : goal.returns-else-ne-clause-ok
returns-else-ne-clause-ok g c = turned_kept c.args.run.now _ _ _ c.requires.begun c.in-Err.ensures.bytes

pub returns-then-ne-clause-err : goal.returns-then-ne-clause-err
returns-then-ne-clause-err g c = stopped_by_reader c.args.run.now _ _ _ c.requires.begun c.in-Err.ensures.bytes
