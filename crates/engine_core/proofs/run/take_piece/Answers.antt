use Rattle.std.proofs.Common.{ap}
use Rattle.std.proofs.lemmas.Result.{err_from_is_err_and, IfErr-weaker}
use Rattle.engine_core.specs.Runs.{IsTooLong}
use Rattle.engine_core.specs.Scripts.{disk_of}
use Rattle.engine_core.proofs.Pieces.{line_at, goes_on, stops_on, stops_at_end, left_of}
use Rattle.engine_core.proofs.run.take_piece.Goals as goal

pub returns-in_err-end_line-clause-err : goal.returns-in_err-end_line-clause-err
returns-in_err-end_line-clause-err g c =
    let p = err_from_is_err_and c.from_residual.result c.from_residual.ensures.1 in
    let so_far = c.loop-front.invariant in
    let line = line_at c.args.piece.now c.loop-front.at c.in-Some.front.now so_far.0 c.in-Some.ensures.1 in
    rw (p.1, p.2) (stops_on c.in_err-end_line.field-0.0 c.args.run.now c.loop-front.run c.args.piece.now c.loop-front.at c.in-Some.front.now _ _ _ _ line so_far.1 c.in_err-end_line.ensures.err)

pub loop-front-preserved : goal.loop-front-preserved
loop-front-preserved g c =
    let so_far = c.loop-front.invariant in
    let line = line_at c.args.piece.now c.loop-front.at c.in-Some.front.now so_far.0 c.in-Some.ensures.1 in
    (line.within, goes_on c.args.run.now c.loop-front.run c.end_line.new.run c.args.piece.now c.loop-front.at c.in-Some.front.now _ _ _ line so_far.1 c.in_ok-end_line.ensures.ok)

pub returns-clause-err : goal.returns-clause-err
returns-clause-err g c =
    let so_far = c.loop-front.invariant in
    IfErr-weaker c.begin_line.result (λ fault. IsTooLong fault c.loop-front.run (left_of c.args.piece.now c.loop-front.at)) _
    (λ fault long. stops_at_end fault c.args.run.now c.loop-front.run c.args.piece.now c.loop-front.at _ _ _ so_far.1 c.in_default.ensures (ap disk_of c.begin_line.ensures.same.0) long) c.begin_line.ensures.err
