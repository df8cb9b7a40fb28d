use Rattle.std.proofs.Common.{arith, subst, true, false}
use Rattle.std.proofs.lemmas.Result.{err_from_is_err_and}
use Rattle.engine_core.specs.Runs.{Turned}
use Rattle.engine_core.proofs.Turns.{turned_nothing, turned_later, stopped_by_count, stopped_later}
use Rattle.engine_core.proofs.run.read_to_end.Goals as goal

pub loop-read-init : goal.loop-read-init
loop-read-init g c = record { turned = turned_nothing c.args.run.now _ _ c.requires.begun; few = omega (arith, c.requires.first) }

pub returns-in_err-read_piece-clause-err : goal.returns-in_err-read_piece-clause-err
returns-in_err-read_piece-clause-err g c =
    let p = err_from_is_err_and c.from_residual.result c.from_residual.ensures.1 in
    rw (p.1, p.2) (stopped_later c.in_err-read_piece.field-0.0 c.args.run.now c.loop-read.run _ _ _ _ _ _ _ c.loop-read.invariant.turned c.in_err-read_piece.ensures.err)

pub returns-then-branch-clause-ok : goal.returns-then-branch-clause-ok
returns-then-branch-clause-ok g c =
    turned_later true c.args.run.now c.loop-read.run c.read_piece.new.run _ _ _ _ _ _ c.loop-read.invariant.turned
    (subst (λ end. Turned end c.loop-read.run c.read_piece.new.run (g.R.Read.remaining c.loop-read.reader) (g.R.Read.remaining c.read_piece.new.reader) (g.W.Write.contents c.loop-read.writer) (g.W.Write.contents c.read_piece.new.writer)) c.if-branch.true c.in_ok-read_piece.ensures.ok)

pub loop-read-preserved : goal.loop-read-preserved
loop-read-preserved g c = record {
  turned = turned_later false c.args.run.now c.loop-read.run c.read_piece.new.run _ _ _ _ _ _ c.loop-read.invariant.turned
      (subst (λ end. Turned end c.loop-read.run c.read_piece.new.run (g.R.Read.remaining c.loop-read.reader) (g.R.Read.remaining c.read_piece.new.reader) (g.W.Write.contents c.loop-read.writer) (g.W.Write.contents c.read_piece.new.writer)) c.if-branch.false c.in_ok-read_piece.ensures.ok);
  few = omega (arith, c.loop-read.invariant.few, c.in_ok-read_piece.ensures.few);
}

pub returns-clause-err : goal.returns-clause-err
returns-clause-err g c = stopped_by_count c.args.run.now c.loop-read.run _ _ _ _ c.loop-read.invariant.turned
