use Rattle.std.proofs.Common.{arith, ◌+◌, ◌++◌, [], take, length, sym, subst, ap, List, ℕ}
use Rattle.std.proofs.lemmas.Result.{err_from_is_err_and}
use Rattle.std.proofs.lemmas.List.{take_rest, length-drop}
use Rattle.frame_core.specs.declared.frame.Frame.{Frame}
use Rattle.frame_core.specs.Partials.{bytes_of}
use Rattle.frame_core.specs.Streams.{Frames, Fails}
use Rattle.frame_core.proofs.HeadFaults.{if_fault}
use Rattle.frame_core.proofs.Kept.{piece_advances, piece_fails}
use Rattle.frame_core.proofs.reader.read_piece.Goals as goal

pub returns-in_err-count-clause-fault : goal.returns-in_err-count-clause-fault
returns-in_err-count-clause-fault c =
    let q = err_from_is_err_and c.from_residual.result c.from_residual.ensures.1 in
    let piece = c.args.piece.now in
    let at = c.loop-at.at in
    let rest = bytes_of c.loop-at.partial in
    let a = c.loop-at.frames.items in
    rw (q.1, q.2) (if_fault c.in_err-count.field-0.0 _ _ (λ fault h.
    let P : List ℕ → Type 0 = λ x. Fails (rest ++ x) [] fault in
    let Q : List Frame → Type 0 = λ x. Fails (bytes_of c.args.partial.now ++ piece) x fault in
    subst Q (sym h.0) (piece_fails (bytes_of c.args.partial.now) piece rest at a fault c.loop-at.invariant.reads (subst P (take_rest piece at) h.1))) c.in_err-count.ensures.fault)

pub loop-at-preserved : goal.loop-at-preserved
loop-at-preserved c =
    let e = c.in_ok-count.ensures.ok in
    let piece = c.args.piece.now in
    let at = c.loop-at.at in
    let count = c.in_ok-count.count in
    let rest = bytes_of c.loop-at.partial in
    let last = bytes_of c.advance.new.self in
    let P : List ℕ → Type 0 = λ x. Frames (rest ++ take count x) e.done last in
    let Q : List Frame → Type 0 = λ x. Frames (bytes_of c.args.partial.now ++ take (at + count) piece) x last in
    let moved = piece_advances (bytes_of c.args.partial.now) piece rest last at count c.loop-at.frames.items e.done c.loop-at.invariant.reads (subst P (take_rest piece at) e.reads) in
    record {
      within = omega (arith, e.within, ap length (take_rest piece at), length-drop at piece);
      reads = subst Q (sym e.frames) moved;
      kept = e.kept;
    }
