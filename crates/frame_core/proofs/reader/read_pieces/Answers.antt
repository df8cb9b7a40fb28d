use Rattle.std.proofs.Common.{◌≡◌, ◌++◌, arith, flat_map, subst, List, ℕ, Vec, Global}
use Rattle.std.proofs.lemmas.List.{take_all}
use Rattle.std.proofs.lemmas.Result.{err_from_is_err_and}
use Rattle.std.proofs.lemmas.Grind.{common_steps}
use Rattle.frame_core.specs.Streams.{Reads}
use Rattle.frame_core.proofs.Pieces.{pieces_read, pieces_fail}
use Rattle.frame_core.proofs.reader.read_pieces.Goals as goal

pub returns-in-Some-clause-stream : goal.returns-in-Some-clause-stream
returns-in-Some-clause-stream c =
    let k = rw c.in-Some.is at c.in_ok-fed.ensures.fed in
    let all : c.append.new.self.items ≡ c.loop-piece.frames.items ++ c.in_ok-fed.fed.frames.items = grind (arith, common_steps) in
    pieces_fail (λ (piece : Vec ℕ Global). piece.items) c.args.pieces.now c.loop-piece.piece-index c.piece-item.result c.as_slice.result.now c.loop-piece.reader.rest
    c.loop-piece.frames.items c.in_ok-fed.fed.frames.items c.append.new.self.items c.in-Some.fault (omega arith) c.piece-item.is c.as_slice.ensures.value c.loop-piece.invariant.reads.0 k.0 all

pub loop-piece-preserved : goal.loop-piece-preserved
loop-piece-preserved c =
    let k = rw c.in_default.is at c.in_ok-fed.ensures.fed in
    let all : c.append.new.self.items ≡ c.loop-piece.frames.items ++ c.in_ok-fed.fed.frames.items = grind (arith, common_steps) in
    record {
      unfailed = k.1;
      reads = (
        pieces_read (λ (piece : Vec ℕ Global). piece.items) c.args.pieces.now c.loop-piece.piece-index c.piece-item.result c.as_slice.result.now c.loop-piece.reader.rest c.feed.new.self.rest
            c.loop-piece.frames.items c.in_ok-fed.fed.frames.items c.append.new.self.items (omega arith) c.piece-item.is c.as_slice.ensures.value c.loop-piece.invariant.reads.0 k.0.0 all,
        k.0.1,
      );
    }

pub returns-in_err-fed-clause-memory : goal.returns-in_err-fed-clause-memory
returns-in_err-fed-clause-memory c =
    let p = err_from_is_err_and c.from_residual.result c.from_residual.ensures.1 in
    rw (p.1, p.2) (c.in_err-fed.ensures.memory c.loop-piece.invariant.unfailed)

pub returns-clause-stream : goal.returns-clause-stream
returns-clause-stream c =
    let P : List (Vec ℕ Global) → Type 0 = λ pieces. Reads (flat_map (λ (piece : Vec ℕ Global). piece.items) pieces) c.loop-piece.frames.items c.loop-piece.reader.rest in
    (c.loop-piece.reader.rest, subst P (take_all c.loop-piece.piece-index c.args.pieces.now (omega arith)) c.loop-piece.invariant.reads)
