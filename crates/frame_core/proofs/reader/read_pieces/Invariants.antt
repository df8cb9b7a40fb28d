use Rattle.std.proofs.Common.{◌≡◌, false, flat_map, take}
use Rattle.frame_core.specs.Streams.{Reads}
use Rattle.frame_core.proofs.reader.read_pieces.Given as goal

abbrev pub invariant-loop-piece : goal.invariant-loop-piece
invariant-loop-piece l = record {
  unfailed : l.reader.failed ≡ false;
  reads : Reads (flat_map (λ piece. piece.items) (take l.piece-index l.pieces)) l.frames.items l.reader.rest;
}
