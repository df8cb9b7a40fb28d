use Rattle.std.proofs.Common.{◌≤◌, ◌-◌, ◌++◌, take, length}
use Rattle.frame_core.specs.Streams.{Frames}
use Rattle.frame_core.specs.Partials.{IsKept, bytes_of}
use Rattle.frame_core.proofs.reader.read_piece.Given as goal

abbrev pub invariant-loop-at : goal.invariant-loop-at
invariant-loop-at l = record {
  within : l.at ≤ length l.piece;
  reads : Frames (bytes_of l.initial.partial ++ take l.at l.piece) l.frames.items (bytes_of l.partial);
  kept : IsKept l.partial;
}

abbrev pub decreases-loop-at : goal.decreases-loop-at
decreases-loop-at l = length l.piece - l.at
