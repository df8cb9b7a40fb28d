use Rattle.std.proofs.Common.{◌≡◌, ◌≤◌, fold, length, take}
use Rattle.work_share.specs.Counts.{with_byte}
use Rattle.work_share.proofs.audiences.place_of.Given as goal

abbrev pub invariant-loop-byte : goal.invariant-loop-byte
invariant-loop-byte l = (l.byte-index ≤ length l.byte-items) × (l.hash ≡ fold with_byte 14695981039346656037 (take l.byte-index l.byte-items))
