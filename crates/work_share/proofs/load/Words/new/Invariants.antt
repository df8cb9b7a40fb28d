use Rattle.std.proofs.Common.{◌≡◌, length}
use Rattle.work_share.proofs.load.Words.new.Given as goal

abbrev pub invariant-loop-place : goal.invariant-loop-place
invariant-loop-place l = length l.all.items ≡ l._place
