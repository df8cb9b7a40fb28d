use Rattle.std.proofs.Common.{◌≡◌, take}
use Rattle.work_share.specs.Lines.{does_one_wait, is_one_before}
use Rattle.work_share.proofs.costs.standing_among.Given as goal

abbrev pub invariant-loop-other : goal.invariant-loop-other
invariant-loop-other l = record {
  waits : l.does_one_wait ≡ does_one_wait (take l.other-index l.others);
  before : l.is_one_before ≡ is_one_before l.own (take l.other-index l.others);
}
