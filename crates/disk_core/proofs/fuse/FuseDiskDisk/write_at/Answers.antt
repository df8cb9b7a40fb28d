use Rattle.std.proofs.Common.{rules}
use Rattle.disk_core.proofs.fuse.FuseDiskDisk.write_at.Goals as goal

pub returns-in_err-write_at-clause-writes : goal.returns-in_err-write_at-clause-writes
returns-in_err-write_at-clause-writes g c = record {
  written = search rules;
  content = search rules;
  images = search rules;
  time = search rules;
  lasts = search rules;
}

pub returns-then-not-spend-clause-writes : goal.returns-then-not-spend-clause-writes
returns-then-not-spend-clause-writes g c = record {
  written = search rules;
  content = search rules;
  images = search rules;
  time = search rules;
  lasts = search rules;
}
