use Rattle.std.proofs.Common.{rules}
use Rattle.disk_core.proofs.fuse.FuseDiskDisk.sync.Goals as goal

pub returns-then-not-spend-clause-syncs : goal.returns-then-not-spend-clause-syncs
returns-then-not-spend-clause-syncs g c = record {
  stable = search rules;
  failed = search rules;
  content = search rules;
  images = search rules;
  time = search rules;
  lasts = search rules;
}

pub returns-then-not-spend-clause-cause : goal.returns-then-not-spend-clause-cause
returns-then-not-spend-clause-cause g c = search rules
