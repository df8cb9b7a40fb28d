-- Bytes of the header that mean nothing.
use Rattle.std.proofs.Common.{ℕ, List}
use Rattle.std.proofs.Math.Logic.{∥∥₁_map}
use Rattle.disk_core.specs.Images.{Torn}
use Rattle.disk_core.specs.declared.file.TheConstants.{SLACK_AT, SLACK_BYTES}
use Rattle.area_core.proofs.Journals.{reads_torn}
use Rattle.broker_core.specs.States.{State}
use Rattle.recover_core.specs.Standing.{Standing, Stands}

stands_on : (image torn : List ℕ) (s : State) → Torn SLACK_AT SLACK_BYTES image torn → Standing image s → Standing torn s
stands_on image torn s change it = record {
  version = it.version;
  size = it.size;
  selector = it.selector;
  snapshot = it.snapshot;
  blocks = it.blocks;
  reads = reads_torn it.version it.size it.selector it.snapshot it.blocks image torn change it.reads;
  leads = it.leads;
}

pub stands_torn : (image torn : List ℕ) (s : State) → Torn SLACK_AT SLACK_BYTES image torn → Stands image s → Stands torn s
stands_torn image torn s change stands = ∥∥₁_map stands (stands_on image torn s change)
