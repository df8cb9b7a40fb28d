use Rattle.world_core.proofs.Shown.{shown_holds}
use Rattle.world_core.proofs.world.shown_worlds_hold.Goals as goal

pub returns : goal.returns
returns g c disk base opening taken rest history published seen = shown_holds base opening taken rest history published seen (g.D.Disk.images disk)
