use Rattle.world_core.proofs.Schedules.{every}
use Rattle.world_core.proofs.world.every_schedule.Goals as goal

pub returns : goal.returns
returns c = every
