use Rattle.std.proofs.Common.{rules}
use Rattle.area_core.proofs.area.Area.fits.Goals as goal

pub returns-then-left-ge10 : goal.returns-then-left-ge10
returns-then-left-ge10 c = search rules
