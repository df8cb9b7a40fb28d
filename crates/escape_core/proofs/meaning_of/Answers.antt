use Rattle.std.proofs.Common.{refl}
use Rattle.escape_core.proofs.meaning_of.Goals as goal

pub returns-in-110 : goal.returns-in-110
returns-in-110 c = rw c.in-110.is refl

pub returns-in-99 : goal.returns-in-99
returns-in-99 c = rw c.in-99.is refl
