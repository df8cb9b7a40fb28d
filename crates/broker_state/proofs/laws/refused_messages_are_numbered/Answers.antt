use Rattle.std.proofs.Common.{refl}
use Rattle.broker_state.proofs.laws.refused_messages_are_numbered.Goals as goal

pub returns : goal.returns
returns c = record { one = refl; each = refl; old = refl; none = refl }
