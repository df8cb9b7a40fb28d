use Rattle.session_core.proofs.Decimals.{has_value, is_value}
use Rattle.session_core.proofs.laws.ids_are_decimals.Goals as goal

pub returns : goal.returns
returns c = λ text n. (is_value text n, λ h. has_value text n h.0 h.1)
