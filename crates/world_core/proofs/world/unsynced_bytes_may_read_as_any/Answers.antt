use Rattle.std.proofs.Common.{sym, ◌∙◌}
use Rattle.world_core.proofs.world.unsynced_bytes_may_read_as_any.Goals as goal

pub returns : goal.returns
returns c content other image held one two = record { size = two.size ∙ sym one.size; stable = λ i none. two.stable i none ∙ sym (one.stable i none) }
