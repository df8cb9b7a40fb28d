use Rattle.line_core.proofs.Inserted.{has_number-inserted, inserted_last, rising_inserted}
use Rattle.line_core.proofs.line.inserting_keeps_order.Goals as goal

pub returns : goal.returns
returns c = record { rising = rising_inserted; numbers = has_number-inserted; last = inserted_last }
