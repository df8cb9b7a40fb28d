use Rattle.std.proofs.Common.{◌≡◌, ◌≤◌, ◌-◌, ◌++◌, List, length, vec_capacity}
use Rattle.command_core.specs.Entries.{EntryValue}
use Rattle.outbox_core.specs.Boxes.{SenderValue}
use Rattle.area_core.specs.Areas.{commands, records}
use Rattle.flush_core.specs.Batches.{IsBatch, with_more}
use Rattle.flush_core.proofs.flusher.Flusher.take_ready.Given as goal

abbrev pub invariant-loop-seat : goal.invariant-loop-seat
invariant-loop-seat g l = record {
  taken : (more : List (EntryValue SenderValue)) × (length more ≡ l.count) × (l.seat ≡ with_more l.fn.seat (commands more)) × (l.batch.items ≡ l.fn.batch.items ++ more);
  few : l.count ≤ length l.batch.items;
  room : g.W.Width.COMMANDS ≤ vec_capacity l.batch;
  bytes : l.bytes ≡ length (records (commands l.batch.items));
  batch : IsBatch g.W.Width.COMMANDS l.wanted (commands l.batch.items);
}

abbrev pub decreases-loop-seat : goal.decreases-loop-seat
decreases-loop-seat g l = g.W.Width.COMMANDS - length l.batch.items
