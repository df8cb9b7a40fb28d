use Rattle.std.proofs.Common.{◌≡◌, ◌-◌, length}
use Rattle.command_core.specs.PartReading.{Reader, Reads, many_at}
use Rattle.command_core.proofs.ReadLoops.{with_front}
use Rattle.command_core.proofs.decoding.read_many.Given as goal

abbrev pub invariant-loop : goal.invariant-loop
invariant-loop g l = record {
  read : (one : Reader _) → Reads (goal.F-post g l.fn.read) one → with_front l.items.items (many_at one (l.count - l.counter) l.rest) ≡ many_at one l.count l.bytes;
  count : length l.items.items ≡ l.counter;
}
