use Rattle.std.proofs.Common.{◌≡◌, length}
use Rattle.disk_core.specs.Memory.{crashed}
use Rattle.disk_core.specs.Spans.{IsHeldIn}
use Rattle.disk_core.proofs.span.put_all_back.Given as goal

abbrev pub invariant-loop-span : goal.invariant-loop-span
invariant-loop-span l = record {
  sizes : length l.held ≡ length l.fn.held;
  rest : IsHeldIn l.span-index l.spans l.held;
  after : crashed l.fill l.held l.bytes ≡ crashed l.fill l.fn.held l.fn.bytes;
}
