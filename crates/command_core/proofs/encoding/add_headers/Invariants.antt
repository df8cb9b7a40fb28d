use Rattle.std.proofs.Common.{◌≡◌, ◌+◌, ◌^◌, ◌<◌, take}
use Rattle.std.specs.List.{sum_by}
use Rattle.command_core.specs.Outs.{header_bytes}
use Rattle.command_core.proofs.encoding.add_headers.Given as goal

abbrev pub invariant-loop-name : goal.invariant-loop-name
invariant-loop-name l = record {
  sum : l.sum ≡ l.fn.bytes + sum_by header_bytes (take l.name-index l.headers);
  fits : l.sum < 2 ^ 64;
}
