use Rattle.std.proofs.Common.{◌≡◌, ◌+◌, ◌≤◌, drop, length}
use Rattle.websocket.specs.Headers.{fields_of}
use Rattle.ws_core.specs.Fields.{values}
use Rattle.ws_core.proofs.handshake.count.Given as goal

abbrev pub invariant-loop-field : goal.invariant-loop-field
invariant-loop-field l = record {
  counted : l.count + length (values (fields_of l.head (drop l.field-index l.fields)) l.name) ≡ length (values (fields_of l.head l.fields) l.name);
  few : l.count ≤ l.field-index;
}
