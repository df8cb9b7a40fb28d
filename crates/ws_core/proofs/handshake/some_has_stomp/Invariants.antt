use Rattle.std.proofs.Common.{◌≡◌, drop}
use Rattle.std.specs.List.{list_any}
use Rattle.websocket.specs.Headers.{fields_of}
use Rattle.ws_core.specs.Fields.{values}
use Rattle.ws_core.specs.Offers.{has_stomp}
use Rattle.ws_core.proofs.handshake.some_has_stomp.Given as goal

abbrev pub invariant-loop-field : goal.invariant-loop-field
invariant-loop-field l =
    list_any has_stomp (values (fields_of l.head l.fields) l.name)
    ≡ list_any has_stomp (values (fields_of l.head (drop l.field-index l.fields)) l.name)
