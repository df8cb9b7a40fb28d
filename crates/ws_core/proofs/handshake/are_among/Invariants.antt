use Rattle.std.proofs.Common.{◌≡◌, bytes_eq, codes, drop, map}
use Rattle.std.specs.List.{list_all, list_any}
use Rattle.websocket.specs.Headers.{fields_of}
use Rattle.ws_core.specs.Fields.{values}
use Rattle.ws_core.proofs.handshake.are_among.Given as goal

abbrev pub invariant-loop-field : goal.invariant-loop-field
invariant-loop-field l =
    list_all (λ origin. list_any (λ served. bytes_eq served origin) (map (λ origin. origin.items) l.origins)) (values (fields_of l.head l.fields) (codes "Origin"))
    ≡ list_all (λ origin. list_any (λ served. bytes_eq served origin) (map (λ origin. origin.items) l.origins)) (values (fields_of l.head (drop l.field-index l.fields)) (codes "Origin"))
