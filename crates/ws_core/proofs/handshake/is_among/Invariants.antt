use Rattle.std.proofs.Common.{◌≡◌, bytes_eq, drop, map}
use Rattle.std.specs.List.{list_any}
use Rattle.ws_core.proofs.handshake.is_among.Given as goal

abbrev pub invariant-loop-served : goal.invariant-loop-served
invariant-loop-served l =
    list_any (λ served. bytes_eq served l.origin) (map (λ origin. origin.items) l.origins)
    ≡ list_any (λ served. bytes_eq served l.origin) (map (λ origin. origin.items) (drop l.served-index l.origins))
