use Rattle.std.proofs.Common.{◌≡◌, ◌++◌, drop, flat_map, string_bytes}
use Rattle.client_core.specs.Deeds.{header_line}
use Rattle.client_core.proofs.listening.add_headers.Given as goal

abbrev pub invariant-loop-name : goal.invariant-loop-name
invariant-loop-name l =
    string_bytes l.lines ++ flat_map header_line (drop l.name-index l.headers) ≡ flat_map header_line l.headers
