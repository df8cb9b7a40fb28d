use Rattle.std.proofs.Common.{◌≡◌, drop, map}
use Rattle.std.specs.List.{list_all}
use Rattle.command_line.specs.Origins.{is_origin}
use Rattle.command_line.proofs.parsing.are_origins.Given as goal

abbrev pub invariant-loop-origin : goal.invariant-loop-origin
invariant-loop-origin l =
    list_all is_origin (map (λ origin. origin.now) (drop l.origin-index l.origins)) ≡ list_all is_origin (map (λ origin. origin.now) l.fn.origins)
