-- The first world is kept.
use Rattle.world_core.specs.Parts.{value_of}
use Rattle.world_core.proofs.Answered.{first_is_kept, is_first}
use Rattle.world_core.proofs.world.World.new.Goals as goal

pub invariant_of-result : goal.invariant_of-result
invariant_of-result c =
    let is = is_first c.args.area_bytes (value_of c.first_parts.result) c.in_ok-seats.seats.items c.in_ok-content.content.items c.in_ok-held.held.items c.first_parts.ensures c.in_ok-seats.ensures c.in_ok-content.ensures c.in_ok-held.ensures in
    first_is_kept c.args.area_bytes (value_of c.first_parts.result) c.requires.least c.requires.most is

pub returns : goal.returns
returns c =
    is_first c.args.area_bytes (value_of c.first_parts.result) c.in_ok-seats.seats.items c.in_ok-content.content.items c.in_ok-held.held.items c.first_parts.ensures c.in_ok-seats.ensures c.in_ok-content.ensures c.in_ok-held.ensures
